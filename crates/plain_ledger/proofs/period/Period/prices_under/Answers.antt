use Rattle.std.proofs.Common.{◌∙◌, Bool, subst, sym, All}
use Rattle.std.specs.Map.Iter.{deref_pair}
use Rattle.std.proofs.lemmas.List.Elements.{All-push}
use Rattle.std.proofs.lemmas.Map.Iter.{rest_more}
use Rattle.book_model.specs.Words.{IsPriced}
use Rattle.plain_ledger.specs.Plain.{Entry}
use Rattle.plain_ledger.specs.Treatments.{is_counted, treatment_in}
use Rattle.plain_ledger.proofs.OtherPriceLemmas.{cost_joins}
use Rattle.plain_ledger.proofs.period.Period.prices_under.Goals as goal

pub loop-name-preserved-in-Continue-1 : goal.loop-name-preserved-in-Continue-1
loop-name-preserved-in-Continue-1 c =
    let counted : Entry → Bool = λ entry.
    is_counted (treatment_in c.args.self.now c.args.posted.now entry) in
    let entry : Entry = (c.in-Some.name.now, c.in-Some.kept.now) in
    let took = rest_more deref_pair _ _ _ (c.in-Some.name, c.in-Some.kept) c.in-Some.is
    c.next.ensures.steps in
    record {
      whole = cost_joins c.args.tariff.now counted entry c.next.new.self c.loop-name.name-iterator
          c.loop-name.prices.items c.push.new.self.items c.price_by.result took
          (sym c.counts.ensures ∙ c.if-counts.true) c.price_by.ensures.value
          c.in_ok-push.ensures.items
          ∙ c.loop-name.invariant.whole;
      priced = subst (All IsPriced) (sym c.in_ok-push.ensures.items)
          (All-push IsPriced c.loop-name.prices.items c.price_by.result c.loop-name.invariant.priced
          c.price_by.ensures.bounds);
    }
