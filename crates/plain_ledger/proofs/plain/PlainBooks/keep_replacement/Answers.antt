use Rattle.std.proofs.Common.{◌≡◌, ◌∙◌, ◌++◌, List, [], ◌∷◌, Some, ap, length, map, subst, sym, true}
use Rattle.std.proofs.Common.{string_bytes, arith, filter, length-append, ◌≤◌, ◌+◌, ℕ}
use Rattle.std.proofs.lemmas.List.{length-map}
use Rattle.book_model.proofs.Std.{IsStrictlySortedBy, list_any, map-append}
use Rattle.book_model.specs.Words.{AcceptedTerms, Replaced, Rulings, by_bytes, has, is_effective}
use Rattle.book_model.specs.Words.{most_replaced, open_by, replaced_in, with_replaced}
use Rattle.book_model.proofs.Lemmas.{replace_passes}
use Rattle.book_model.proofs.ReplacedLemmas.{replaced_rising}
use Rattle.book_core.specs.Words.{in_its_place, ruled_in}
use Rattle.plain_ledger.specs.Plain.{AllPass, AreBooked, replaced_of, ruled_by}
use Rattle.plain_ledger.specs.PlainBook.{book_in, book_with}
use Rattle.plain_ledger.specs.Repricing.{AreRepriced, cost_replaced, price_replaced}
use Rattle.plain_ledger.proofs.RepricingLemmas.{book_stays, held_stay, names_stay, still_named-anew}
use Rattle.plain_ledger.proofs.ReplacedRulings.{passes_apart, ruled-replaced}
use Rattle.plain_ledger.proofs.TariffLemmas.{each_replaced, fits_anew, kept_anew}
use Rattle.plain_ledger.proofs.plain.PlainBooks.keep_replacement.Given.{Over}
use Rattle.plain_ledger.proofs.plain.PlainBooks.keep_replacement.Goals.{After-push_reserved}
use Rattle.plain_ledger.proofs.plain.PlainBooks.keep_replacement.Goals.{After-replace_prices}
use Rattle.plain_ledger.proofs.plain.PlainBooks.keep_replacement.Goals as goal

-- the tariff to be replaced is there
pub put_replacement-was-requires-clause-there : goal.put_replacement-was-requires-clause-there
put_replacement-was-requires-clause-there g c =
    subst (λ (rulings : Rulings).
    list_any (is_effective c.args.tariff.effective) rulings.tariffs ≡ true)
    (sym c.reserve_tariff.ensures.same)
    (replace_passes (book_in c.args.self.now) c.args.text.now c.args.tariff c.requires.done).found

-- the records at their new prices, by the tariffs of the book
repriced : (g : Over) (c : After-replace_prices g)
    → AreRepriced (price_replaced (ruled_in c.args.self.now.rulings).tariffs c.args.tariff)
    c.args.self.now.held.entries c.replace_prices.new.held.entries
repriced g c =
    subst (λ (tariffs : List AcceptedTerms). AreRepriced (price_replaced tariffs c.args.tariff)
    c.args.self.now.held.entries c.replace_prices.new.held.entries)
    (c.tariffs.ensures ∙ ap (λ (rulings : Rulings). rulings.tariffs) c.reserve_tariff.ensures.same)
    c.replace_prices.ensures

-- the rulings then
ruled : (g : Over) (c : After-push_reserved g)
    → ruled_by c.put_replacement-was.new.self c.args.self.now.choices.items
    c.push_reserved.new.self.items c.args.self.now.credits.items
    ≡ with_replaced c.args.text.now c.args.tariff (book_in c.args.self.now).rulings
ruled g c =
    let ledger = c.args.self.now in
    let new : AcceptedTerms =
    record { text = Some (string_bytes c.in_ok-text.text); terms = c.args.tariff } in
    ruled-replaced c.put_replacement-was.new.self ledger.rulings ledger.choices.items
    ledger.replaced.items c.push_reserved.new.self.items ledger.credits.items c.args.text.now
    c.args.tariff c.put_replacement-was.result c.open_number-period.result
    (c.put_replacement-was.ensures.put
    ∙ ap (in_its_place new) c.reserve_tariff.ensures.same
    ∙ ap (λ (text : List ℕ). in_its_place (record { text = Some text; terms = c.args.tariff })
    (ruled_in ledger.rulings)) c.in_ok-text.ensures.ok)
    (ap (λ (rulings : Rulings). filter (is_effective c.args.tariff.effective) rulings.tariffs)
    (sym c.reserve_tariff.ensures.same) ∙ c.put_replacement-was.ensures.was)
    (c.open_number-period.ensures.number
    ∙ ap open_by c.reserve_tariff.ensures.same)
    (c.push_reserved.ensures.items
    ∙ ap (λ replaced. replaced ++ record {
      tariff = c.put_replacement-was.result;
      period = c.open_number-period.result;
    } ∷ []) c.reserve.ensures.items)

pub returns-clause-book : goal.returns-clause-book
returns-clause-book g c =
    let ledger = c.args.self.now in
    let at = goal.at.returns-clause-book g c in
    let closed = ledger.closed.items in
    book_stays (repriced g at.After-replace_prices)
    (ruled_by c.put_replacement-was.new.self ledger.choices.items c.push_reserved.new.self.items
    ledger.credits.items) ledger.posted closed
    ∙ ap (λ rulings. book_with rulings ledger.held.entries ledger.posted closed)
    (ruled g at.After-push_reserved)

pub invariant_of-self-2 : goal.invariant_of-self-2
invariant_of-self-2 g c =
    let ledger = c.args.self.now in
    let at = goal.at.invariant_of-self-2 g c in
    let names = g.N.Naming.name_of ledger.naming in
    let text = c.args.text.now in
    let terms = c.args.tariff in
    let rulings = (book_in ledger).rulings in
    let after = with_replaced text terms rulings in
    let taken = replace_passes (book_in ledger) text terms c.requires.done in
    let fits = passes_apart _ _ taken.fits in
    let each = each_replaced ledger.kept text terms in
    let price = price_replaced rulings.tariffs terms in
    let small = fits_anew ledger.kept after price each ledger.rising fits.0 in
    let in_order =
    replaced_rising (record { text = Some text; terms = terms }) rulings.tariffs
    ledger.kept.in_order in
    let is = repriced g at.After-replace_prices in
    let anew = c.replace_prices.new.held.entries in
    let ruled = sym (ruled g at.After-push_reserved) in
    let put = c.push_reserved.ensures.items
    ∙ ap (λ replaced. replaced ++ record {
      tariff = c.put_replacement-was.result;
      period = c.open_number-period.result;
    } ∷ []) c.reserve.ensures.items in
    record {
      rising = subst (IsStrictlySortedBy by_bytes) (sym (names_stay is)) ledger.rising;
      kept = subst (λ rulings. AreBooked names rulings anew c.args.total) ruled
          (subst (AreBooked names _ anew) (sym c.requires.total)
          (kept_anew ledger.kept after price each in_order anew is small));
      recalls = subst (λ held. AllPass (has held) ledger.cache) (sym (held_stay is))
          ledger.recalls;
      named = still_named-anew is ledger.posted ledger.closed.items ledger.named;
      few = ledger.few;
      few_replaced =
          let long = length-map ledger.replaced.items replaced_of in
          let more = length-append ledger.replaced.items (record {
            tariff = c.put_replacement-was.result;
            period = c.open_number-period.result;
          } ∷ []) in
          let room = fits.1 in
          subst (λ replaced. length replaced ≤ most_replaced) (sym put)
          (omega (arith, long, more, room));
      few_credits = ledger.few_credits;
      counted = ledger.counted ∙ ap (λ (rulings : Rulings). length rulings.closes) ruled;
    }
