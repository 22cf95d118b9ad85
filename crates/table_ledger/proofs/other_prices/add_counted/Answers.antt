use Rattle.std.proofs.Common.{◌≡◌, ◌∙◌, ◌++◌, ◌∷◌, [], sym, ap, subst}
use Rattle.book_model.specs.Words.{Priced, price_by, record_with}
use Rattle.table_model.specs.Words.{row_record}
use Rattle.table_ledger.proofs.Words.{IfOk-weaker, AreSumsOf, SumsUp, costs_of}
use Rattle.table_ledger.specs.OtherPrices.{Costs, passes_mark}
use Rattle.table_ledger.proofs.OtherPriceLemmas.{costs_more, costs_same}
use Rattle.table_ledger.proofs.other_prices.add_counted.Goals as goal

-- a record that is not counted leaves them
pub returns-then-not-counts : goal.returns-then-not-counts
returns-then-not-counts c = record {
  counted = λ passed came entry is are.
      subst (AreSumsOf c.args.sums.now)
      (sym (costs_same c.args.tariff.now c.args.test.now passed entry
      (ap (passes_mark c.args.test.now) (sym (c.in_ok-mark.ensures.read came entry is))
      ∙ sym c.counts.ensures ∙ c.if-not-counts.true))) are;
}

-- one that is counted joins them
pub returns : goal.returns
returns c = record {
  counted =
      let terms = c.args.tariff.now in
      let test = c.args.test.now in
      let more = c.add.new.self in
      IfOk-weaker c.add.result (λ room. (costs : Costs) → AreSumsOf c.args.sums.now costs
      → SumsUp more (costs ++ c.price.result ∷ []) room) _
      (λ room adds passed came entry is are.
      let counted = ap (passes_mark test) (sym (c.in_ok-mark.ensures.read came entry is))
      ∙ sym c.counts.ensures ∙ c.if-not-counts.false in
      let price : c.price.result ≡ price_by terms (row_record entry.1) =
      c.price.ensures.value
      ∙ ap (price_by terms) (c.in_ok-usage_in.ensures.value ∙ c.deref.ensures.value
      ∙ c.in_ok-put_data.ensures.bytes
      ∙ ap record_with (c.in_ok-data_of.ensures.read came entry is)) in
      subst (λ costs. SumsUp more costs room)
      (ap (λ (one : Priced). costs_of terms test passed ++ one ∷ []) price
      ∙ sym (costs_more terms test passed entry counted))
      (adds (costs_of terms test passed) are)) c.add.ensures.sums;
}
