use Rattle.std.proofs.Common.{◌≡◌, ◌∙◌, ap, rules, take_all}
use Rattle.std.proofs.lemmas.Result.{IfOk-weaker}
use Rattle.book_model.proofs.Lemmas.{by_key_exact, by_key_total, joined, joined_all}
use Rattle.book_model.specs.Words.{by_key, row_key}
use Rattle.bill_texts.specs.ShiftSums.{places_of}
use Rattle.bill_texts.proofs.shift_sums.places_of.Goals as goal

-- the places of all have joined none
pub returns : goal.returns
returns c =
    let rows = c.args.rows.now in
    let none = c.new-places.result.keys in
    let all = c.loop-row.places.keys in
    let joined_rows : all ≡ places_of rows =
    joined_all by_key_total by_key_exact row_key none all rows c.new-places.ensures.empty
    (c.loop-row.invariant
    ∙ ap (joined by_key row_key none) (take_all c.loop-row.row-index rows c.loop-row-test.false)) in
    IfOk-weaker c.collect.result (λ places. places.items ≡ all) _ (λ places is. is ∙ joined_rows)
    (search rules)
