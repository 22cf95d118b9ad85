use Rattle.std.proofs.Common.{◌∙◌, ◌<◌, Some, ap, arith, length, map, option_map, sym}
use Rattle.std.proofs.lemmas.List.{length-map}
use Rattle.std.proofs.lemmas.Option.{slice_get-get_or, slice_get-map, slice_get_past}
use Rattle.book_model.specs.declared.bill.Credit.{Credit}
use Rattle.book_model.specs.Words.{credit_shown}
use Rattle.plain_ledger.proofs.credits.credit_at.Goals as goal

-- there are no more
pub returns-then-place-count : goal.returns-then-place-count
returns-then-place-count c =
    let credits = c.args.credits.now in
    let all = length-map credits credit_shown in
    sym (slice_get_past (map credit_shown credits) c.args.place
    (omega (arith, all, c.if-place-count.true)))

-- or it is that one
pub returns : goal.returns
returns c =
    let credits = c.args.credits.now in
    let credit = c.index-credits-at.result in
    let within : c.args.place < length credits = omega (arith, c.if-place-count.false) in
    ap Some c.in_ok-copy.ensures
    ∙ ap (λ (one : Credit). Some (credit_shown one)) c.index-credits-at.is
    ∙ ap (option_map credit_shown) (sym (slice_get-get_or credits c.args.place credit within))
    ∙ sym (slice_get-map credit_shown credits c.args.place)
