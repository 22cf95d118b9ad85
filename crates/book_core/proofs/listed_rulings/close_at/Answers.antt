use Rattle.std.proofs.Common.{◌≡◌, ◌∙◌, ◌+◌, ◌<◌, Some, ap, arith, length, pos, sym, slice_index_or}
use Rattle.std.proofs.Common.{option_map}
use Rattle.std.proofs.lemmas.Option.{slice_get-get_or}
use Rattle.book_model.specs.Words.{CloseSeen}
use Rattle.book_model.proofs.DayLemmas.{day_kept}
use Rattle.book_model.proofs.ListedLemmas.{close_seen_at, closes_count}
use Rattle.book_core.proofs.listed_rulings.close_at.Goals as goal

-- the number is past the closes
pub returns-then-number-count-clause-leads : goal.returns-then-number-count-clause-leads
returns-then-number-count-clause-leads c =
    let count = closes_count 1 c.args.closes.now in
    let behind = c.if-number-count.true in
    omega (arith, count, behind)

-- or the close there is shown
pub returns-clause-leads : goal.returns-clause-leads
returns-clause-leads c =
    let closes = c.args.closes.now in
    let number = c.args.number in
    let count = closes_count 1 closes in
    let within : number < length closes = c.if-number-count.false in
    let same : 1 + number ≡ number + 1 = omega arith in
    let day = slice_index_or closes number (pos 0) in
    let kept = day_kept day (c.requires.days number (pos 0) within) in (
      omega (arith, count, within),
      close_seen_at 1 closes number
          ∙ ap (option_map (CloseSeen (1 + number))) (slice_get-get_or closes number (pos 0) within)
          ∙ (λ i. Some (CloseSeen (same i) (sym kept i))),
    )
