use Rattle.std.proofs.Common.{◌∙◌, ◌++◌, ◌∷◌, [], ap, w32, ℤ}
use Rattle.std.proofs.lemmas.Int.{to_z-of_z}
use Rattle.book_model.proofs.DayLemmas.{day_fits}
use Rattle.tree_rows.proofs.RunsRead.{zipped_next}
use Rattle.table_ledger.specs.Loaded.{IsCloseDay}
use Rattle.table_ledger.proofs.load.days_of.Goals as goal

pub loop-row-preserved : goal.loop-row-preserved
loop-row-preserved c =
    let rows = c.args.rows.now in
    let at = c.loop-row.row-index in
    let day = c.in_ok-day.day in
    let had = c.in_ok-day.ensures.has in
    let so_far = c.loop-row.days.items in
    let itself = to_z-of_z w32 day (day_fits day had.1) in
    let pushed = c.in_ok-push.ensures.items ∙ ap (λ (one : ℤ). so_far ++ one ∷ []) itself in
    zipped_next IsCloseDay rows at _ so_far c.push.new.self.items day c.loop-row-test.true pushed
    c.loop-row.invariant had
