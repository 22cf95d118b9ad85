use Rattle.std.proofs.Common.{subst, sym}
use Rattle.bill_texts.proofs.ShiftLemmas.{AreDated}
use Rattle.bill_texts.proofs.work_rows.by_shift.Goals as goal

-- the sums are dated on days
pub day_rows-requires : goal.day_rows-requires
day_rows-requires c = subst AreDated (sym c.deref.ensures.value) c.in_ok-sums.ensures.days
