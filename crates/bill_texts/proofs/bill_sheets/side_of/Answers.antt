use Rattle.std.proofs.Common.{subst, sym, All}
use Rattle.book_model.specs.declared.bill.BilledLine.{BilledLine}
use Rattle.book_model.specs.Words.{IsDay}
use Rattle.report_texts.proofs.ChargeLemmas.{billed_days}
use Rattle.bill_texts.proofs.bill_sheets.side_of.Goals as goal

-- the lines are dated on days, as a bill's are
pub side_part-requires : goal.side_part-requires
side_part-requires c =
    subst (All (λ (one : BilledLine). IsDay one.line.priced.day)) (sym c.deref.ensures.value)
    (billed_days c.args.bill.now.lines.items c.requires.lines)
