use Rattle.std.proofs.Common.{subst, sym, All}
use Rattle.book_model.specs.declared.bill.BilledLine.{BilledLine}
use Rattle.book_model.specs.Words.{IsDay}
use Rattle.report_texts.proofs.ChargeLemmas.{billed_days}
use Rattle.bill_texts.proofs.bill_tables.bill_table.Goals as goal

-- the lines are dated on days, as a bill's are
pub add_lines-requires : goal.add_lines-requires
add_lines-requires c =
    subst (All (λ (one : BilledLine). IsDay one.line.priced.day)) (sym c.deref-6.ensures.value)
    (billed_days c.args.bill.now.lines.items c.requires.lines)
