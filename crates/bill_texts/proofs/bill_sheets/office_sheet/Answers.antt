use Rattle.std.proofs.Common.{subst, sym, All}
use Rattle.report_texts.specs.Charges.{FitCharges}
use Rattle.report_texts.specs.declared.charges.CentreCharges.{CentreCharges}
use Rattle.bill_texts.proofs.bill_sheets.office_sheet.Goals as goal

-- what each centre is charged fits
pub office_sums-requires-clause-each : goal.office_sums-requires-clause-each
office_sums-requires-clause-each c =
    subst (All (λ (one : CentreCharges). FitCharges one.charges)) (sym c.deref.ensures.value)
    c.in_ok-own.ensures.each_fits
