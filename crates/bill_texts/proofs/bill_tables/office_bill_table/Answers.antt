use Rattle.std.proofs.Common.{subst, sym, All}
use Rattle.report_texts.specs.Charges.{FitCharges}
use Rattle.report_texts.specs.declared.charges.CentreCharges.{CentreCharges}
use Rattle.bill_texts.proofs.bill_tables.office_bill_table.Goals as goal

-- what each centre is charged fits
pub add_centres-requires : goal.add_centres-requires
add_centres-requires c =
    subst (All (λ (one : CentreCharges). FitCharges one.charges)) (sym c.deref.ensures.value)
    c.in_ok-own.ensures.each_fits
