use Rattle.book_laws.proofs.BillChecks.{billed_rows_check}
use Rattle.book_laws.proofs.CheckLemmas.{rows_check}
use Rattle.book_laws.proofs.bill_checks.billed_rows_check.Goals as goal

pub returns : goal.returns
returns c = record { rows = rows_check; bills = billed_rows_check }
