use Rattle.std.proofs.Common.{Some, ap}
use Rattle.plain_ledger.proofs.made_entries.begun_by.Goals as goal

-- a ruling has one of its own
pub returns-in_ok-begun_ruling-in-Ruling : goal.returns-in_ok-begun_ruling-in-Ruling
returns-in_ok-begun_ruling-in-Ruling c =
    rw c.in-Ruling.is (ap Some c.in_ok-begun_ruling-in-Ruling.ensures)

-- an import begins one with its first record
pub returns-in_ok-begun_if-in-Import : goal.returns-in_ok-begun_if-in-Import
returns-in_ok-begun_if-in-Import c =
    rw c.in-Import.is (rw c.deref.ensures.value at c.in_ok-begun_if-in-Import.ensures)
