use Rattle.std.proofs.Common.{sym}
use Rattle.book_model.proofs.Lemmas.{none_in}
use Rattle.plain_ledger.proofs.made_entries.has_kept.Goals as goal

-- a ruling keeps none
pub returns-in-Ruling : goal.returns-in-Ruling
returns-in-Ruling c = rw c.in-Ruling.is (sym (none_in c.args.bytes.now))

-- an import has those that it kept
pub returns-in-Going : goal.returns-in-Going
returns-in-Going c = rw c.in-Going.is (rw c.deref.ensures.value at c.has_bytes.ensures)

pub returns-in-Ended : goal.returns-in-Ended
returns-in-Ended c = rw c.in-Ended.is (rw c.deref-in-Ended.ensures.value at c.has_bytes-in-Ended.ensures)
