use Rattle.book_model.specs.Words.{has}
use Rattle.plain_ledger.specs.Plain.{held_in}
use Rattle.plain_ledger.proofs.plain.PlainBooks.under.Goals as goal

pub invariant_of-result-clause-recalls : goal.invariant_of-result-clause-recalls
invariant_of-result-clause-recalls g c = c.new-2.ensures (has (held_in c.new.result.entries))
