use Rattle.book_core.specs.Submissions.{records_in}
use Rattle.book_import.proofs.GroupStands.{left_after, next_left}
use Rattle.book_import.proofs.submitting.next_answer.Goals as goal

pub returns-in-Some : goal.returns-in-Some
returns-in-Some g c = record {
  asks = next_left (g.L.Ledger.seen c.args.ledger.now) c.args.entry.now c.args.counts.now c.args.ending
      (records_in c.args.waiting.now) c.in-Some.ensures;
  after = left_after c.args.entry.now c.args.counts.now c.args.ending (records_in c.args.waiting.now)
      c.in-Some.ensures;
}
