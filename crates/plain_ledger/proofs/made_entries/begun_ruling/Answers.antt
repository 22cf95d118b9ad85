use Rattle.book_model.specs.Journal.{Ruled}
use Rattle.plain_ledger.proofs.made_entries.begun_ruling.Goals as goal

pub returns : goal.returns
returns c = λ i. record {
  note = c.in_ok-note.ensures i;
  act = Ruled (c.in_ok-place.ensures i);
}
