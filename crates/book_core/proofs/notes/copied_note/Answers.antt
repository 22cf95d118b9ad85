use Rattle.book_core.proofs.notes.copied_note.Goals as goal

pub returns : goal.returns
returns c = λ i. record {
  time = c.args.note.now.time;
  person = c.in_ok-person.ensures i;
  remark = c.in_ok-remark.ensures i;
  file = c.in_ok-file.ensures i;
}
