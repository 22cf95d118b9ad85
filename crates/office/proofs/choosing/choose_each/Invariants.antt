use Rattle.std.proofs.Common.{◌≡◌, ◌≤◌, None, length, take, vec_capacity, vec_len}
use Rattle.book_model.specs.Words.{note_given}
use Rattle.book_core.specs.Transition.{IsTransition}
use Rattle.office.specs.Choices.{ChoosesEach}
use Rattle.office.proofs.choosing.choose_each.Given as goal

-- the answers so far are those to the choices so far, and there is room for the others
abbrev pub invariant-loop-name : goal.invariant-loop-name
invariant-loop-name g l = record {
  chosen : IsTransition (g.L.Ledger.seen l.initial.ledger) (g.L.Ledger.seen l.ledger)
      (ChoosesEach (note_given l.note) l.withheld (g.L.Ledger.seen l.initial.ledger).naming
      (take l.name-index l.names) l.answers.items None);
  count : vec_len l.answers ≡ l.name-index;
  room : length l.names ≤ vec_capacity l.answers;
}
