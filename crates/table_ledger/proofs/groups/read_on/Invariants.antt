use Rattle.std.proofs.Common.{◌≡◌, take}
use Rattle.book_model.specs.Words.{read_with, reading_shown}
use Rattle.table_ledger.proofs.groups.read_on.Given as goal

-- the answers so far are counted
abbrev pub invariant-loop-answer : goal.invariant-loop-answer
invariant-loop-answer l =
    reading_shown l.read ≡ read_with (take l.answer-index l.answers) (reading_shown l.fn.reading)
