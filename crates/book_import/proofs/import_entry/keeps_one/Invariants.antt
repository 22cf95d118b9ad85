use Rattle.std.proofs.Common.{◌≡◌, drop}
use Rattle.book_import.specs.EntryWork as spec
use Rattle.book_import.proofs.import_entry.keeps_one.Given as goal

-- one is kept among those that are left, or none
abbrev pub invariant-loop-answer : goal.invariant-loop-answer
invariant-loop-answer l =
    spec.keeps_one (drop l.answer-index l.answers) ≡ spec.keeps_one l.answers
