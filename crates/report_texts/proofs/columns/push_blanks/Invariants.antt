use Rattle.std.proofs.Common.{◌≡◌, ◌++◌}
use Rattle.report_texts.specs.Columns.{blanks}
use Rattle.report_texts.proofs.columns.push_blanks.Given as goal

-- that many blanks are appended so far
abbrev pub invariant-loop : goal.invariant-loop
invariant-loop l = l.out ≡ l.initial.out ++ blanks l.counter
