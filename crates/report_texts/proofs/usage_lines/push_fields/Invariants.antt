use Rattle.report_texts.proofs.AccountLines.{IsAt}
use Rattle.report_texts.proofs.usage_lines.push_fields.Given as goal

-- the lines of the fields so far are appended, and the others are in the rest
abbrev pub invariant-loop : goal.invariant-loop
invariant-loop l =
    IsAt l.count l.counter l.text l.rest l.initial.out l.out
