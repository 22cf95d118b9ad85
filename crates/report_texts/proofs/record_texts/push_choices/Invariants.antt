use Rattle.std.proofs.Common.{◌≡◌, ◌++◌, take, flat_map}
use Rattle.report_texts.specs.RecordTexts.{choice_line}
use Rattle.report_texts.proofs.record_texts.push_choices.Given as goal

-- the lines of the choices so far are appended
abbrev pub invariant-loop-choice : goal.invariant-loop-choice
invariant-loop-choice l =
    let choices = take l.choice-index l.choices in
    l.out ≡ l.initial.out ++ flat_map choice_line choices
