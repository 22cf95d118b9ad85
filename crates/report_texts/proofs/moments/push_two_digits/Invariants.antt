use Rattle.report_texts.specs.Moments.{in_two_digits}
use Rattle.report_texts.proofs.moments.push_two_digits.Given as goal

-- the piece is the number in two digits
abbrev pub ghost-push_made : goal.ghost-push_made
ghost-push_made a = in_two_digits a.value.now
