use Rattle.std.specs.Fmt.{decimal}
use Rattle.text_drafts.proofs.draft.Draft.push_number.Given as goal

-- the piece is the number
abbrev pub ghost-then_of : goal.ghost-then_of
ghost-then_of a = decimal a._value.now
