use Rattle.std.specs.Char.{encode_utf8}
use Rattle.text_drafts.proofs.draft.Draft.push.Given as goal

-- the piece is the character
abbrev pub ghost-then_of : goal.ghost-then_of
ghost-then_of a = encode_utf8 a._value.now
