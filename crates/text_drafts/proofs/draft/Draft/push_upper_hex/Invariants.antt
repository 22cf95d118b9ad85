use Rattle.hex.specs.Hex.{encode_upper}
use Rattle.text_drafts.proofs.draft.Draft.push_upper_hex.Given as goal

-- the piece is the bytes' digits
abbrev pub ghost-push_made : goal.ghost-push_made
ghost-push_made a = encode_upper a.value.now.now
