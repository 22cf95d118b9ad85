use Rattle.hex.specs.Hex.{encode_lower}
use Rattle.text_drafts.proofs.draft.Draft.push_lower_hex.Given as goal

-- the piece is the bytes' digits
abbrev pub ghost-push_made : goal.ghost-push_made
ghost-push_made a = encode_lower a.value.now.now
