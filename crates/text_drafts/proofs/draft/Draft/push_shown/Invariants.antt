use Rattle.smf_text.specs.CodePage.{show_text}
use Rattle.text_drafts.proofs.draft.Draft.push_shown.Given as goal

-- the piece is the bytes as they are shown
abbrev pub ghost-push_made : goal.ghost-push_made
ghost-push_made a = show_text a.value.now.now
