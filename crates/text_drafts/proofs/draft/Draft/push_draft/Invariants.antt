use Rattle.text_drafts.proofs.draft.Draft.push_draft.Given as goal

-- the piece is what the other draft says
abbrev pub ghost-leave_out : goal.ghost-leave_out
ghost-leave_out a = a.value.now
