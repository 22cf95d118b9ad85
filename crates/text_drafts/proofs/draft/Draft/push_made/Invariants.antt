use Rattle.text_drafts.proofs.draft.Draft.push_made.Given as goal

-- the piece is the caller's
abbrev pub ghost-leave_out : goal.ghost-leave_out
ghost-leave_out g a = g.piece
