use Rattle.text_drafts.proofs.draft.Draft.leave_out.Given as goal

-- the piece is the caller's
abbrev pub ghost-then_of : goal.ghost-then_of
ghost-then_of g a = g.piece
