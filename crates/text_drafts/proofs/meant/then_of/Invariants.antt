use Rattle.text_drafts.proofs.meant.then_of.Given as goal

-- the piece is the caller's
abbrev pub ghost-then : goal.ghost-then
ghost-then g a = g.piece
