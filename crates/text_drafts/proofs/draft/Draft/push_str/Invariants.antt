use Rattle.text_drafts.proofs.draft.Draft.push_str.Given as goal

-- the piece is the text
abbrev pub ghost-then_of : goal.ghost-then_of
ghost-then_of a = a._value.now.now
