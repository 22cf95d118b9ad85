use Rattle.text_drafts.proofs.row.RowDraft.add_str.Given as goal

-- the field is the text
abbrev pub ghost-then_field : goal.ghost-then_field
ghost-then_field a = a._value.now.now
