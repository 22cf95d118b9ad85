use Rattle.text_drafts.proofs.row.RowDraft.leave_out.Given as goal

-- the field is what the draft says
abbrev pub ghost-then_field : goal.ghost-then_field
ghost-then_field a = a._value.now
