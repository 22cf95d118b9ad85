use Rattle.text_drafts.proofs.meant_fields.then_field.Given as goal

-- the field is the caller's
abbrev pub ghost-then : goal.ghost-then
ghost-then g a = g.field
