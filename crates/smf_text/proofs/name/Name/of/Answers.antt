use Rattle.std.proofs.Common.{refl, sym, ◌∙◌}
use Rattle.smf_text.proofs.NameLemmas.{padded_at_front}
use Rattle.smf_text.proofs.name.Name.of.Goals as goal

pub invariant_of-result : goal.invariant_of-result
invariant_of-result c =
    let is_name = sym c.is_name.ensures ∙ c.if-not-is_name.false in
    let at_front = c.copy_from_slice.ensures.after ∙ c.as_bytes.ensures.value in
    padded_at_front _ _ _ is_name at_front refl
