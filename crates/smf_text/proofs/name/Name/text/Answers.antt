use Rattle.smf_text.proofs.NameLemmas.{name_is_utf8}
use Rattle.smf_text.proofs.name.Name.text.Goals as goal

pub unreachable-requires : goal.unreachable-requires
unreachable-requires c = c.in-Err.ensures.cases.0 (name_is_utf8 _ c.characters.ensures.name)
