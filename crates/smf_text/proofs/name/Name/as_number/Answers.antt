use Rattle.std.proofs.Common.{◌∙◌, ap, subst}
use Rattle.smf_text.specs.Names.{IsName, digits_value, longest_name}
use Rattle.smf_text.proofs.NameOrder.{kept_number}
use Rattle.smf_text.proofs.name.Name.as_number.Goals as goal

pub returns : goal.returns
returns c = record {
  value = c.from_be_bytes.ensures
      ∙ kept_number _ _ c.self.invariant
      ∙ ap (digits_value longest_name) c.self.view_is;
  name = subst IsName c.self.view_is c.self.invariant.name;
}
