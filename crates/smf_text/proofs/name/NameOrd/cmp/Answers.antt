use Rattle.std.proofs.Common.{◌∙◌, ap₂, nat_cmp}
use Rattle.smf_text.proofs.NameOrder.{names_in_order}
use Rattle.smf_text.proofs.name.NameOrd.cmp.Goals as goal

pub returns : goal.returns
returns c =
    c.cmp.ensures
    ∙ ap₂ nat_cmp c.as_number.ensures.value c.as_number-2.ensures.value
    ∙ names_in_order c.args.self.now c.args.other.now c.as_number.ensures.name
    c.as_number-2.ensures.name
