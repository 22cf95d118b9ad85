use Rattle.std.proofs.Common.{FitsSigned, w32, ap, ◌∙◌}
use Rattle.std.proofs.lemmas.Int.{to_z-of_z}
use Rattle.std.proofs.lemmas.Result.{IfOk-weaker}
use Rattle.jiff_fmt.specs.Text.{date_text}
use Rattle.smf_text.proofs.DateLemmas.{date_text-day_text_of}
use Rattle.smf_text.proofs.day.day_text.Goals as goal

pub returns : goal.returns
returns c =
    let fits : FitsSigned w32 c.args.day = c.ranges.day in
    let date_is = simp to_z-of_z at c.date_of.ensures in
    let is =
    ap date_text c.from_plain-date.ensures
    ∙ date_text-day_text_of c.args.day c.date_of.result c.requires date_is in
    IfOk-weaker c.format.result _ _ (λ text e. e ∙ is) c.format.ensures.ok
