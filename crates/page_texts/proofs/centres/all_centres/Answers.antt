use Rattle.std.proofs.Common.{◌∙◌, ap, map}
use Rattle.std.specs.List.{fold}
use Rattle.page_texts.proofs.NameLemmas.{centres_joined}
use Rattle.page_texts.specs.Figures.{figures_seen}
use Rattle.page_texts.specs.OfficePage.{with_centres}
use Rattle.page_texts.proofs.centres.all_centres.Goals as goal

pub loop-figures-init : goal.loop-figures-init
loop-figures-init c =
    let periods = map figures_seen c.args.periods.now in
    ap (λ names. fold with_centres names periods) c.new-centres.ensures.empty ∙ centres_joined periods
