use Rattle.std.proofs.Common.{◌≡◌, drop, map}
use Rattle.std.specs.List.{fold}
use Rattle.page_texts.specs.Figures.{figures_seen}
use Rattle.page_texts.specs.OfficePage as page
use Rattle.page_texts.proofs.centres.all_centres.Given as goal

-- with those of the periods that are left they are all
abbrev pub invariant-loop-figures : goal.invariant-loop-figures
invariant-loop-figures l =
    fold page.with_centres l.centres.keys (map figures_seen (drop l.figures-index l.periods))
    ≡ page.all_centres (map figures_seen l.periods)
