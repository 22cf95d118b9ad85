use Rattle.std.proofs.Common.{◌≡◌, drop, map}
use Rattle.std.specs.List.{fold}
use Rattle.std.specs.Prelude.{max}
use Rattle.page_texts.specs.Bars.{greatest}
use Rattle.page_texts.specs.Figures.{figures_seen}
use Rattle.page_texts.proofs.office.greatest_charged.Given as goal

-- the greatest so far and of the other periods is the greatest of all
abbrev pub invariant-loop-figures : goal.invariant-loop-figures
invariant-loop-figures l =
    fold max l.most
    (map (λ figures. figures.charged) (map figures_seen (drop l.figures-index l.periods)))
    ≡ greatest (λ figures. figures.charged) (map figures_seen l.periods)
