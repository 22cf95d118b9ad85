-- Rows of periods, the last one first.
use Rattle.std.proofs.Common.{◌≡◌, ◌∙◌, ℕ, ◌+◌, ◌-◌, ◌<◌, ◌≤◌, List, ◌++◌, ap, append_assoc, arith}
use Rattle.std.proofs.Common.{drop, get_or, length, map, sym}
use Rattle.std.proofs.lemmas.List.{drop_more, get_or-map, length-map}
use Rattle.page_texts.specs.Figures.{FiguresSeen, figures_seen}
use Rattle.page_texts.specs.OfficePage.{last_first}
use Rattle.page_texts.specs.declared.figures.PeriodFigures.{PeriodFigures}

-- the row of the period before those so far, after theirs
pub row_before : (row : ℕ → FiguresSeen → List ℕ) (periods : List PeriodFigures) (left : ℕ)
    (figures : PeriodFigures) (old : List ℕ) → 0 < left → left ≤ length periods
    → figures ≡ get_or periods (left - 1) figures
    → (old ++ last_first row left (drop left (map figures_seen periods)))
    ++ row left (figures_seen figures)
    ≡ old ++ last_first row (left - 1) (drop (left - 1) (map figures_seen periods))
row_before row periods left figures old some within is =
    let up : left - 1 + 1 ≡ left = omega arith in
    let all : List FiguresSeen = map figures_seen periods in
    let seen : FiguresSeen = figures_seen figures in
    let its : get_or all (left - 1) seen ≡ seen =
    get_or-map figures_seen periods (left - 1) figures seen (omega arith)
    ∙ ap figures_seen (sym is) in
    let rest = drop_more all (left - 1) seen (simp length-map (omega arith)) in
    append_assoc old (last_first row left (drop left all)) (row left seen)
    ∙ ap (λ rows. old ++ rows)
    (sym (ap (last_first row (left - 1)) rest
    ∙ (λ i. last_first row (up i) (drop (up i) all) ++ row (up i) (its i))))
