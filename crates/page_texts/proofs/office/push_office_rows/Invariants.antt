use Rattle.std.proofs.Common.{◌≡◌, ◌≤◌, ◌++◌, drop, length, map}
use Rattle.book_model.specs.Words.{close_of}
use Rattle.page_texts.specs.Figures.{figures_seen}
use Rattle.page_texts.specs.OfficePage.{last_first, office_row}
use Rattle.page_texts.proofs.office.push_office_rows.Given as goal

-- the rows of the periods after the ones that are left are appended
abbrev pub invariant-loop-left : goal.invariant-loop-left
invariant-loop-left l = record {
  text : l.out
      ≡ l.initial.out
      ++ last_first (λ period figures. office_row period (close_of period l.closes) figures) l.left
      (drop l.left (map figures_seen l.periods));
  within : l.left ≤ length l.periods;
}

abbrev pub decreases-loop-left : goal.decreases-loop-left
decreases-loop-left l = l.left
