use Rattle.std.proofs.Common.{◌≡◌, ◌++◌, map, take}
use Rattle.std.specs.List.{flat_map}
use Rattle.page_texts.specs.PeriodHead.{report_link}
use Rattle.page_texts.proofs.period_head.push_links.Given as goal

-- the links so far are appended
abbrev pub invariant-loop-path : goal.invariant-loop-path
invariant-loop-path l =
    l.out
    ≡ l.initial.out
    ++ flat_map (report_link l.period) (map (λ path. path.now) (take l.path-index l.paths))
