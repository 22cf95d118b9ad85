use Rattle.std.proofs.Common.{◌≡◌, ◌++◌, map, take}
use Rattle.std.specs.List.{flat_map}
use Rattle.book_model.specs.Words.{dispute_shown}
use Rattle.page_texts.specs.PeriodTables.{dated_rows}
use Rattle.page_texts.proofs.period_disputes.push_disputes.Given as goal

-- the rows of the disputes so far are appended
abbrev pub invariant-loop-dispute : goal.invariant-loop-dispute
invariant-loop-dispute l =
    let shown = map dispute_shown (take l.dispute-index l.disputes) in
    l.out
    ≡ l.initial.out ++ flat_map (dated_rows l.before l.through) shown
