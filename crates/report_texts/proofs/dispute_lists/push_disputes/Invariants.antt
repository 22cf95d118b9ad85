use Rattle.std.proofs.Common.{◌≡◌, ◌++◌, map, take, flat_map}
use Rattle.book_model.specs.Words.{dispute_shown}
use Rattle.report_texts.specs.DisputeLists.{dispute_lines}
use Rattle.report_texts.proofs.dispute_lists.push_disputes.Given as goal

-- the lines of the disputes so far are appended
abbrev pub invariant-loop-dispute : goal.invariant-loop-dispute
invariant-loop-dispute l =
    let shown = map dispute_shown (take l.dispute-index l.disputes) in
    l.out ≡ l.initial.out ++ flat_map dispute_lines shown
