use Rattle.std.proofs.Common.{◌≡◌, ◌++◌, map, take}
use Rattle.book_model.specs.Words.{dispute_shown}
use Rattle.report_texts.specs.DisputeTables.{rows_from}
use Rattle.report_texts.proofs.dispute_tables.add_disputes.Given as goal

-- the rows of the disputes so far are there
abbrev pub invariant-loop-before : goal.invariant-loop-before
invariant-loop-before l =
    l.table ≡ l.initial.table ++ rows_from 1 (take l.before (map dispute_shown l.disputes))
