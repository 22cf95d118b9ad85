use Rattle.std.proofs.Common.{◌≡◌, ◌<◌, ◌≤◌, ◌+◌, ℤ, List, length, arith, rules}
use Rattle.consistent_tables.specs.DueRows.{period_from}
use Rattle.tree_tables.specs.Stored.{stored_entry}
use Rattle.book_audit.specs.Records.{IsHeld}
use Rattle.book_audit.proofs.Walks.Looks.{passed, some_said}
use Rattle.book_audit.proofs.lines.check_line.Goals as goal

pub returns-clause-late : goal.returns-clause-late
returns-clause-late g c clean =
    let stored = c.in-Some.record in
    let closes : List ℤ = c.args.rulings.now.closes.items in
    let held : IsHeld ((g.S.Store.view c.args.trees.now.store).trees 3) c.args.line.now.name
    (stored_entry stored) =
    some_said _ _ _ c.in-Some.is c.in_ok-record.ensures.held clean in
    let own : c.period_of-own.result ≡ period_from 1 closes stored.priced.day = search rules in
    let after : c.period_of-own.result < c.args.line.now.period = search rules in
    let begun : c.args.line.now.period ≤ length closes + 1 = search rules in
    record {
      entry = stored_entry stored;
      held = held;
      after = omega (arith, own, after);
      begun = begun;
    }

pub returns-in_err-record-clause-looks : goal.returns-in_err-record-clause-looks
returns-in_err-record-clause-looks g c =
    passed g.S.Store c.args.trees.now.store c.record_of.new.self.store _ c.from_residual.ensures.0
    c.in_err-record.ensures.looks

pub returns-in_default-clause-looks : goal.returns-in_default-clause-looks
returns-in_default-clause-looks g c = c.in_ok-record.ensures.looks.quiet

pub returns-then-line-own-clause-looks : goal.returns-then-line-own-clause-looks
returns-then-line-own-clause-looks g c = c.in_ok-record.ensures.looks.quiet

pub returns-clause-looks : goal.returns-clause-looks
returns-clause-looks g c = c.in_ok-record.ensures.looks
