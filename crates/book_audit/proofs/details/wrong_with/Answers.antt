use Rattle.std.proofs.Common.{◌≡◌, List, ℕ, true, rules, subst}
use Rattle.sqlite_trees.specs.Tree.{Trees}
use Rattle.sqlite_trees.specs.View.{IsClean}
use Rattle.book_model.specs.Words.{record_with, detail_with}
use Rattle.table_model.specs.Words.{RecordRow}
use Rattle.tree_rows.specs.Calls.{OnlyLooks}
use Rattle.tree_tables.specs.Stored.{stored_entry}
use Rattle.book_audit.specs.Details.{IsCounted}
use Rattle.book_audit.specs.Records.{IsHeld}
use Rattle.book_audit.proofs.Walks.Looks.{looked_on, passed, some_said, stopped_on}
use Rattle.book_audit.proofs.Walks.Steps.{look_back, trees_stay}
use Rattle.book_audit.proofs.details.wrong_with.Goals as goal

-- what is shown is held and counted where nothing is wrong
pub returns-clause-counted : goal.returns-clause-counted
returns-clause-counted g c clean none =
    let start = c.args.trees.now.store in
    let mid = c.record_of.new.self.store in
    let trees : Trees = (g.S.Store.view start).trees in
    let shown = c.args.shown.now in
    let stored = c.in-Some.record in
    let entry : List ℕ × RecordRow = stored_entry stored in
    let held : IsClean (g.S.Store.view mid) → IsHeld (trees 3) shown.name entry =
    some_said _ _ _ c.in-Some.is c.in_ok-record.ensures.held in
    let first : OnlyLooks g.S.Store start mid = c.in_ok-record.ensures.looks.same in
    let back : IsClean (g.S.Store.view mid) =
    look_back g.S.Store mid c.is_counted.new.trees.store c.in_ok-is_counted.ensures.looks.same clean in
    let is : shown ≡ detail_with shown.name (record_with stored.data_bytes.items) stored.priced =
    search rules in
    let counted : c.in_ok-is_counted.field-0 ≡ true = c.if-not-branch.false in
    record {
      entry = entry;
      held = held back;
      is = is;
      counted = subst (λ (all : Trees). IsCounted (all 5) c.args.rulings.now.closes.items entry)
          (trees_stay g.S.Store start mid first back) (c.in_ok-is_counted.ensures.counted clean counted);
    }

pub returns-in_err-record-clause-looks : goal.returns-in_err-record-clause-looks
returns-in_err-record-clause-looks g c =
    passed g.S.Store c.args.trees.now.store c.record_of.new.self.store _ c.from_residual.ensures.0
    c.in_err-record.ensures.looks

pub returns-in_default-clause-looks : goal.returns-in_default-clause-looks
returns-in_default-clause-looks g c = c.in_ok-record.ensures.looks

pub returns-in_err-put_usage-clause-looks : goal.returns-in_err-put_usage-clause-looks
returns-in_err-put_usage-clause-looks g c =
    passed g.S.Store c.args.trees.now.store c.record_of.new.self.store _
    c.from_residual-in_err-put_usage.ensures.0 c.in_ok-record.ensures.looks.quiet

pub returns-then-not-shows-clause-looks : goal.returns-then-not-shows-clause-looks
returns-then-not-shows-clause-looks g c = c.in_ok-record.ensures.looks

pub returns-in_err-is_counted-clause-looks : goal.returns-in_err-is_counted-clause-looks
returns-in_err-is_counted-clause-looks g c =
    let start = c.args.trees.now.store in
    let mid = c.record_of.new.self.store in
    let new = c.is_counted.new.trees.store in
    passed g.S.Store start new _ c.from_residual-in_err-is_counted.ensures.0
    (stopped_on g.S.Store start mid new c.in_ok-record.ensures.looks
    c.in_err-is_counted.ensures.looks)

pub returns-then-not-branch-clause-looks : goal.returns-then-not-branch-clause-looks
returns-then-not-branch-clause-looks g c =
    looked_on g.S.Store c.args.trees.now.store c.record_of.new.self.store c.is_counted.new.trees.store
    c.in_ok-record.ensures.looks c.in_ok-is_counted.ensures.looks

pub returns-clause-looks : goal.returns-clause-looks
returns-clause-looks g c =
    looked_on g.S.Store c.args.trees.now.store c.record_of.new.self.store c.is_counted.new.trees.store
    c.in_ok-record.ensures.looks c.in_ok-is_counted.ensures.looks
