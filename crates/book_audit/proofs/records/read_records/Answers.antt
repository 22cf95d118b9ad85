use Rattle.std.proofs.Common.{◌≡◌, ◌+◌, ◌∙◌, ◌++◌, ◌∷◌, [], List, map, arith, rules, subst, sym}
use Rattle.sqlite_trees.specs.Tree.{Trees}
use Rattle.sqlite_trees.specs.View.{IsClean}
use Rattle.sqlite_value.specs.Order.{Row}
use Rattle.tree_tables.specs.Stored.{stored_entry}
use Rattle.book_audit.specs.Looks.{IsLook}
use Rattle.book_audit.specs.Records.{IsRight, TellsRight, Told, told_row}
use Rattle.book_audit.specs.Walks.{AreRising, HasWalked}
use Rattle.book_audit.specs.declared.finding.Tree.TheVariants.{Records}
use Rattle.book_audit.proofs.Rows.Records.{counts_none, counts_on, entries_pushed, none_yet}
use Rattle.book_audit.proofs.Rows.Records.{row_pushed, takes_none, takes_on}
use Rattle.book_audit.proofs.Walks.Looks.{looked_on, nothing, passed, stopped_on}
use Rattle.book_audit.proofs.Walks.Steps.{look_back, read_all, read_on, trees_stay}
use Rattle.book_audit.proofs.records.read_records.Goals as goal

-- the rows of records
abbrev rows_of : List Told → List Row
rows_of entries = map told_row entries

pub records-init : goal.records-init
records-init g c = record {
  tree = c.begin.ensures.tree;
  looks = nothing g.S.Store c.args.trees.now.store;
  read = λ clean. (
    [],
    c.begin.ensures.start ((g.S.Store.view c.args.trees.now.store).trees 3),
    none_yet (g.S.Store.view c.args.trees.now.store).trees c.args.rulings.now,
    counts_none c.args.places.now.rows.entries,
    takes_none c.args.due.now.left.items,
  );
}

pub records-preserved : goal.records-preserved
records-preserved g c =
    let start = c.args.trees.now.store in
    let mid = c.records.trees.store in
    let next = c.next.new.trees.store in
    let new = c.check_record.new.trees.store in
    let so_far = c.records.invariant in
    let row : Row = c.next.new.self.row in
    let one = c.in-Ok.one in
    let told : Told = (stored_entry one.record, c.in_ok-check_record.field-0, one.came) in
    let is : row ≡ told_row told = sym c.row.ensures ∙ c.in-Ok.ensures.read in
    let call : IsLook g.S.Store mid next = c.in_ok-next.ensures.looks in
    let check : IsLook g.S.Store next new = c.in_ok-check_record.ensures.looks in
    let both : IsLook g.S.Store start next = looked_on g.S.Store start mid next so_far.looks call in
    record {
      tree = c.next.ensures.tree ∙ so_far.tree;
      looks = looked_on g.S.Store start next new both check;
      read = λ clean.
          let after : IsClean (g.S.Store.view next) = look_back g.S.Store next new check.same clean in
          let read = so_far.read (look_back g.S.Store mid next call.same after) in
          let stay = trees_stay g.S.Store start next both.same after in
          let checked = c.in_ok-check_record.ensures.right clean in
          let right : IsRight (g.S.Store.view start).trees c.args.rulings.now told.0 =
          subst (λ (all : Trees). IsRight all c.args.rulings.now told.0) stay checked.right in
          let past : TellsRight (g.S.Store.view start).trees c.args.rulings.now.closes.items told =
          subst (λ (all : Trees). TellsRight all c.args.rulings.now.closes.items told) stay
          checked.past in (
            read.0 ++ told ∷ [],
            subst (HasWalked Records c.next.new.self.key ((g.S.Store.view start).trees 3))
                (row_pushed read.0 told row is)
                (read_on g.S.Store start mid next Records c.records.walk c.next.new.self
                c.in_ok-next.field-0 so_far.tree so_far.looks.same call.same c.in_ok-next.ensures.next
                (λ back. let read = so_far.read back in (rows_of read.0, read.1)) after
                c.if-not-branch.false),
            entries_pushed (g.S.Store.view start).trees c.args.rulings.now c.records.records
                c.records.amount (c.records.amount + told.0.1.priced.amount) read.0 told read.2 right
                past (search rules) (search rules),
            counts_on c.args.places.now.rows.entries c.records.places.rows.entries
                c.check_record.new.places.rows.entries read.0 told read.3 checked.placed,
            takes_on c.args.due.now.left.items c.records.due.left.items
                c.check_came.new.due.left.items read.0 told read.4 c.in_ok-check_came.ensures,
          );
    }

-- all rows are those of records where there are no more
pub returns-then-not-branch-clause-records : goal.returns-then-not-branch-clause-records
returns-then-not-branch-clause-records g c clean =
    let start = c.args.trees.now.store in
    let mid = c.records.trees.store in
    let next = c.next.new.trees.store in
    let so_far = c.records.invariant in
    let call : IsLook g.S.Store mid next = c.in_ok-next.ensures.looks in
    let back : IsClean (g.S.Store.view mid) = look_back g.S.Store mid next call.same clean in
    let read = so_far.read back in
    let all = read_all g.S.Store start mid next Records c.records.walk c.next.new.self c.in_ok-next.field-0
    so_far.tree so_far.looks.same call.same c.in_ok-next.ensures.next
    (λ back. let read = so_far.read back in (rows_of read.0, read.1)) clean c.if-not-branch.true in
    let inside = c.records-test.true in
    record {
      entries = read.0;
      all = all;
      rising = subst (AreRising Records) (sym all) read.1.rising;
      are = read.2;
      few = omega (arith, inside);
      placed = read.3;
      came = read.4;
    }

pub returns-in_err-next-clause-looks : goal.returns-in_err-next-clause-looks
returns-in_err-next-clause-looks g c =
    let start = c.args.trees.now.store in
    let mid = c.records.trees.store in
    let next = c.next.new.trees.store in
    passed g.S.Store start next _ c.from_residual.ensures.0
    (stopped_on g.S.Store start mid next c.records.invariant.looks c.in_err-next.ensures.looks)

pub returns-then-not-branch-clause-looks : goal.returns-then-not-branch-clause-looks
returns-then-not-branch-clause-looks g c =
    looked_on g.S.Store c.args.trees.now.store c.records.trees.store c.next.new.trees.store
    c.records.invariant.looks c.in_ok-next.ensures.looks

pub returns-in-Err-clause-looks : goal.returns-in-Err-clause-looks
returns-in-Err-clause-looks g c =
    (looked_on g.S.Store c.args.trees.now.store c.records.trees.store c.next.new.trees.store
    c.records.invariant.looks c.in_ok-next.ensures.looks).quiet

pub returns-in_err-check_record-clause-looks : goal.returns-in_err-check_record-clause-looks
returns-in_err-check_record-clause-looks g c =
    let start = c.args.trees.now.store in
    let mid = c.records.trees.store in
    let next = c.next.new.trees.store in
    let new = c.check_record.new.trees.store in
    passed g.S.Store start new _ c.from_residual-in_err-check_record.ensures.0
    (stopped_on g.S.Store start next new
    (looked_on g.S.Store start mid next c.records.invariant.looks c.in_ok-next.ensures.looks)
    c.in_err-check_record.ensures.looks)

pub returns-in_err-check_came-clause-looks : goal.returns-in_err-check_came-clause-looks
returns-in_err-check_came-clause-looks g c =
    let start = c.args.trees.now.store in
    let mid = c.records.trees.store in
    let next = c.next.new.trees.store in
    let new = c.check_record.new.trees.store in
    passed g.S.Store start new _ c.from_residual-in_err-check_came.ensures.0
    (looked_on g.S.Store start next new
    (looked_on g.S.Store start mid next c.records.invariant.looks c.in_ok-next.ensures.looks)
    c.in_ok-check_record.ensures.looks).quiet

pub returns-then-cost-gt-MAX_COST-clause-looks : goal.returns-then-cost-gt-MAX_COST-clause-looks
returns-then-cost-gt-MAX_COST-clause-looks g c =
    let start = c.args.trees.now.store in
    let mid = c.records.trees.store in
    let next = c.next.new.trees.store in
    (looked_on g.S.Store start next c.check_record.new.trees.store
    (looked_on g.S.Store start mid next c.records.invariant.looks c.in_ok-next.ensures.looks)
    c.in_ok-check_record.ensures.looks).quiet

pub returns-clause-looks : goal.returns-clause-looks
returns-clause-looks g c = c.records.invariant.looks.quiet
