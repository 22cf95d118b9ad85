use Rattle.std.proofs.Common.{◌≡◌, ℕ, List, rules, subst}
use Rattle.sqlite_trees.specs.Tree.{Trees}
use Rattle.sqlite_trees.specs.View.{IsClean}
use Rattle.book_model.specs.declared.row.ChargeRow.{ChargeRow}
use Rattle.book_model.specs.declared.row.RowKey.{RowKey}
use Rattle.book_audit.specs.Entries.{AreCounted}
use Rattle.book_audit.specs.Looks.{IsLook}
use Rattle.book_audit.specs.Records.{AreRecords}
use Rattle.book_audit.specs.declared.finding.Tree.TheVariants.{Identities, Marks}
use Rattle.book_audit.proofs.Walks.Looks.{looked_on, passed, stopped_on}
use Rattle.book_audit.proofs.Walks.Steps.{look_back, trees_stay}
use Rattle.book_audit.proofs.records.check_records.Goals as goal

-- all is as the row of the book says
pub returns-clause-records : goal.returns-clause-records
returns-clause-records g c clean =
    let start = c.args.trees.now.store in
    let mid = c.read_records.new.trees.store in
    let next = c.check_entries.new.trees.store in
    let new = c.check_entries-2.new.trees.store in
    let held = c.in_ok-held.held in
    let old : List (RowKey × ChargeRow) = c.args.places.now.rows.entries in
    let rows : List (RowKey × ChargeRow) = c.read_records.new.places.rows.entries in
    let first : IsLook g.S.Store start mid = c.in_ok-held.ensures.looks in
    let second : IsLook g.S.Store mid next = c.in_ok-check_entries.ensures.looks in
    let third : IsLook g.S.Store next new = c.in_ok-check_entries-2.ensures.looks in
    let both : IsLook g.S.Store start next = looked_on g.S.Store start mid next first second in
    let at : IsClean (g.S.Store.view next) = look_back g.S.Store next new third.same clean in
    let back : IsClean (g.S.Store.view mid) = look_back g.S.Store mid next second.same at in
    let due : List ℕ = c.args.due.now.left.items in
    let left : List ℕ = c.read_records.new.due.left.items in
    let amount : held.amount ≡ c.args.rulings.now.amount = search rules in
    let count : held.records ≡ c.args.rulings.now.held = search rules in
    record {
      records = subst (λ n. AreRecords (g.S.Store.view start).trees c.args.rulings.now held.records n
          old rows due left) amount (c.in_ok-held.ensures.records back);
      held = count;
      identities = subst (λ (all : Trees). AreCounted Identities (all 6) held.records)
          (trees_stay g.S.Store start mid first.same back) (c.in_ok-check_entries.ensures.counted at);
      marks = subst (λ (all : Trees). AreCounted Marks (all 7) held.records)
          (trees_stay g.S.Store start next both.same at)
          (c.in_ok-check_entries-2.ensures.counted clean);
    }

pub returns-in_err-held-clause-looks : goal.returns-in_err-held-clause-looks
returns-in_err-held-clause-looks g c =
    passed g.S.Store c.args.trees.now.store c.read_records.new.trees.store _ c.from_residual.ensures.0
    c.in_err-held.ensures.looks

pub returns-in_err-check_entries-clause-looks : goal.returns-in_err-check_entries-clause-looks
returns-in_err-check_entries-clause-looks g c =
    let start = c.args.trees.now.store in
    let mid = c.read_records.new.trees.store in
    let new = c.check_entries.new.trees.store in
    passed g.S.Store start new _ c.from_residual-in_err-check_entries.ensures.0
    (stopped_on g.S.Store start mid new c.in_ok-held.ensures.looks
    c.in_err-check_entries.ensures.looks)

pub returns-in_err-check_entries-2-clause-looks : goal.returns-in_err-check_entries-2-clause-looks
returns-in_err-check_entries-2-clause-looks g c =
    let start = c.args.trees.now.store in
    let mid = c.read_records.new.trees.store in
    let next = c.check_entries.new.trees.store in
    let new = c.check_entries-2.new.trees.store in
    passed g.S.Store start new _ c.from_residual-in_err-check_entries-2.ensures.0
    (stopped_on g.S.Store start next new
    (looked_on g.S.Store start mid next c.in_ok-held.ensures.looks c.in_ok-check_entries.ensures.looks)
    c.in_err-check_entries-2.ensures.looks)

pub returns-then-held-rulings-clause-looks : goal.returns-then-held-rulings-clause-looks
returns-then-held-rulings-clause-looks g c =
    let start = c.args.trees.now.store in
    let mid = c.read_records.new.trees.store in
    let next = c.check_entries.new.trees.store in
    (looked_on g.S.Store start next c.check_entries-2.new.trees.store
    (looked_on g.S.Store start mid next c.in_ok-held.ensures.looks c.in_ok-check_entries.ensures.looks)
    c.in_ok-check_entries-2.ensures.looks).quiet

pub returns-then-held-rulings-2-clause-looks : goal.returns-then-held-rulings-2-clause-looks
returns-then-held-rulings-2-clause-looks g c =
    let start = c.args.trees.now.store in
    let mid = c.read_records.new.trees.store in
    let next = c.check_entries.new.trees.store in
    (looked_on g.S.Store start next c.check_entries-2.new.trees.store
    (looked_on g.S.Store start mid next c.in_ok-held.ensures.looks c.in_ok-check_entries.ensures.looks)
    c.in_ok-check_entries-2.ensures.looks).quiet

pub returns-clause-looks : goal.returns-clause-looks
returns-clause-looks g c =
    let start = c.args.trees.now.store in
    let mid = c.read_records.new.trees.store in
    let next = c.check_entries.new.trees.store in
    looked_on g.S.Store start next c.check_entries-2.new.trees.store
    (looked_on g.S.Store start mid next c.in_ok-held.ensures.looks c.in_ok-check_entries.ensures.looks)
    c.in_ok-check_entries-2.ensures.looks
