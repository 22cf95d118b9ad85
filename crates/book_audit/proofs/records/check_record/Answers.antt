use Rattle.std.proofs.Common.{◌≡◌, Bool, List, ℕ, true, rules, subst, sym}
use Rattle.sqlite_trees.specs.Tree.{Trees}
use Rattle.sqlite_trees.specs.View.{IsClean}
use Rattle.table_model.specs.Words.{detail_shown, RecordRow}
use Rattle.tree_tables.specs.Stored.{stored_entry}
use Rattle.book_audit.specs.Looks.{IsLook}
use Rattle.book_audit.specs.Records.{HasPast, IsChecked, IsRight, detail_key, spot_of}
use Rattle.book_audit.specs.Trees.{HasKey}
use Rattle.book_audit.specs.declared.rulings.Rulings.{Rulings}
use Rattle.book_audit.proofs.Walks.Looks.{looked_on, nothing, passed, stopped_on}
use Rattle.book_audit.proofs.Walks.Steps.{look_back, trees_stay}
use Rattle.book_audit.proofs.records.check_record.Goals as goal

-- a record that its row counts has its place and its details
pub returns-clause-right : goal.returns-clause-right
returns-clause-right g c clean =
    let start = c.args.trees.now.store in
    let mid = c.check_marks.new.trees.store in
    let new = c.check_has_detail.new.trees.store in
    let trees : Trees = (g.S.Store.view start).trees in
    let rulings : Rulings = c.args.rulings.now in
    let entry : List ℕ × RecordRow = stored_entry c.args.stored.now in
    let counted : Bool = c.in_ok-counted.counted in
    let yes : counted ≡ true = search rules in
    let first : IsLook g.S.Store start mid = c.in_ok-counted.ensures.looks in
    let second : IsLook g.S.Store mid new = c.in_ok-check_has_detail.ensures.looks in
    let back : IsClean (g.S.Store.view mid) = look_back g.S.Store mid new second.same clean in
    let says = c.in_ok-check_data.ensures.says in
    let right : IsRight trees rulings entry = record {
      name = says.name;
      short = says.short;
      usage = says.usage;
      identity = says.identity;
      price = says.price;
      priced = c.in_ok-check_data.ensures.priced;
      marked = c.in_ok-counted.ensures.marked back;
    } in
    subst (λ (is : Bool). IsChecked trees rulings c.args.places.now.rows.entries
    c.count.new.self.rows.entries entry is) (sym yes) (record {
      right = right;
      past = record {
        past = subst (HasPast (trees 5) rulings.closes.items entry) yes
            (c.in_ok-counted.ensures.past back);
        shown = λ same. subst (λ (all : Trees).
            HasKey (detail_key (spot_of (detail_shown entry))) (all 10))
            (trees_stay g.S.Store start mid first.same back)
            (c.in_ok-check_has_detail.ensures.shown clean);
      };
      placed = c.in_ok-count.ensures c.if-not-branch.false;
    })

pub returns-in_err-check_data-clause-looks : goal.returns-in_err-check_data-clause-looks
returns-in_err-check_data-clause-looks g c =
    let start = c.args.trees.now.store in
    passed g.S.Store start start _ c.from_residual.ensures.0 (nothing g.S.Store start).quiet

pub returns-in_err-counted-clause-looks : goal.returns-in_err-counted-clause-looks
returns-in_err-counted-clause-looks g c =
    passed g.S.Store c.args.trees.now.store c.check_marks.new.trees.store _
    c.from_residual-in_err-counted.ensures.0 c.in_err-counted.ensures.looks

pub returns-then-not-counted-clause-looks : goal.returns-then-not-counted-clause-looks
returns-then-not-counted-clause-looks g c = c.in_ok-counted.ensures.looks

pub returns-in_err-check_has_detail-clause-looks : goal.returns-in_err-check_has_detail-clause-looks
returns-in_err-check_has_detail-clause-looks g c =
    let start = c.args.trees.now.store in
    let mid = c.check_marks.new.trees.store in
    let new = c.check_has_detail.new.trees.store in
    passed g.S.Store start new _ c.from_residual-in_err-check_has_detail.ensures.0
    (stopped_on g.S.Store start mid new c.in_ok-counted.ensures.looks
    c.in_err-check_has_detail.ensures.looks)

pub returns-in_err-count-clause-looks : goal.returns-in_err-count-clause-looks
returns-in_err-count-clause-looks g c =
    let start = c.args.trees.now.store in
    let mid = c.check_marks.new.trees.store in
    let new = c.check_has_detail.new.trees.store in
    passed g.S.Store start new _ c.from_residual-in_err-count.ensures.0
    (looked_on g.S.Store start mid new c.in_ok-counted.ensures.looks
    c.in_ok-check_has_detail.ensures.looks).quiet

pub returns-then-not-branch-clause-looks : goal.returns-then-not-branch-clause-looks
returns-then-not-branch-clause-looks g c =
    (looked_on g.S.Store c.args.trees.now.store c.check_marks.new.trees.store
    c.check_has_detail.new.trees.store c.in_ok-counted.ensures.looks
    c.in_ok-check_has_detail.ensures.looks).quiet

pub returns-clause-looks : goal.returns-clause-looks
returns-clause-looks g c =
    looked_on g.S.Store c.args.trees.now.store c.check_marks.new.trees.store
    c.check_has_detail.new.trees.store c.in_ok-counted.ensures.looks
    c.in_ok-check_has_detail.ensures.looks
