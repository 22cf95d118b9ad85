use Rattle.std.proofs.Common.{◌≡◌, ◌≢◌, ◌++◌, ◌∷◌, [], List, true, rules, subst, sym, is_gt}
use Rattle.sqlite_value.specs.Keys.{plain, prefix_cmp}
use Rattle.sqlite_value.specs.Order.{Row}
use Rattle.tree_rows.specs.Rows.{IsFirst}
use Rattle.tree_tables.specs.Walks.{rows_past}
use Rattle.book_audit.specs.Trees.{tree_number}
use Rattle.book_audit.specs.Walks.{HasWalked, IsWide, key_in}
use Rattle.book_audit.proofs.Walks.Keys.{walk_step}
use Rattle.book_audit.proofs.Walks.Looks.{passed}
use Rattle.book_audit.proofs.walk.Walk.next.Goals.{else-not-is_empty-via-else-not-is_empty}
use Rattle.book_audit.proofs.walk.Walk.next.Goals.{else-not-is_empty-via-then-not-is_empty+else-not-is_gt}
use Rattle.book_audit.proofs.walk.Walk.next.Goals as goal

pub returns-clause-next : goal.returns-clause-next
returns-clause-next g c clean done so_far =
    let tree = c.args.self.now.tree in
    let key : Row = c.args.self.now.key in
    let row : Row = c.row_past.new.row in
    let rows : List Row = (g.S.Store.view c.args.trees.now.store).trees (tree_number tree) in
    let there : IsFirst (rows_past key rows) row true = search rules in
    let long : IsWide tree row = search rules in
    let after : key ≢ [] → is_gt (prefix_cmp plain row key) ≡ true = λ some.
    elim c.else-not-is_empty.branch [
      | else-not-is_empty-via-then-not-is_empty+else-not-is_gt w ↦ search rules
      | else-not-is_empty-via-else-not-is_empty w ↦ search rules
    ] in
    let took : c.take_key.new.key ≡ key_in tree row = search rules in
    subst (λ next. HasWalked tree next rows (done ++ row ∷ [])) (sym took)
    (walk_step tree key row rows done so_far there long after)

pub returns-clause-looks : goal.returns-clause-looks
returns-clause-looks g c = record { same = c.in-Ok.ensures.same; quiet = c.row_past.ensures.quiet }

pub returns-then-not-there-clause-looks : goal.returns-then-not-there-clause-looks
returns-then-not-there-clause-looks g c =
    record { same = c.in-Ok.ensures.same; quiet = c.row_past.ensures.quiet }

pub returns-in_err-take_key-clause-looks : goal.returns-in_err-take_key-clause-looks
returns-in_err-take_key-clause-looks g c =
    passed g.S.Store c.args.trees.now.store c.row_past.new.self.store _ c.from_residual.ensures.0
    c.row_past.ensures.quiet

pub returns-in-Err-clause-looks : goal.returns-in-Err-clause-looks
returns-in-Err-clause-looks g c = c.row_past.ensures.quiet

pub returns-then-not-has_width-clause-looks : goal.returns-then-not-has_width-clause-looks
returns-then-not-has_width-clause-looks g c = c.row_past.ensures.quiet

pub returns-then-not-is_gt-clause-looks : goal.returns-then-not-is_gt-clause-looks
returns-then-not-is_gt-clause-looks g c = c.row_past.ensures.quiet
