use Rattle.std.proofs.Common.{◌≡◌, ℤ, List, rules, subst, sym}
use Rattle.std.specs.BTreeMap.{values}
use Rattle.sqlite_trees.specs.Tree.{Trees}
use Rattle.book_model.specs.declared.row.ChargeRow.{ChargeRow}
use Rattle.book_audit.specs.Days.{AreDueRows}
use Rattle.book_audit.proofs.Walks.Looks.{nothing, passed}
use Rattle.book_audit.proofs.day_sums.check_rows.Goals as goal

pub returns-clause-rows : goal.returns-clause-rows
returns-clause-rows g c clean =
    let closes : List ℤ = c.args.rulings.now.closes.items in
    let trees : Trees = (g.S.Store.view c.args.trees.now.store).trees in
    let is : values c.args.places.rows ≡ c.deref.result.now = search rules in
    let read = c.in_ok-read_rows.ensures.rows clean in (
      subst (λ (sums : List ChargeRow). AreDueRows closes sums (trees 4)) (sym is) read.0,
      read.1,
    )

pub returns-in_err-due-clause-looks : goal.returns-in_err-due-clause-looks
returns-in_err-due-clause-looks g c =
    let start = c.args.trees.now.store in
    passed g.S.Store start start _ c.from_residual.ensures.0 (nothing g.S.Store start).quiet

pub returns-in_err-read_rows-clause-looks : goal.returns-in_err-read_rows-clause-looks
returns-in_err-read_rows-clause-looks g c =
    passed g.S.Store c.args.trees.now.store c.read_rows.new.trees.store _
    c.from_residual-in_err-read_rows.ensures.0 c.in_err-read_rows.ensures.looks

pub returns-clause-looks : goal.returns-clause-looks
returns-clause-looks g c = c.in_ok-read_rows.ensures.looks
