use Rattle.std.proofs.Common.{◌≡◌, ◌∙◌, ◌++◌, ◌∷◌, [], ℕ, arith, subst, sym}
use Rattle.sqlite_trees.specs.Tree.{Trees}
use Rattle.sqlite_trees.specs.View.{IsClean}
use Rattle.sqlite_value.specs.Order.{Row}
use Rattle.table_model.specs.Tables.{ChoiceRow}
use Rattle.tree_tables.specs.Columns.{choice_columns}
use Rattle.book_audit.specs.ChoiceRows.{Chooses, Made, entry_of, made_rows, row_of}
use Rattle.book_audit.specs.Entries.{AreCounted}
use Rattle.book_audit.specs.Looks.{IsLook}
use Rattle.book_audit.specs.Walks.{HasWalked}
use Rattle.book_audit.specs.declared.finding.Tree.TheVariants.{ChoiceNames, Choices}
use Rattle.book_audit.proofs.Rows.Choices.{made_pushed, none_made, rows_pushed}
use Rattle.book_audit.proofs.Walks.Looks.{looked_on, nothing, passed, stopped_on}
use Rattle.book_audit.proofs.Walks.Steps.{look_back, read_all, read_on, trees_stay}
use Rattle.book_audit.proofs.choices.read_choices.Goals as goal

pub choices-init : goal.choices-init
choices-init g c = record {
  tree = c.begin.ensures.tree;
  looks = nothing g.S.Store c.args.trees.now.store;
  read = λ clean. (
    [],
    c.begin.ensures.start ((g.S.Store.view c.args.trees.now.store).trees 8),
    none_made (g.S.Store.view c.args.trees.now.store).trees c.args.rule c.args.open_period
        c.new-chosen.result c.new-chosen.ensures.count c.new-chosen.ensures.since
        c.new-chosen.ensures.none,
    c.new-chosen.ensures.count,
  );
}

pub choices-preserved : goal.choices-preserved
choices-preserved g c =
    let start = c.args.trees.now.store in
    let mid = c.choices.trees.store in
    let next = c.next.new.trees.store in
    let new = c.check_choice.new.trees.store in
    let so_far = c.choices.invariant in
    let row : Row = c.next.new.self.row in
    let choice = c.in-Ok.choice in
    let entry : ℕ × ChoiceRow = entry_of choice in
    let is : row ≡ choice_columns entry = sym c.row.ensures ∙ c.in-Ok.ensures.read in
    let call : IsLook g.S.Store mid next = c.in_ok-next.ensures.looks in
    let check : IsLook g.S.Store next new = c.in_ok-check_choice.ensures.looks in
    let both : IsLook g.S.Store start next = looked_on g.S.Store start mid next so_far.looks call in
    record {
      tree = c.next.ensures.tree ∙ so_far.tree;
      looks = looked_on g.S.Store start next new both check;
      read = λ clean.
          let after : IsClean (g.S.Store.view next) = look_back g.S.Store next new check.same clean in
          let read = so_far.read (look_back g.S.Store mid next call.same after) in
          let step : Chooses (g.S.Store.view start).trees c.args.rule c.args.open_period
          c.choices.chosen c.check_choice.new.chosen choice =
          subst (λ (all : Trees). Chooses all c.args.rule c.args.open_period c.choices.chosen
          c.check_choice.new.chosen choice) (trees_stay g.S.Store start next both.same after)
          (c.in_ok-check_choice.ensures.chooses clean) in
          let one : Made = (step.identity, row_of choice) in
          let so_many = read.2.counted in
          let follows = step.number in
          let count = step.count in
          let counted = read.3 in (
            read.0 ++ one ∷ [],
            subst (HasWalked Choices c.next.new.self.key ((g.S.Store.view start).trees 8))
                (rows_pushed read.0 one choice.number row is (omega (arith, follows, so_many)))
                (read_on g.S.Store start mid next Choices c.choices.walk c.next.new.self
                c.in_ok-next.field-0 so_far.tree so_far.looks.same call.same c.in_ok-next.ensures.next
                (λ back. (made_rows (so_far.read back).0, (so_far.read back).1)) after
                c.if-not-branch.false),
            made_pushed (g.S.Store.view start).trees c.args.rule c.args.open_period c.choices.chosen
                c.check_choice.new.chosen read.0 choice read.2 step follows count,
            omega (arith, follows, count, counted),
          );
    }

-- the choices and the tree that finds them are read where there are no more
pub returns-then-not-branch-clause-choices : goal.returns-then-not-branch-clause-choices
returns-then-not-branch-clause-choices g c clean =
    let start = c.args.trees.now.store in
    let mid = c.choices.trees.store in
    let next = c.next.new.trees.store in
    let new = c.check_entries.new.trees.store in
    let so_far = c.choices.invariant in
    let call : IsLook g.S.Store mid next = c.in_ok-next.ensures.looks in
    let last : IsLook g.S.Store next new = c.in_ok-check_entries.ensures.looks in
    let both : IsLook g.S.Store start next = looked_on g.S.Store start mid next so_far.looks call in
    let at : IsClean (g.S.Store.view next) = look_back g.S.Store next new last.same clean in
    let read = so_far.read (look_back g.S.Store mid next call.same at) in
    let chosen = c.choices.chosen in
    let counted = read.3 in
    let inside = c.choices-test.true in (
      record {
        made = read.0;
        rows = read_all g.S.Store start mid next Choices c.choices.walk c.next.new.self
            c.in_ok-next.field-0 so_far.tree so_far.looks.same call.same c.in_ok-next.ensures.next
            (λ back. (made_rows (so_far.read back).0, (so_far.read back).1)) at c.if-not-branch.true;
        are = read.2;
        few = omega (arith, counted, inside);
      },
      subst (λ (all : Trees). AreCounted ChoiceNames (all 9) chosen.count)
          (trees_stay g.S.Store start next both.same at)
          (subst (AreCounted ChoiceNames ((g.S.Store.view next).trees 9)) (sym counted)
          (c.in_ok-check_entries.ensures.counted clean)),
    )

pub returns-in_err-next-clause-looks : goal.returns-in_err-next-clause-looks
returns-in_err-next-clause-looks g c =
    let start = c.args.trees.now.store in
    let mid = c.choices.trees.store in
    let next = c.next.new.trees.store in
    passed g.S.Store start next _ c.from_residual.ensures.0
    (stopped_on g.S.Store start mid next c.choices.invariant.looks c.in_err-next.ensures.looks)

pub returns-in_err-check_entries-clause-looks : goal.returns-in_err-check_entries-clause-looks
returns-in_err-check_entries-clause-looks g c =
    let start = c.args.trees.now.store in
    let mid = c.choices.trees.store in
    let next = c.next.new.trees.store in
    let last = c.check_entries.new.trees.store in
    passed g.S.Store start last _ c.from_residual-in_err-check_entries.ensures.0
    (stopped_on g.S.Store start next last
    (looked_on g.S.Store start mid next c.choices.invariant.looks c.in_ok-next.ensures.looks)
    c.in_err-check_entries.ensures.looks)

pub returns-then-not-branch-clause-looks : goal.returns-then-not-branch-clause-looks
returns-then-not-branch-clause-looks g c =
    let start = c.args.trees.now.store in
    let next = c.next.new.trees.store in
    looked_on g.S.Store start next c.check_entries.new.trees.store
    (looked_on g.S.Store start c.choices.trees.store next c.choices.invariant.looks
    c.in_ok-next.ensures.looks) c.in_ok-check_entries.ensures.looks

pub returns-in-Err-clause-looks : goal.returns-in-Err-clause-looks
returns-in-Err-clause-looks g c =
    (looked_on g.S.Store c.args.trees.now.store c.choices.trees.store c.next.new.trees.store
    c.choices.invariant.looks c.in_ok-next.ensures.looks).quiet

pub returns-in_err-check_choice-clause-looks : goal.returns-in_err-check_choice-clause-looks
returns-in_err-check_choice-clause-looks g c =
    let start = c.args.trees.now.store in
    let mid = c.choices.trees.store in
    let next = c.next.new.trees.store in
    let new = c.check_choice.new.trees.store in
    passed g.S.Store start new _ c.from_residual-in_err-check_choice.ensures.0
    (stopped_on g.S.Store start next new
    (looked_on g.S.Store start mid next c.choices.invariant.looks c.in_ok-next.ensures.looks)
    c.in_err-check_choice.ensures.looks)

pub returns-clause-looks : goal.returns-clause-looks
returns-clause-looks g c = c.choices.invariant.looks.quiet
