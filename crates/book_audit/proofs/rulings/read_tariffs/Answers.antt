use Rattle.std.proofs.Common.{◌∙◌, ◌++◌, ◌∷◌, [], ℕ, List, map, refl, subst, sym}
use Rattle.sqlite_trees.specs.View.{IsClean}
use Rattle.sqlite_trees.proofs.ListLemmas.{all-append}
use Rattle.sqlite_value.specs.Order.{Row}
use Rattle.book_model.specs.Words.{AcceptedTerms, Terms}
use Rattle.table_model.specs.Words.{IsTexted, tariff_entries}
use Rattle.tree_tables.specs.Columns.{tariff_columns}
use Rattle.book_audit.specs.Looks.{IsLook}
use Rattle.book_audit.specs.Rulings.{IsTariffIn}
use Rattle.book_audit.specs.Walks.{AreRising, HasWalked}
use Rattle.book_audit.specs.declared.finding.Tree.TheVariants.{Tariffs}
use Rattle.book_audit.proofs.Rows.Rulings.{is_texted, tariff_pushed, terms_pushed, texted}
use Rattle.book_audit.proofs.Walks.Looks.{looked_on, nothing, passed, stopped_on}
use Rattle.book_audit.proofs.Walks.Steps.{look_back, read_all, read_on}
use Rattle.book_audit.proofs.rulings.read_tariffs.Goals as goal

-- the rows of tariffs
abbrev tariff_rows : List AcceptedTerms → List Row
tariff_rows accepted = map tariff_columns (tariff_entries accepted)

pub tariffs-init : goal.tariffs-init
tariffs-init g c = record {
  tree = c.begin.ensures.tree;
  looks = nothing g.S.Store c.args.trees.now.store;
  read = λ clean. (
    [],
    c.begin.ensures.start ((g.S.Store.view c.args.trees.now.store).trees 1),
    sym c.new-tariffs.ensures.items,
    tt,
  );
}

pub tariffs-preserved : goal.tariffs-preserved
tariffs-preserved g c =
    let start = c.args.trees.now.store in
    let mid = c.tariffs.trees.store in
    let next = c.next.new.trees.store in
    let so_far = c.tariffs.invariant in
    let row : Row = c.next.new.self.row in
    let terms : Terms = c.in_ok-read_tariff.field-0 in
    let its : IsTariffIn row terms =
    subst (λ (r : Row). IsTariffIn r terms) c.row.ensures c.in_ok-read_tariff.ensures in
    let text : List ℕ = its.text in
    let call : IsLook g.S.Store mid next = c.in_ok-next.ensures.looks in
    record {
      tree = c.next.ensures.tree ∙ so_far.tree;
      looks = looked_on g.S.Store start mid next so_far.looks call;
      read = λ clean.
          let read = so_far.read (look_back g.S.Store mid next call.same clean) in (
            read.0 ++ texted text terms ∷ [],
            subst (HasWalked Tariffs c.next.new.self.key ((g.S.Store.view start).trees 1))
                (tariff_pushed read.0 text terms.effective terms row its.is refl)
                (read_on g.S.Store start mid next Tariffs c.tariffs.walk c.next.new.self
                c.in_ok-next.field-0 so_far.tree so_far.looks.same call.same c.in_ok-next.ensures.next
                (λ back. (tariff_rows (so_far.read back).0, (so_far.read back).1)) clean
                c.if-not-branch.false),
            terms_pushed read.0 c.tariffs.tariffs.items text terms read.2
                ∙ sym c.in_ok-push.ensures.items,
            all-append IsTexted read.0 (texted text terms ∷ []) read.3
                (is_texted text terms its.characters its.said its.day, tt),
          );
    }

-- all rows are those of tariffs where there are no more
pub returns-then-not-branch-clause-tariffs : goal.returns-then-not-branch-clause-tariffs
returns-then-not-branch-clause-tariffs g c clean =
    let start = c.args.trees.now.store in
    let mid = c.tariffs.trees.store in
    let next = c.next.new.trees.store in
    let so_far = c.tariffs.invariant in
    let call : IsLook g.S.Store mid next = c.in_ok-next.ensures.looks in
    let back : IsClean (g.S.Store.view mid) = look_back g.S.Store mid next call.same clean in
    let read = so_far.read back in
    let all = read_all g.S.Store start mid next Tariffs c.tariffs.walk c.next.new.self c.in_ok-next.field-0
    so_far.tree so_far.looks.same call.same c.in_ok-next.ensures.next
    (λ back. (tariff_rows (so_far.read back).0, (so_far.read back).1)) clean c.if-not-branch.true in
    record {
      accepted = read.0;
      are = all;
      terms = read.2;
      texts = read.3;
      rising = subst (AreRising Tariffs) (sym all) read.1.rising;
    }

pub returns-in_err-next-clause-looks : goal.returns-in_err-next-clause-looks
returns-in_err-next-clause-looks g c =
    let start = c.args.trees.now.store in
    let mid = c.tariffs.trees.store in
    let next = c.next.new.trees.store in
    passed g.S.Store start next _ c.from_residual.ensures.0
    (stopped_on g.S.Store start mid next c.tariffs.invariant.looks c.in_err-next.ensures.looks)

pub returns-then-not-branch-clause-looks : goal.returns-then-not-branch-clause-looks
returns-then-not-branch-clause-looks g c =
    looked_on g.S.Store c.args.trees.now.store c.tariffs.trees.store c.next.new.trees.store
    c.tariffs.invariant.looks c.in_ok-next.ensures.looks

pub returns-in_err-read_tariff-clause-looks : goal.returns-in_err-read_tariff-clause-looks
returns-in_err-read_tariff-clause-looks g c =
    let start = c.args.trees.now.store in
    let next = c.next.new.trees.store in
    passed g.S.Store start next _ c.from_residual-in_err-read_tariff.ensures.0
    (looked_on g.S.Store start c.tariffs.trees.store next c.tariffs.invariant.looks
    c.in_ok-next.ensures.looks).quiet

pub returns-in_err-push-clause-looks : goal.returns-in_err-push-clause-looks
returns-in_err-push-clause-looks g c =
    let start = c.args.trees.now.store in
    let next = c.next.new.trees.store in
    passed g.S.Store start next _ c.from_residual-in_err-push.ensures.0
    (looked_on g.S.Store start c.tariffs.trees.store next c.tariffs.invariant.looks
    c.in_ok-next.ensures.looks).quiet

pub returns-clause-looks : goal.returns-clause-looks
returns-clause-looks g c = c.tariffs.invariant.looks.quiet
