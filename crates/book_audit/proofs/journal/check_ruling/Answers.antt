use Rattle.std.proofs.Common.{◌≡◌, ◌∙◌, None, Some, ap, option_map, subst, sym}
use Rattle.book_model.specs.Words.{place_shown}
use Rattle.tree_tables.specs.JournalColumns.{act_stored}
use Rattle.book_audit.specs.Journal.{IsThere, ruled_in}
use Rattle.book_audit.proofs.Walks.Looks.{nothing, passed}
use Rattle.book_audit.proofs.journal.check_ruling.Goals as goal

pub returns-in_default-clause-placed : goal.returns-in_default-clause-placed
returns-in_default-clause-placed g c clean =
    let none : ruled_in (act_stored c.args.act.now) ≡ None =
    sym c.ruling_in.ensures ∙ ap (option_map place_shown) c.in_default.is in
    subst (IsThere (g.S.Store.view c.args.trees.now.store).trees c.args.rule) (sym none) tt

pub returns-in_default-clause-looks : goal.returns-in_default-clause-looks
returns-in_default-clause-looks g c = nothing g.S.Store c.args.trees.now.store

pub returns-clause-placed : goal.returns-clause-placed
returns-clause-placed g c clean =
    let some : ruled_in (act_stored c.args.act.now) ≡ Some (place_shown c.in-Some.ruling) =
    sym c.ruling_in.ensures ∙ ap (option_map place_shown) c.in-Some.is in
    subst (IsThere (g.S.Store.view c.args.trees.now.store).trees c.args.rule) (sym some)
    (c.in_ok-is_there.ensures.there clean c.if-not-branch.false)

pub returns-in_err-is_there-clause-looks : goal.returns-in_err-is_there-clause-looks
returns-in_err-is_there-clause-looks g c =
    passed g.S.Store c.args.trees.now.store c.is_there.new.trees.store _ c.from_residual.ensures.0
    c.in_err-is_there.ensures.looks

pub returns-then-not-branch-clause-looks : goal.returns-then-not-branch-clause-looks
returns-then-not-branch-clause-looks g c = c.in_ok-is_there.ensures.looks.quiet

pub returns-clause-looks : goal.returns-clause-looks
returns-clause-looks g c = c.in_ok-is_there.ensures.looks
