use Rattle.std.proofs.Common.{◌∙◌, ap, inl, inr, subst, sym}
use Rattle.book_model.specs.Words.{new_book}
use Rattle.book_restarts.proofs.OpenStores.{clean_before}
use Rattle.book_sessions.proofs.NewParts.{holds_new, open_leaves}
use Rattle.book_sessions.proofs.Words.{Trees, IsClean, file_names}
use Rattle.book_sessions.proofs.new_books.create_in.Goals as goal

pub returns-in-Ok-clause-left : goal.returns-in-Ok-clause-left
returns-in-Ok-clause-left g c = λ empty clean trees left.
    let made = c.in-Ok.books in
    let same = c.close_store.ensures.same in
    let still : IsClean (g.S.Store.view made.tables.store) =
    subst (λ store. IsClean (g.S.Store.view store)) same clean in
    let at = empty (clean_before _ _ c.in-Ok.ensures.crash.clean still) in
    open_leaves file_names (g.S.Store.view made.tables.store)
    (g.S.Store.recovers made.tables.store) made.must_reopen made.summary
    (λ (trees : Trees). g.met.S.Store.settled made.tables.store trees) new_book
    (c.in-Ok.ensures.books still at.rest at.none) trees
    (subst (λ store. g.S.Store.recovers store trees) same left)

pub returns-in-Err-clause-left : goal.returns-in-Err-clause-left
returns-in-Err-clause-left g c = λ empty clean trees left.
    let survives = c.in-Err.ensures.crash_refused in
    let first = clean_before _ _ survives.clean clean in
    let at = empty first in
    elim (survives.crash clean trees left) [
      | inl was ↦ inl (
        first,
        λ tree low. ap (λ (trees : Trees). trees tree)
            (g.met.S.Store.settled c.args.store trees at.rest.is_open was ∙ sym at.rest.settled),
      )
      | inr new ↦ inr (holds_new file_names trees (new.whole at.none))
    ]
