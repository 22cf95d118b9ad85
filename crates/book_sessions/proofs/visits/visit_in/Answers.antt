use Rattle.std.proofs.Common.{◌≡◌, false, subst}
use Rattle.book_restarts.proofs.OpenStores.{clean_before}
use Rattle.book_restarts.proofs.SessionLemmas.{visit_leaves}
use Rattle.tree_tables.specs.States.{state}
use Rattle.book_sessions.proofs.Causes.{opened_cause}
use Rattle.book_sessions.proofs.ResumeParts.{unwritten_stays}
use Rattle.book_sessions.proofs.Words.{Trees, IsClean, file_names, has_book}
use Rattle.book_sessions.proofs.visits.visit_in.Goals as goal

pub returns-in-Ok-clause-left : goal.returns-in-Ok-clause-left
returns-in-Ok-clause-left g c = λ book stands clean trees left.
    let before = c.in-Ok.books in
    let after = c.visit-answer.new.books in
    let work = c.visit-answer.ensures.done in
    let same = c.close_store.ensures.same in
    let still : IsClean (g.S.Store.view after.tables.store) =
    subst (λ store. IsClean (g.S.Store.view store)) same clean in
    let first = work.honest still in
    let at = stands (clean_before _ _ c.in-Ok.ensures.crash.clean first) in
    let opened = c.in-Ok.ensures.books first book at.kept.readable at.kept.journaled
    (record { holds = at.kept.holds; rest = at.rest }) in
    visit_leaves file_names (g.S.Store.view after.tables.store)
    (g.S.Store.recovers after.tables.store) after.must_reopen after.summary
    (λ (trees : Trees). g.met.S.Store.settled after.tables.store trees) _ file_names
    (g.V.Visit.work file_names c.args.visit.now c.visit-answer.new.self c.visit-answer.result) book opened work still trees
    (subst (λ store. g.S.Store.recovers store trees) same left)

pub returns-in-Err-clause-same : goal.returns-in-Err-clause-same
returns-in-Err-clause-same g c =
    unwritten_stays (state g.S.Store c.args.store) (state g.S.Store c.in-Err.store)
    (λ (trees : Trees). g.met.S.Store.settled c.args.store trees) c.in-Err.ensures.crash_refused

pub returns-in-Err-clause-refused : goal.returns-in-Err-clause-refused
returns-in-Err-clause-refused g c = λ clean.
    opened_cause (has_book (g.S.Store.view c.args.store).trees ≡ false) ⊥ c.in-Err.fault
    (c.in-Err.ensures.none clean) c.in-Err.ensures.refused
