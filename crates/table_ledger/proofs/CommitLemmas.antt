-- What was staged in a transaction is committed, or not.
use Rattle.std.proofs.Common.{List, Result, Ok, Err, sym, ap, subst, IsErr}
use Rattle.book_model.specs.Words.{Book, Event, after_all, Naming}
use Rattle.tree_tables.specs.Steps.{MayCommit}
use Rattle.table_ledger.specs.Commits.{CommitsWritten}
use Rattle.table_ledger.proofs.Words.{View, StoreError, Ghosts, LedgerFault, State, Survives, state}
use Rattle.table_ledger.proofs.Words.{IsStoredIn, Remembers, StagesBy, AttemptsBy}
use Rattle.table_ledger.specs.Stages.{MayKeepBy}
use Rattle.table_ledger.specs.declared.summary.Summary.{Summary}
use Rattle.table_ledger.proofs.StepLemmas.{rests, stands_only}
use Rattle.table_ledger.proofs.SurvivalLemmas.{clean_before, survives_both, survives_so}
use Rattle.table_ledger.proofs.TryLemmas.{at_ready, untried}
use Rattle.table_ledger.proofs.UnchangedStores.{stands_then}

module _ {S V T : Type 0} {answered : T → Result V LedgerFault}
    {Made : Result V LedgerFault → Book → List Event → Type 0}
    {Leaves : Book → List Event → Type 0} {naming : Naming} {was : Summary}
    {Is : Summary → Type 0} {first : State} (ghosts : Ghosts S) {middle last : S} where
  -- what a stop in the commit may leave
  may_keep : {value : T}
      → StagesBy (λ tables. tables) answered Made Leaves naming was Is first (state ghosts middle) (Ok value)
      → Survives (state ghosts middle) (state ghosts last) (MayCommit (ghosts.view middle))
      → Survives first (state ghosts last) (MayKeepBy naming was first.view Leaves)
  may_keep stages late =
      survives_both stages.survives late (λ clean trees none. absurd none)
      (λ clean trees whole book ready.
      let staged = stages.found (clean_before late clean) book (at_ready ready) in
      record {
        events = staged.events;
        leaves = staged.leaves;
        stored = subst (IsStoredIn naming (after_all staged.events book)) (sym whole.whole)
            staged.kept;
      })

  -- What was staged is committed,
  pub committed : {written : Result T StoreError} {value : T} {is : Summary}
      → StagesBy (λ tables. tables) answered Made Leaves naming was Is first (state ghosts middle) written
      → CommitsWritten ghosts written (Ok value) middle last → Is is
      → AttemptsBy Made Leaves naming was is first (state ghosts last) (Ok (answered value))
  committed {is = is} all commits told =
      let stages =
      subst (StagesBy (λ tables. tables) answered Made Leaves naming was Is first (state ghosts middle)) commits.answer
      all in
      record {
        plain = stages.plain;
        survives = may_keep stages commits.survives;
        found = λ clean book ready.
            let staged = stages.found (clean_before commits.survives clean) book (at_ready ready) in
            let whole = commits.committed clean in
            record {
              events = staged.events;
              made = staged.made;
              ready = record {
                rest = rests first.view (ghosts.view middle) (ghosts.view last) ready.rest
                    staged.only whole;
                kept = subst (IsStoredIn naming (after_all staged.events book))
                    (sym (ap (λ (v : View). v.trees) whole.is)) staged.kept;
                remembers = staged.remembers is told;
              };
            };
      }

  -- or it is not, and the ledger remembers the same book.
  pub uncommitted : {error : StoreError} {is : Summary} (written : Result T StoreError)
      (tried : Result (Result V LedgerFault) StoreError) → IsErr tried
      → StagesBy (λ tables. tables) answered Made Leaves naming was Is first (state ghosts middle) written
      → CommitsWritten ghosts written (Err error) middle last
      → ((book : Book) → Remembers was book → Remembers is book)
      → AttemptsBy Made Leaves naming was is first (state ghosts last) tried
  uncommitted (Ok value) tried failed stages commits same =
      untried tried failed (may_keep stages commits.survives) (λ clean book ready.
      let staged = stages.found (clean_before commits.survives clean) book (at_ready ready) in
      stands_then (stands_only first.view (ghosts.view middle) staged.only)
      (commits.refused clean).stands) same
  uncommitted {is = is} (Err stopped) tried failed stages commits same =
      subst (λ (store : S). AttemptsBy Made Leaves naming was is first (state ghosts store) tried)
      (sym commits.left.1)
      (untried tried failed (survives_so stages.survives (λ clean trees none. absurd none))
      (λ clean book ready. stages.found clean book (at_ready ready)) same)
