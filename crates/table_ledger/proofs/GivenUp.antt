-- A call that is given up after looks leaves all as it was.
use Rattle.std.proofs.Common.{List, Result, IsErr}
use Rattle.book_model.specs.Words.{Book, Event, Naming}
use Rattle.tree_rows.proofs.Calls.{kept_same}
use Rattle.table_model.specs.Words.{Tables}
use Rattle.table_ledger.proofs.Words.{AttemptsBy, LedgerFault, Saw, State, StoreError, kept_last}
use Rattle.table_ledger.specs.declared.summary.Summary.{Summary}
use Rattle.table_ledger.proofs.SurvivalLemmas.{survives_so}
use Rattle.table_ledger.proofs.TryLemmas.{untried}

module _ {V : Type 0} {Made : Result V LedgerFault → Book → List Event → Type 0}
    {Leaves : Book → List Event → Type 0} {naming : Naming} {was : Summary} where
  pub given_up : {old new : State} {Known : Tables → Type 0}
      (tried : Result (Result V LedgerFault) StoreError) → IsErr tried → Saw old new Known
      → AttemptsBy Made Leaves naming was was old new tried
  given_up tried failed saw =
      untried tried failed (survives_so saw.survives (λ clean trees none. absurd none))
      (λ clean book ready. kept_last (kept_same (saw.seen clean).same)) (λ book same. same)
