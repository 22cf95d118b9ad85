-- Looks that are given up, after others: all is left as it was.
use Rattle.std.proofs.Common.{Result, Err, IsErr}
use Rattle.tree_rows.proofs.Calls.{kept_after_look, kept_same}
use Rattle.table_model.specs.Words.{Tables}
use Rattle.tree_tables.proofs.Looking.{looks_err, survives_both, was_clean}
use Rattle.table_ledger.proofs.Words.{Looks, Saw, State, StoreError}

module _ {A : Type 0} {old new : State} {Known : Tables → Type 0} {Answers : Tables → A → Type 0}
    (result : Result A StoreError) (failed : IsErr result) where
  -- the last one is refused
  pub look_refused : {B : Type 0} {mid : State} {First : Tables → B → Type 0} {error : StoreError}
      → Saw old mid Known → Looks {A = B} (Err error) mid new First → Looks result old new Answers
  look_refused saw call =
      looks_err result failed (survives_both saw.survives call.survives) (λ clean.
      kept_after_look (saw.seen (was_clean call.survives clean)).same (call.refused clean))

  -- none is
  pub look_given_up : Saw old new Known → Looks result old new Answers
  look_given_up saw =
      looks_err result failed saw.survives (λ clean. kept_same (saw.seen clean).same)
