-- What a function that stops at a refusal answers: an error, whichever it is.
use Rattle.std.proofs.Common.{Result, Err, IsErr}
use Rattle.table_model.specs.Words.{Tables}
use Rattle.table_ledger.proofs.Words.{StoreError, State, Looks, Saw, kept_after_look}
use Rattle.tree_rows.proofs.Calls.{kept_same}
use Rattle.tree_tables.proofs.Looking.{looks_err}
use Rattle.table_ledger.proofs.SurvivalLemmas.{clean_before, survives_then}

-- a look that is refused after others
pub looks_failed_next : {A B : Type 0} {old middle new : State} {Known : Tables → Type 0}
    {Answers : Tables → A → Type 0} {Others : Tables → B → Type 0} {error : StoreError}
    (result : Result A StoreError) → IsErr result → Saw old middle Known
    → Looks {A = B} (Err error) middle new Others → Looks result old new Answers
looks_failed_next result failed saw looks =
    looks_err result failed (survives_then saw.survives looks.survives) (λ clean.
    kept_after_look (saw.seen (clean_before looks.survives clean)).same (looks.refused clean))

-- looks, after which something else fails
pub looks_failed_after : {A : Type 0} {old new : State} {Known : Tables → Type 0}
    {Answers : Tables → A → Type 0} (result : Result A StoreError) → IsErr result
    → Saw old new Known → Looks result old new Answers
looks_failed_after result failed saw =
    looks_err result failed saw.survives (λ clean. kept_same (saw.seen clean).same)
