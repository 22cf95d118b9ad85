-- Answers that make no event.
use Rattle.std.proofs.Common.{◌≡◌, ◌≢◌, ◌∙◌, inl, Ok, Err, Result, [], None, refl, sym, ap, subst}
use Rattle.book_model.specs.declared.answer.Ruled.TheVariants.{Already}
use Rattle.book_model.specs.Words.{Book, Naming, Outcome}
use Rattle.book_core.specs.Words.{LeavesOpen, Makes, listed}
use Rattle.table_model.specs.Words.{Tables, tables_of}
use Rattle.table_ledger.proofs.Words.{Ruled, Done, LedgerFault, Memory, Store, Reopen, State, Saw}
use Rattle.table_ledger.proofs.Words.{AttemptsOne, IsAt, StagesAs}
use Rattle.table_ledger.specs.declared.summary.Summary.{Summary}
use Rattle.table_ledger.proofs.StageLemmas.{stage_answered}
use Rattle.table_ledger.proofs.TryLemmas.{try_answered}

-- a refusal is answered, and makes no event
pub makes_refused : {V A : Type 0} (view : V → A) (outcome : Outcome A) (fault : LedgerFault)
    → outcome.answer ≡ Err fault → Makes view outcome (Err fault) []
makes_refused view outcome Memory is = refl
makes_refused view outcome Store is = inl refl
makes_refused view outcome Reopen is = refl
makes_refused view outcome fault is = (is, refl)

-- an answer is given, if the outcome has no event
pub makes_answer : {V A : Type 0} (view : V → A) (outcome : Outcome A) (value : V)
    → outcome.answer ≡ Ok (view value) → outcome.event ≡ None → Makes view outcome (Ok value) []
makes_answer view outcome value is none = (is, sym (ap listed none))

-- an answer to a ruling that is not Done makes no event
ruled_makes : (outcome : Outcome Ruled) (answer : Result Ruled LedgerFault)
    → outcome.answer ≡ answer → answer ≢ Ok Done → (answer ≡ Ok Already → outcome.event ≡ None)
    → Makes (λ (ruled : Ruled). ruled) outcome answer []
ruled_makes outcome (Ok Done) is other none = absurd (other refl)
ruled_makes outcome (Ok Already) is other none =
    makes_answer (λ (ruled : Ruled). ruled) outcome Already is (none refl)
ruled_makes outcome (Err fault) is other none =
    makes_refused (λ (ruled : Ruled). ruled) outcome fault is

-- A ruling that is not Done is answered by looks alone.
pub ruled_other : {naming : Naming} {was : Summary} (outcome : Book → Outcome Ruled)
    {old new : State} {Known : Tables → Type 0} {answer given : Result Ruled LedgerFault}
    → answer ≡ given → LeavesOpen given → answer ≢ Ok Done → Saw old new Known
    → ((book : Book) → IsAt naming was old.view book → Known (tables_of naming book)
    → (outcome book).answer ≡ given)
    → ((book : Book) → (outcome book).answer ≡ Ok Already → (outcome book).event ≡ None)
    → AttemptsOne (λ (ruled : Ruled). ruled) naming was was old new outcome (Ok answer)
ruled_other outcome {answer = answer} is plain other saw says none =
    try_answered outcome saw (subst LeavesOpen (sym is) plain) (λ book at known.
    let said = says book at known ∙ sym is in
    ruled_makes (outcome book) answer said other (λ already. none book (said ∙ already)))

-- So is one inside a transaction.
pub ruled_staged : {naming : Naming} {was : Summary} (outcome : Book → Outcome Ruled)
    {old new : State} {Known : Tables → Type 0} {answer given : Result Ruled LedgerFault}
    → answer ≡ given → LeavesOpen given → answer ≢ Ok Done → Saw old new Known
    → ((book : Book) → IsAt naming was old.view book → Known (tables_of naming book)
    → (outcome book).answer ≡ given)
    → ((book : Book) → (outcome book).answer ≡ Ok Already → (outcome book).event ≡ None)
    → StagesAs (λ tables. tables) (λ (ruled : Ruled). ruled) naming was was old new outcome (Ok answer)
ruled_staged outcome {answer = answer} is plain other saw says none =
    stage_answered (λ tables. tables) outcome saw (subst LeavesOpen (sym is) plain) (λ book at known.
    let said = says book at known ∙ sym is in
    ruled_makes (outcome book) answer said other (λ already. none book (said ∙ already)))
