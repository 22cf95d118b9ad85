-- A call that is tried inside a transaction: looks at the tables, and then an answer or steps.
use Rattle.std.proofs.Common.{◌≡◌, ◌∙◌, inl, inr, List, Result, Ok, Err, Some, [], ◌∷◌, refl, sym}
use Rattle.std.proofs.Common.{ap, subst, true≢false, IsErr}
use Rattle.book_model.specs.Words.{Book, Event, IsAnswered, after, Outcome, Naming}
use Rattle.book_core.specs.Words.{Makes, listed, LeavesOpen}
use Rattle.table_model.specs.Words.{changed, Tables, tables_of, IsSubmittedTo}
use Rattle.table_model.proofs.EventLemmas.{event_follows}
use Rattle.tree_rows.proofs.Calls.{only_looks}
use Rattle.tree_tables.proofs.Looking.{does_err}
use Rattle.table_ledger.proofs.Words.{StoreError, LedgerFault, kept_after_look, Holds, State}
use Rattle.table_ledger.proofs.Words.{HasCleanDisk, Survives, Does, KeepsLastCommit, Looks, kept_last}
use Rattle.table_ledger.proofs.Words.{only_both, Saw, Remembers, IsAtAs, LeavesOne, MakesOf}
use Rattle.table_ledger.proofs.Words.{StagesAs, StagesBy}
use Rattle.table_ledger.specs.Stages.{IsStaged, StagesWhere}
use Rattle.table_ledger.specs.Ready.{IsStoredAs}
use Rattle.table_ledger.specs.declared.summary.Summary.{Summary}
use Rattle.table_model.proofs.JournalStays.{journaled_stays}
use Rattle.table_model.proofs.ReadableStays.{readable_stays}
use Rattle.table_ledger.proofs.Remembered.{remembers_as}
use Rattle.table_ledger.proofs.SurvivalLemmas.{clean_before, survives_then}
use Rattle.table_ledger.proofs.UnchangedStores.{holds_on, trees_same}

-- looks, and then steps, which may rest on what was seen
pub does_seen : {T : Type 0} {old middle new : State} {Known When : Tables → Type 0}
    {change : Tables → Tables} (result : Result T StoreError) → Saw old middle Known
    → Does result middle new (λ tables. When tables × Known tables) change
    → Does result old new When change
does_seen {old = old} {middle = middle} {new = new} (Ok value) saw does = record {
  survives = survives_then saw.survives does.survives;
  done = λ clean.
      let seen = saw.seen (clean_before does.survives clean) in
      let changes = does.done clean in
      record {
        only = only_both old.view (only_looks old.view seen.same) changes.only;
        made = λ tables holds when.
            changes.made tables (holds_on old.view middle.view tables seen.same holds)
            (when, seen.known tables holds);
      };
  refused = λ clean. tt;
}
does_seen (Err error) saw does =
    does_err (Err error) refl (survives_then saw.survives does.survives) (λ clean.
    kept_after_look (saw.seen (clean_before does.survives clean)).same (does.refused clean))

-- What steps make of a book: an event of the outcome that was submitted, with this answer, which
-- the book gives; the change that this event is; and, by the tables that it leaves, the summaries
-- that then remember the book.
pub record IsEventAs {V A : Type 0} (written : Tables → Tables) (view : V → A) (naming : Naming)
    (outcome : Book → Outcome A) (value : V) (Is : Summary → Type 0) (When : Tables → Type 0)
    (change : Tables → Tables) (book : Book) : Type 0 where
  pub event : Event
  pub is : (outcome book).event ≡ Some event
  pub answer : (outcome book).answer ≡ Ok (view value)
  pub submitted : IsSubmittedTo book event
  pub answered : IsAnswered naming event book
  pub when : When (written (tables_of naming book))
  pub changes : change (written (tables_of naming book))
      ≡ written (changed naming book.rulings event (tables_of naming book))
  pub remembers :
      tables_of naming (after event book) ≡ changed naming book.rulings event (tables_of naming book)
      → (summary : Summary) → Is summary → Remembers summary (after event book)

-- where all of it is written
abbrev pub IsEvent : {V A : Type 0} → (V → A) → Naming → (Book → Outcome A) → V
    → (Summary → Type 0) → (Tables → Type 0) → (Tables → Tables) → Book → Type 0
IsEvent view naming outcome value Is When change book =
    IsEventAs (λ tables. tables) view naming outcome value Is When change book

module _ {V T : Type 0} {answered : T → Result V LedgerFault}
    {Made : Result V LedgerFault → Book → List Event → Type 0}
    {Leaves : Book → List Event → Type 0} {naming : Naming} {was : Summary}
    {Is : Summary → Type 0} {written : Tables → Tables} where
  -- Work is not staged where the store refused it:
  pub unstaged : {old new : State} (staged : Result T StoreError) → IsErr staged
      → Survives old new (λ trees. ⊥)
      → (HasCleanDisk new → (book : Book) → IsAtAs written naming was old.view book
      → KeepsLastCommit old.view new.view)
      → StagesBy written answered Made Leaves naming was Is old new staged
  unstaged (Err error) failed survives stands =
      record { plain = tt; survives = survives; found = stands }
  unstaged (Ok value) failed survives stands = absurd (true≢false (sym failed))

  -- or the steps after looks.
  pub stage_undone : {U : Type 0} {old middle new : State} {Known When : Tables → Type 0}
      {change : Tables → Tables} {error : StoreError} (staged : Result T StoreError)
      → IsErr staged → Saw old middle Known → Does {T = U} (Err error) middle new When change
      → StagesBy written answered Made Leaves naming was Is old new staged
  stage_undone staged failed saw does =
      unstaged staged failed (survives_then saw.survives does.survives) (λ clean book at.
      kept_last (kept_after_look (saw.seen (clean_before does.survives clean)).same
      (does.refused clean)))

  -- or a look after looks.
  pub stage_unseen : {B : Type 0} {old middle new : State} {Known : Tables → Type 0}
      {Answers : Tables → B → Type 0} {error : StoreError} (staged : Result T StoreError)
      → IsErr staged → Saw old middle Known → Looks {A = B} (Err error) middle new Answers
      → StagesBy written answered Made Leaves naming was Is old new staged
  stage_unseen staged failed saw looks =
      unstaged staged failed (survives_then saw.survives looks.survives) (λ clean book at.
      kept_last (kept_after_look (saw.seen (clean_before looks.survives clean)).same
      (looks.refused clean)))

  -- What was staged is answered, and this summary remembers the book.
  pub staged_so : {old new : State} {done : T} (is : Summary) → Is is
      → StagesBy written answered Made Leaves naming was Is old new (Ok done)
      → StagesBy written (λ answer. answer) Made Leaves naming was (λ summary. summary ≡ is) old new
      (Ok (answered done))
  staged_so is told stages = record {
    plain = stages.plain;
    survives = stages.survives;
    found = λ clean book at.
        let staged = stages.found clean book at in
        record {
          events = staged.events;
          made = staged.made;
          leaves = staged.leaves;
          only = staged.only;
          kept = staged.kept;
          remembers = λ summary same. remembers_as (staged.remembers is told) same;
        };
  }

-- The call is answered by looks alone.
pub stage_answered : {V A : Type 0} {view : V → A} {naming : Naming} {was : Summary}
    (written : Tables → Tables) (outcome : Book → Outcome A) {old new : State}
    {Known : Tables → Type 0} {answer : Result V LedgerFault} → Saw old new Known
    → LeavesOpen answer
    → ((book : Book) → IsAtAs written naming was old.view book
    → Known (written (tables_of naming book)) → Makes view (outcome book) answer [])
    → StagesAs written view naming was was old new outcome (Ok answer)
stage_answered {naming = naming} written outcome {old = old} {new = new} saw plain makes = record {
  plain = plain;
  survives = saw.survives;
  found = λ clean book at.
      let seen = saw.seen clean in
      record {
        events = [];
        made = makes book at (seen.known (written (tables_of naming book)) at.kept.holds);
        leaves = inl refl;
        only = only_looks old.view seen.same;
        kept = subst (IsStoredAs written naming book)
            (sym (trees_same old.view new.view seen.same)) at.kept;
        remembers = λ summary same. remembers_as at.remembers same;
      };
}

-- The steps of an event are staged after looks.
event_staged : {V A T : Type 0} {view : V → A} {naming : Naming} {was : Summary}
    {outcome : Book → Outcome A} {first middle last : State} {Known When : Tables → Type 0}
    {change : Tables → Tables} {value : V} {Is : Summary → Type 0} {written : Tables → Tables}
    {done : T} → Saw first middle Known → Does (Ok done) middle last When change
    → HasCleanDisk last → (book : Book) → IsAtAs written naming was first.view book
    → (Known (written (tables_of naming book))
    → IsEventAs written view naming outcome value Is When change book)
    → IsStaged written (MakesOf view outcome (Ok value)) (LeavesOne outcome) naming Is first.view
    last.view book
event_staged {naming = naming} {first = first} {middle = middle} {last = last} {written = written} saw
    does clean book at is_event =
    let tables = written (tables_of naming book) in
    let seen = saw.seen (clean_before does.survives clean) in
    let event = is_event (seen.known tables at.kept.holds) in
    let changes = does.done clean in
    let whole = at.kept.readable in
    let follows =
    event_follows naming book event.event whole.sound whole.usage at.kept.journaled event.answered
    whole.rising in
    record {
      events = event.event ∷ [];
      made = (event.answer, ap listed (sym event.is));
      leaves = inr (ap listed (sym event.is));
      only = only_both first.view (only_looks first.view seen.same) changes.only;
      kept = record {
        readable = readable_stays naming book event.event whole event.submitted event.answered;
        journaled = journaled_stays naming book event.event at.kept.journaled event.answered;
        holds = subst (Holds last.view.trees) (event.changes ∙ ap written (sym follows))
            (changes.made tables
            (holds_on first.view middle.view tables seen.same at.kept.holds) event.when);
      };
      remembers = event.remembers follows;
    }

-- The steps of a call are staged after its looks.
pub stage_steps : {V A T : Type 0} {view : V → A} {naming : Naming} {was : Summary}
    {outcome : Book → Outcome A} {first middle last : State} {Known When : Tables → Type 0}
    {change : Tables → Tables} {value : V} {Is : Summary → Type 0} {written : Tables → Tables}
    (staged : Result T StoreError)
    → Saw first middle Known → Does staged middle last When change
    → ((book : Book) → IsAtAs written naming was first.view book
    → Known (written (tables_of naming book))
    → IsEventAs written view naming outcome value Is When change book)
    → StagesBy written (λ done. Ok value) (MakesOf view outcome) (LeavesOne outcome) naming was Is
    first last staged
stage_steps (Ok done) saw does events = record {
  plain = record { stored = refl; served = refl };
  survives = survives_then saw.survives does.survives;
  found = λ clean book at.
      event_staged saw does clean book at (λ known. events book at known);
}
stage_steps (Err error) saw does events = stage_undone (Err error) refl saw does

-- ---- of books of which something else is given

module _ {V T : Type 0} {Given : Book → Type 0} {written : Tables → Tables}
    {answered : T → Result V LedgerFault} {Made : Result V LedgerFault → Book → List Event → Type 0}
    {Leaves : Book → List Event → Type 0} {naming : Naming} {was : Summary}
    {Is : Summary → Type 0} where
  -- what is staged of any book is staged of these
  pub stages_where : {old new : State} {staged : Result T StoreError}
      → StagesBy written answered Made Leaves naming was Is old new staged
      → StagesWhere Given written answered Made Leaves naming was Is old new staged
  stages_where stages = record {
    plain = stages.plain;
    survives = stages.survives;
    found = λ clean book given at. stages.found clean book at;
  }

  -- work is not staged where the store refused it
  pub unstaged_where : {old new : State} (staged : Result T StoreError) → IsErr staged
      → Survives old new (λ trees. ⊥)
      → (HasCleanDisk new → (book : Book) → Given book → IsAtAs written naming was old.view book
      → KeepsLastCommit old.view new.view)
      → StagesWhere Given written answered Made Leaves naming was Is old new staged
  unstaged_where (Err error) failed survives stands =
      record { plain = tt; survives = survives; found = stands }
  unstaged_where (Ok value) failed survives stands = absurd (true≢false (sym failed))

-- the steps of a call are staged after its looks, and this summary remembers the book
pub steps_where : {V A T : Type 0} {Given : Book → Type 0} {view : V → A} {naming : Naming}
    {was : Summary} {outcome : Book → Outcome A} {first middle last : State}
    {Known When : Tables → Type 0} {change : Tables → Tables} {value : V} {Is : Summary → Type 0}
    {written : Tables → Tables} {done : T} (is : Summary) → Is is → Saw first middle Known
    → Does (Ok done) middle last When change
    → ((book : Book) → Given book → IsAtAs written naming was first.view book
    → Known (written (tables_of naming book))
    → IsEventAs written view naming outcome value Is When change book)
    → StagesWhere Given written (λ (answer : Result V LedgerFault). answer) (MakesOf view outcome)
    (LeavesOne outcome) naming was (λ summary. summary ≡ is) first last (Ok (Ok value))
steps_where is told saw does events = record {
  plain = record { stored = refl; served = refl };
  survives = survives_then saw.survives does.survives;
  found = λ clean book given at.
      let staged = event_staged saw does clean book at (λ known. events book given at known) in
      record {
        events = staged.events;
        made = staged.made;
        leaves = staged.leaves;
        only = staged.only;
        kept = staged.kept;
        remembers = λ summary same. remembers_as (staged.remembers is told) same;
      };
}
