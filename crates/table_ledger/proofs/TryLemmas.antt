-- A call that is tried: looks at the tables, and then an answer or a refusal.
use Rattle.std.proofs.Common.{List, Result, Ok, Err, [], refl, sym, subst, true≢false, IsErr}
use Rattle.book_model.specs.Words.{Book, Event, Outcome, Naming}
use Rattle.book_core.specs.Words.{Makes, LeavesOpen}
use Rattle.table_model.specs.Words.{Tables, tables_of}
use Rattle.tree_rows.proofs.Calls.{unchanged_both}
use Rattle.table_ledger.proofs.Words.{View, StoreError, LedgerFault, IsUnchanged, HasCleanDisk}
use Rattle.table_ledger.proofs.Words.{State, Survives, KeepsLastCommit, Looks, kept_after_look}
use Rattle.table_ledger.proofs.Words.{kept_last, Saw, IsReadyAt, IsStoredIn, Remembers, AttemptsBy}
use Rattle.table_ledger.proofs.Words.{AttemptsOne, IsAt}
use Rattle.table_ledger.specs.Stages.{MayKeepBy}
use Rattle.table_ledger.specs.declared.summary.Summary.{Summary}
use Rattle.table_ledger.proofs.UnchangedStores.{holds_on, rest_on, trees_same}
use Rattle.table_ledger.proofs.SurvivalLemmas.{clean_before, survives_both, survives_none}
use Rattle.table_ledger.proofs.SurvivalLemmas.{survives_so, survives_then}

-- ---- looks

-- no look at all
pub saw_none : {state : State} → Saw state state (λ tables. Unit {0})
saw_none {state} = record {
  survives = survives_none;
  seen = λ clean. record { same = refl; known = λ tables holds. tt };
}

-- a look that was answered
pub saw_found : {A : Type 0} {old new : State} {Answers : Tables → A → Type 0} {answer : A}
    → Looks (Ok answer) old new Answers → Saw old new (λ tables. Answers tables answer)
saw_found looks = record { survives = looks.survives; seen = looks.found }

-- looks, and then others
pub saw_then : {first middle last : State} {One Other : Tables → Type 0} → Saw first middle One
    → Saw middle last Other → Saw first last (λ tables. One tables × Other tables)
saw_then {first} {middle} {last} {One} {Other} one other = record {
  survives = survives_then one.survives other.survives;
  seen = λ clean.
      let early = one.seen (clean_before other.survives clean) in
      let late = other.seen clean in
      record {
        same = unchanged_both first.view early.same late.same;
        known = λ tables holds.
            (early.known tables holds, late.known tables (holds_on first.view middle.view tables early.same holds));
      };
}

-- what is known may be described in other words
pub saw_so : {old new : State} {One Other : Tables → Type 0} → Saw old new One
    → ((tables : Tables) → One tables → Other tables) → Saw old new Other
saw_so one so = record {
  survives = one.survives;
  seen = λ clean.
      let seen = one.seen clean in
      record { same = seen.same; known = λ tables holds. so tables (seen.known tables holds) };
}

-- looks answer what is known of the tables
pub looks_known : {A : Type 0} {old new : State} {Known : Tables → Type 0}
    {Answers : Tables → A → Type 0} {answer : A} → Saw old new Known
    → ((tables : Tables) → Known tables → Answers tables answer)
    → Looks (Ok answer) old new Answers
looks_known saw answers = record {
  survives = saw.survives;
  found = λ clean.
      let seen = saw.seen clean in
      record { same = seen.same; known = λ tables holds. answers tables (seen.known tables holds) };
  refused = λ clean. tt;
}

-- ---- calls

-- a ledger that is ready is at its book
pub at_ready : {naming : Naming} {summary : Summary} {view : View} {book : Book}
    → IsReadyAt naming summary view book → IsAt naming summary view book
at_ready ready = record { kept = ready.kept; remembers = ready.remembers }

-- a ledger is ready after what changes nothing
pub ready_same : {naming : Naming} {was : Summary} {book : Book} (old new : View)
    → IsUnchanged old new → IsReadyAt naming was old book → IsReadyAt naming was new book
ready_same {naming} {was} {book} old new same ready = record {
  rest = rest_on old new same ready.rest;
  kept = subst (IsStoredIn naming book) (sym (trees_same old new same)) ready.kept;
  remembers = ready.remembers;
}

-- The call is answered by looks alone.
pub try_answered : {V A : Type 0} {view : V → A} {naming : Naming} {was : Summary}
    (outcome : Book → Outcome A) {old new : State} {Known : Tables → Type 0}
    {answer : Result V LedgerFault} → Saw old new Known → LeavesOpen answer
    → ((book : Book) → IsAt naming was old.view book → Known (tables_of naming book)
    → Makes view (outcome book) answer [])
    → AttemptsOne view naming was was old new outcome (Ok answer)
try_answered {naming = naming} outcome {old = old} {new = new} saw plain makes = record {
  plain = plain;
  survives = survives_so saw.survives (λ clean trees none. absurd none);
  found = λ clean book ready.
      let seen = saw.seen clean in
      record {
        events = [];
        made = makes book (at_ready ready) (seen.known (tables_of naming book) ready.kept.holds);
        ready = ready_same old.view new.view seen.same ready;
      };
}

module _ {V : Type 0} {Made : Result V LedgerFault → Book → List Event → Type 0}
    {Leaves : Book → List Event → Type 0} {naming : Naming} {was : Summary} where
  -- A call has no answer where the last commit stays.
  pub untried : {is : Summary} {old new : State} (tried : Result (Result V LedgerFault) StoreError)
      → IsErr tried → Survives old new (MayKeepBy naming was old.view Leaves)
      → (HasCleanDisk new → (book : Book) → IsReadyAt naming was old.view book
      → KeepsLastCommit old.view new.view)
      → ((book : Book) → Remembers was book → Remembers is book)
      → AttemptsBy Made Leaves naming was is old new tried
  untried (Err error) failed survives stands same = record {
    plain = tt;
    survives = survives;
    found = λ clean book ready.
        record { stands = stands clean book ready; remembers = same book ready.remembers };
  }
  untried (Ok answer) failed survives stands same = absurd (true≢false (sym failed))

  -- or because the last look is refused.
  pub try_refused : {B : Type 0} {old middle new : State} {Known : Tables → Type 0}
      {Answers : Tables → B → Type 0} {error : StoreError}
      (tried : Result (Result V LedgerFault) StoreError) → IsErr tried → Saw old middle Known
      → Looks {A = B} (Err error) middle new Answers
      → AttemptsBy Made Leaves naming was was old new tried
  try_refused tried failed saw looks =
      untried tried failed
      (survives_both saw.survives looks.survives (λ clean trees none. absurd none)
      (λ clean trees none. absurd none))
      (λ clean book ready. kept_last (kept_after_look
      (saw.seen (clean_before looks.survives clean)).same (looks.refused clean)))
      (λ book same. same)
