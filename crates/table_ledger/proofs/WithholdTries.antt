-- A choice of none that is tried: what it answers, and what it writes.
use Rattle.std.proofs.Common.{◌≡◌, ◌∙◌, ℕ, ◌+◌, List, refl, sym, ap, Bool, Ok, Err, Option, None}
use Rattle.std.proofs.Common.{Some, Result, ℤ, length-append, nat_le, option_map}
use Rattle.book_model.proofs.Std.{get, option_map_or}
use Rattle.book_core.specs.Words.{ruled_in, withdraw, LeavesOpen}
use Rattle.book_core.specs.declared.effects.Effects.{Effects}
use Rattle.book_model.specs.Journal.{ChoiceOf}
use Rattle.book_model.specs.Words.{Book, IsAnswered, Naming, Note, WorkWithheld, RulingGiven}
use Rattle.book_model.specs.Words.{if_done, last_close}
use Rattle.book_model.specs.Words.{most_choices, open_by, record_named, withheld_answer}
use Rattle.book_model.specs.Words.{withhold_answer, withhold_outcome}
use Rattle.book_model.specs.declared.fault.LedgerFault.TheVariants.{NoSuchRecord}
use Rattle.table_model.specs.Changed.{rows_changed, withheld_at}
use Rattle.table_model.specs.RulingsRead.{withheld_by, withhold_row}
use Rattle.table_model.specs.Words.{IsReadable, RecordRow, Tables, is_withheld_in, put_withheld}
use Rattle.table_model.specs.Words.{tables_of}
use Rattle.table_model.proofs.ChoiceLemmas.{choices_follow}
use Rattle.table_model.proofs.ChoiceReading.{choices_count}
use Rattle.book_core.proofs.NamedLemmas.{its_name}
use Rattle.book_core.proofs.OpenAnswers.{opens_if}
use Rattle.book_core.proofs.RulingLemmas.{withheld_by as meant_by}
use Rattle.table_ledger.proofs.Words.{Done, FindsRecord, IsAt, LeavesOne, Looks, MakesOf, Ruled}
use Rattle.table_ledger.proofs.Words.{Saw, StagesBy, State, StoreError, StoredRecord, View, opens}
use Rattle.table_ledger.proofs.Words.{stored_entry}
use Rattle.table_ledger.specs.ChoiceReads.{FindsWithdrawn}
use Rattle.table_ledger.specs.Entries.{DoesRuling, NumbersEntries, enter_row}
use Rattle.table_ledger.specs.Premises.{IsNext}
use Rattle.table_ledger.specs.declared.summary.Summary.{Summary}
use Rattle.table_ledger.proofs.AcceptTries.{none_found, saw_as}
use Rattle.table_ledger.proofs.ChoiceTries.{next_is_new}
use Rattle.table_ledger.proofs.LineReadings.{found_row}
use Rattle.table_ledger.proofs.EnteredRulings.{entries_numbered, ruling_entered}
use Rattle.table_ledger.proofs.Remembered.{Says}
use Rattle.table_ledger.proofs.StageLemmas.{IsEvent, stage_steps}
use Rattle.table_ledger.proofs.TryLemmas.{saw_found, saw_so, saw_then}

-- a record was found, and whether its work is withheld
pub saw_withheld : {first middle last : State} {found : Option StoredRecord} {withheld : Bool}
    {identity : List ℕ} (name : List ℕ) (stored : StoredRecord)
    → found ≡ Some stored → identity ≡ stored.identity.items
    → Looks (Ok found) first middle (FindsRecord name)
    → Looks (Ok withheld) middle last (λ tables withheld. withheld ≡ is_withheld_in tables identity)
    → Saw first last (λ tables. FindsRecord name tables (Some stored)
    × (withheld ≡ is_withheld_in tables stored.identity.items))
saw_withheld name stored is same looks told =
    saw_so (saw_then (saw_as name is looks) (saw_found told))
    (λ tables known. (known.0, known.1 ∙ ap (is_withheld_in tables) same))

-- the record that is meant by a choice of none that is Done
withheld_one : (naming : Naming) (book : Book) (name : List ℕ)
    → withhold_answer naming book name ≡ Ok Done
    → (bytes : List ℕ) × (record_named naming book.held name ≡ Some bytes)
withheld_one naming book name done = by_found (record_named naming book.held name) refl
  where
    by_found : (found : Option (List ℕ)) → record_named naming book.held name ≡ found
        → (bytes : List ℕ) × (record_named naming book.held name ≡ Some bytes)
    by_found None is =
        let none : Err NoSuchRecord ≡ Ok Done = sym (ap (withheld_answer book) is) ∙ done in cc
    by_found (Some bytes) is = (bytes, is)

-- ---- the answer

-- by its tests, it leaves the books open
pub withheld_plain : (withheld full : Bool) → LeavesOpen (withheld_by withheld full)
withheld_plain withheld full =
    opens_if withheld (opens refl refl) (opens_if full (opens refl refl) (opens refl refl))

module _ (naming : Naming) (was : Summary) (name : List ℕ) (view : View) (book : Book)
    (ready : IsAt naming was view book) where
  abbrev tables : Tables
  tables = tables_of naming book

  -- the book can be read back
  readable : IsReadable naming book
  readable = ready.kept.readable

  -- the answer, by the row of the name
  told : (found : Option RecordRow) → get tables.records name ≡ found
      → withhold_answer naming book name ≡ withhold_row tables found
  told found is =
      choices_follow.withhold naming book name readable ∙ ap (withhold_row tables) is

  -- there is no record of the name
  pub withhold_none : FindsRecord name tables None
      → withhold_answer naming book name ≡ Err NoSuchRecord
  withhold_none known = told None (none_found name (get tables.records name) known)

  -- its row was found, and whether its work is withheld
  module _ (stored : StoredRecord) (known : FindsRecord name tables (Some stored))
      {withheld : Bool} (is_withheld : withheld ≡ is_withheld_in tables stored.identity.items)
    where
      abbrev row : RecordRow
      row = (stored_entry stored).1

      -- the tables have the row
      found : (get tables.records name ≡ Some row) × (name ≡ stored.name)
      found = found_row name stored (get tables.records name) known

      -- the answer by its tests
      pub withhold_told : withhold_answer naming book name
          ≡ withheld_by withheld (nat_le most_choices was.choices)
      withhold_told =
          let made = choices_count naming book ∙ sym ready.remembers.choices in
          told (Some row) found.0
          ∙ (λ i. withheld_by (sym is_withheld i) (nat_le most_choices (made i)))

      -- A choice of none that is answered Done is an event.
      pub withhold_is_event : withheld_by withheld (nat_le most_choices was.choices) ≡ Ok Done
          → (period : ℕ) (through : Option ℤ) (withdrawn : Option Effects)
          → period ≡ open_by (ruled_in was.rulings) → through ≡ last_close (ruled_in was.rulings)
          → FindsWithdrawn through (stored_entry stored) tables withdrawn → (noted : Option Note)
          → IsEvent (λ (ruled : Ruled). ruled) naming (withhold_outcome naming noted name) Done
          (Says (ruled_in was.rulings) (was.choices + 1) was.replaced was.credits was.held was.total)
          (λ tables. IsNext (was.choices + 1) tables
          × NumbersEntries (put_withheld (was.choices + 1) period name withdrawn tables))
          (λ tables. enter_row noted (ChoiceOf (was.choices + 1))
          (put_withheld (was.choices + 1) period name withdrawn tables)) book
      withhold_is_event tests period through withdrawn period_is through_is withdrawn_is noted =
          let done = withhold_told ∙ tests in
          let one = withheld_one naming book name done in
          let named = its_name naming book.held name one.0 one.1 in
          let current = choices_follow.current naming book row.identity readable in
          let count = ap (λ n. n + 1) ready.remembers.choices in
          let ruling = WorkWithheld one.0 in
          let answered : IsAnswered naming (RulingGiven noted ruling) book = (
            ap (withhold_answer naming book) named ∙ done,
            ap (record_named naming book.held) named ∙ one.1,
          ) in
          let made : put_withheld (was.choices + 1) period name withdrawn tables
          ≡ rows_changed naming book.rulings (RulingGiven noted ruling) tables =
          (λ i. put_withheld (count i) ((period_is ∙ ap open_by ready.remembers.rulings) i) name
          ((withdrawn_is
          ∙ (λ i. option_map (withdraw ((through_is ∙ ap last_close ready.remembers.rulings) i))
          (current i))) i) tables)
          ∙ (λ i. option_map_or (λ row. withheld_at book.rulings (sym named i) row tables)
          ((sym found.0 ∙ ap (get tables.records) (sym named)) i) tables) in
          record {
            event = RulingGiven noted ruling;
            is = ap (if_done (meant_by noted (record_named naming book.held name))) done
                ∙ ap (meant_by noted) one.1;
            answer = done;
            answered = answered;
            when = (
              next_is_new naming book (was.choices + 1) count,
              entries_numbered naming book noted ruling readable answered made,
            );
            submitted = tt;
            changes = ruling_entered naming book noted ruling readable answered made
                (ap ChoiceOf count);
            remembers = λ follows summary says. record {
              rulings = says.rulings ∙ ready.remembers.rulings;
              choices = says.choices ∙ count ∙ sym (length-append book.rulings.choices _);
              replaced = says.replaced ∙ ready.remembers.replaced;
              credits = says.credits ∙ ready.remembers.credits;
              held = says.held ∙ ready.remembers.held;
              total = says.total ∙ ready.remembers.total;
            };
          }

-- What a choice of none writes is staged, after the looks that its test and its effects rest on.
pub withhold_staged : {first second third fourth last : State} {found : Option StoredRecord}
    {identity : List ℕ} {withdrawn : Option Effects} {T : Type 0} {written : Result T StoreError}
    {withheld : Bool} (naming : Naming) (noted : Option Note) (was : Summary) (name : List ℕ)
    (stored : StoredRecord) (period : ℕ) (through : Option ℤ)
    → found ≡ Some stored → identity ≡ stored.identity.items
    → Looks (Ok found) first second (FindsRecord name)
    → Looks (Ok withheld) second third
    (λ tables withheld. withheld ≡ is_withheld_in tables identity)
    → Looks (Ok withdrawn) third fourth (FindsWithdrawn through (stored_entry stored))
    → DoesRuling written fourth last (IsNext (was.choices + 1))
    (put_withheld (was.choices + 1) period name withdrawn) noted (ChoiceOf (was.choices + 1))
    → withheld_by withheld (nat_le most_choices was.choices) ≡ Ok Done
    → period ≡ open_by (ruled_in was.rulings) → through ≡ last_close (ruled_in was.rulings)
    → StagesBy (λ tables. tables) (λ (done : T). Ok Done)
    (MakesOf (λ (ruled : Ruled). ruled) (withhold_outcome naming noted name))
    (LeavesOne (withhold_outcome naming noted name)) naming was
    (Says (ruled_in was.rulings) (was.choices + 1) was.replaced was.credits was.held was.total)
    first last written
withhold_staged {withdrawn = withdrawn} {written = written} naming noted was name stored period
    through is
    same looks told seen writes tests period_is through_is =
    stage_steps written
    (saw_then (saw_withheld name stored is same looks told) (saw_found seen)) writes
    (λ book at known. withhold_is_event naming was name _ book at stored known.0.0 known.0.1 tests
    period through withdrawn period_is through_is known.1 noted)
