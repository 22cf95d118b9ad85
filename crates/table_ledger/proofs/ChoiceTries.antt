-- A choice that is tried: what it answers, and what it writes.
use Rattle.std.proofs.Common.{◌≡◌, ◌∙◌, ℕ, ◌+◌, List, length, refl, sym, ap, subst, Bool, Ok, Err}
use Rattle.std.proofs.Common.{Option, None, Some, Result, arith, ℤ, nat_le, ◌==◌, length-append}
use Rattle.std.proofs.Common.{◌&&◌, not}
use Rattle.book_model.proofs.Std.{nat_cmp_total, get, get-from_entries, option_map_or}
use Rattle.book_core.specs.Words.{choice_effects, ruled_in, LeavesOpen}
use Rattle.book_core.specs.declared.effects.ChoiceEffects.{ChoiceEffects}
use Rattle.book_core.specs.declared.effects.Effects.{Effects}
use Rattle.book_model.specs.Journal.{ChoiceOf}
use Rattle.book_model.specs.Words.{Book, IsAnswered, Naming, Note, RecordChosen, last_close}
use Rattle.book_model.specs.Words.{open_by, choose_answer, choose_outcome, chosen_answer, if_done, most_choices}
use Rattle.book_model.specs.Words.{RulingGiven, record_named}
use Rattle.book_model.specs.declared.fault.LedgerFault.TheVariants.{NoSuchRecord}
use Rattle.table_model.specs.Changed.{chosen_at, rows_changed}
use Rattle.table_model.specs.Words.{put_choice, RecordRow, Tables, choice_entries, tables_of}
use Rattle.table_model.specs.Words.{apply, member_at, IsReadable}
use Rattle.table_model.proofs.ChoiceChanges.{choice_free}
use Rattle.table_model.specs.RulingsRead.{chosen_by, choose_row, was_withheld_in}
use Rattle.table_model.proofs.ChoiceLemmas.{choices_follow}
use Rattle.table_model.proofs.ChoiceReading.{choices_count}
use Rattle.tree_tables.specs.Answers.{CountsSharing}
use Rattle.table_ledger.proofs.Words.{View, StoreError, Ruled, Done, FindsRecord, State}
use Rattle.table_ledger.proofs.Words.{Looks, stored_entry, StoredRecord, Saw, IsAt, LeavesOne}
use Rattle.table_ledger.proofs.Words.{MakesOf, StagesBy, opens}
use Rattle.table_ledger.specs.Entries.{DoesRuling, NumbersEntries, enter_row}
use Rattle.table_ledger.specs.Premises.{IsNext}
use Rattle.table_ledger.specs.ChoiceReads.{FindsChoiceEffects}
use Rattle.table_ledger.specs.declared.summary.Summary.{Summary}
use Rattle.table_ledger.proofs.AcceptTries.{none_found, saw_as}
use Rattle.book_core.proofs.OpenAnswers.{opens_if}
use Rattle.table_ledger.proofs.LineReadings.{found_row}
use Rattle.table_ledger.proofs.EnteredRulings.{entries_numbered, ruling_entered}
use Rattle.table_ledger.proofs.Remembered.{Says}
use Rattle.table_ledger.proofs.StageLemmas.{IsEvent, stage_steps}
use Rattle.table_ledger.proofs.TryLemmas.{saw_found, saw_so, saw_then}
use Rattle.book_core.proofs.RulingLemmas.{meant_by}
use Rattle.book_core.proofs.NamedLemmas.{its_name}

-- a record was found, and how many of its identity there are
pub saw_shared : {first middle last : State} {found : Option StoredRecord} {many : ℕ}
    {identity : List ℕ} (name : List ℕ) (stored : StoredRecord)
    → found ≡ Some stored → identity ≡ stored.identity.items
    → Looks (Ok found) first middle (FindsRecord name)
    → Looks (Ok many) middle last (CountsSharing identity)
    → Saw first last (λ tables. FindsRecord name tables (Some stored)
    × CountsSharing stored.identity.items tables many)
saw_shared {many = many} name stored is same looks shared =
    saw_so (saw_then (saw_as name is looks) (saw_found shared)) (λ tables known. (
      known.0,
      subst (λ identity. CountsSharing identity tables many) same known.1,
    ))

-- and whether its work was ever withheld
pub saw_asked : {first second third last : State} {found : Option StoredRecord} {many : ℕ}
    {ever : Bool} {identity its : List ℕ} (name : List ℕ) (stored : StoredRecord)
    → found ≡ Some stored → identity ≡ stored.identity.items → its ≡ stored.identity.items
    → Looks (Ok found) first second (FindsRecord name)
    → Looks (Ok many) second third (CountsSharing identity)
    → Looks (Ok ever) third last (λ tables ever. ever ≡ was_withheld_in tables its)
    → Saw first last (λ tables. (FindsRecord name tables (Some stored)
    × CountsSharing stored.identity.items tables many)
    × (ever ≡ was_withheld_in tables stored.identity.items))
saw_asked {ever = ever} name stored is same its_same looks shared withheld =
    saw_so (saw_then (saw_shared name stored is same looks shared) (saw_found withheld))
    (λ tables known. (known.0, known.1 ∙ ap (was_withheld_in tables) its_same))

-- the record that is meant by a choice that is Done
chosen_one : (naming : Naming) (book : Book) (name : List ℕ)
    → choose_answer naming book name ≡ Ok Done
    → (bytes : List ℕ) × (record_named naming book.held name ≡ Some bytes)
chosen_one naming book name done = by_found (record_named naming book.held name) refl
  where
    by_found : (found : Option (List ℕ)) → record_named naming book.held name ≡ found
        → (bytes : List ℕ) × (record_named naming book.held name ≡ Some bytes)
    by_found None is =
        let none : Err NoSuchRecord ≡ Ok Done = sym (ap (chosen_answer book) is) ∙ done in cc
    by_found (Some bytes) is = (bytes, is)

-- no choice has the next number
pub next_is_new : (naming : Naming) (book : Book) (number : ℕ)
    → number ≡ length book.rulings.choices + 1 → IsNext number (tables_of naming book)
next_is_new naming book number is =
    get-from_entries nat_cmp_total (choice_entries naming 1 book.rulings.choices) number
    ∙ choice_free naming 1 number book.rulings.choices (omega (arith, is))

-- effects leave the choices alone
pub same_choices : (period : ℕ) (withdrawn : Option Effects) (tables : Tables)
    → (option_map_or (λ gone. apply period gone tables) withdrawn tables).choices ≡ tables.choices
same_choices period None tables = refl
same_choices period (Some gone) tables = refl

-- ---- the answer

-- by the tests of a row, it leaves the books open
pub choice_plain : (lone charged full : Bool) → LeavesOpen (chosen_by lone charged full)
choice_plain lone charged full =
    opens_if lone (opens refl refl) (opens_if charged (opens refl refl)
    (opens_if full (opens refl refl) (opens refl refl)))

module _ (naming : Naming) (was : Summary) (name : List ℕ) (view : View) (book : Book)
    (ready : IsAt naming was view book) where
  abbrev tables : Tables
  tables = tables_of naming book

  -- the book can be read back
  readable : IsReadable naming book
  readable = ready.kept.readable

  -- the answer, by the row of the name
  told : (found : Option RecordRow) → get tables.records name ≡ found
      → choose_answer naming book name ≡ choose_row tables found
  told found is = choices_follow.answer naming book name readable ∙ ap (choose_row tables) is

  -- there is no record of the name
  pub choose_none : FindsRecord name tables None
      → choose_answer naming book name ≡ Err NoSuchRecord
  choose_none known = told None (none_found name (get tables.records name) known)

  -- its row was found, this many of its identity, and whether its work was ever withheld
  module _ (stored : StoredRecord) (known : FindsRecord name tables (Some stored)) {many : ℕ}
      (shared : CountsSharing stored.identity.items tables many) {ever : Bool}
      (withheld : ever ≡ was_withheld_in tables stored.identity.items) where
    abbrev row : RecordRow
    row = (stored_entry stored).1

    -- the tables have the row
    found : (get tables.records name ≡ Some row) × (name ≡ stored.name)
    found = found_row name stored (get tables.records name) known

    -- the answer by its tests
    pub choose_told : choose_answer naming book name
        ≡ chosen_by (many == 1 && not ever) stored.charged (nat_le most_choices was.choices)
    choose_told =
        let lone = choices_follow.lone tables.records row ∙ ap (λ n. n == 1) (sym shared) in
        let made = choices_count naming book ∙ sym ready.remembers.choices in
        told (Some row) found.0
        ∙ (λ i. chosen_by (lone i && not (sym withheld i)) stored.charged
        (nat_le most_choices (made i)))

    -- A choice that is answered Done is an event.
    pub choose_is_event :
        chosen_by (many == 1 && not ever) stored.charged (nat_le most_choices was.choices) ≡ Ok Done
        → (period : ℕ) (through : Option ℤ) (effects : ChoiceEffects)
        → period ≡ open_by (ruled_in was.rulings) → through ≡ last_close (ruled_in was.rulings)
        → FindsChoiceEffects through (stored_entry stored) tables effects → (noted : Option Note)
        → IsEvent (λ (ruled : Ruled). ruled) naming (choose_outcome naming noted name) Done
        (Says (ruled_in was.rulings) (was.choices + 1) was.replaced was.credits was.held was.total)
        (λ tables. IsNext (was.choices + 1) tables
        × NumbersEntries (put_choice (was.choices + 1) period name effects tables))
        (λ tables. enter_row noted (ChoiceOf (was.choices + 1))
        (put_choice (was.choices + 1) period name effects tables)) book
    choose_is_event tests period through effects period_is through_is effects_are noted =
        let done = choose_told ∙ tests in
        let one = chosen_one naming book name done in
        let named = its_name naming book.held name one.0 one.1 in
        let current = choices_follow.current naming book row.identity readable in
        let count = ap (λ n. n + 1) ready.remembers.choices in
        let ruling = RecordChosen one.0 in
        let answered : IsAnswered naming (RulingGiven noted ruling) book = (
          ap (choose_answer naming book) named ∙ done,
          ap (record_named naming book.held) named ∙ one.1,
        ) in
        let made : put_choice (was.choices + 1) period name effects tables
        ≡ rows_changed naming book.rulings (RulingGiven noted ruling) tables =
        (λ i. put_choice (count i) ((period_is ∙ ap open_by ready.remembers.rulings) i) name
        ((effects_are
        ∙ (λ i. choice_effects ((through_is ∙ ap last_close ready.remembers.rulings) i)
        (current i) (member_at (sym found.1 i, row)))) i) tables)
        ∙ (λ i. option_map_or (λ row. chosen_at book.rulings (sym named i) row tables)
        ((sym found.0 ∙ ap (get tables.records) (sym named)) i) tables) in
        record {
          event = RulingGiven noted ruling;
          is = ap (if_done (meant_by noted (record_named naming book.held name))) done
              ∙ ap (meant_by noted) one.1;
          answer = done;
          answered = answered;
          when = (
            next_is_new naming book (was.choices + 1) count,
            entries_numbered naming book noted ruling readable answered made,
          );
          submitted = tt;
          changes = ruling_entered naming book noted ruling readable answered made
              (ap ChoiceOf count);
          remembers = λ follows summary says. record {
            rulings = says.rulings ∙ ready.remembers.rulings;
            choices = says.choices ∙ count ∙ sym (length-append book.rulings.choices _);
            replaced = says.replaced ∙ ready.remembers.replaced;
            credits = says.credits ∙ ready.remembers.credits;
            held = says.held ∙ ready.remembers.held;
            total = says.total ∙ ready.remembers.total;
          };
        }

-- What a choice writes is staged, after the looks that its tests and its effects rest on.
pub choose_staged : {first second third fourth fifth last : State} {found : Option StoredRecord}
    {identity its : List ℕ} {effects : ChoiceEffects} {T : Type 0} {written : Result T StoreError}
    {many : ℕ} {ever : Bool} (naming : Naming) (noted : Option Note) (was : Summary) (name : List ℕ)
    (stored : StoredRecord) (period : ℕ) (through : Option ℤ)
    → found ≡ Some stored → identity ≡ stored.identity.items → its ≡ stored.identity.items
    → Looks (Ok found) first second (FindsRecord name)
    → Looks (Ok many) second third (CountsSharing identity)
    → Looks (Ok ever) third fourth (λ tables ever. ever ≡ was_withheld_in tables its)
    → Looks (Ok effects) fourth fifth (FindsChoiceEffects through (stored_entry stored))
    → DoesRuling written fifth last (IsNext (was.choices + 1))
    (put_choice (was.choices + 1) period name effects) noted (ChoiceOf (was.choices + 1))
    → chosen_by (many == 1 && not ever) stored.charged (nat_le most_choices was.choices) ≡ Ok Done
    → period ≡ open_by (ruled_in was.rulings) → through ≡ last_close (ruled_in was.rulings)
    → StagesBy (λ tables. tables) (λ (done : T). Ok Done)
    (MakesOf (λ (ruled : Ruled). ruled) (choose_outcome naming noted name))
    (LeavesOne (choose_outcome naming noted name)) naming was
    (Says (ruled_in was.rulings) (was.choices + 1) was.replaced was.credits was.held was.total)
    first last written
choose_staged {effects = effects} {written = written} {ever = ever} naming noted was name stored
    period through is same its_same looks shared withheld seen writes tests period_is through_is =
    stage_steps written
    (saw_then (saw_asked name stored is same its_same looks shared withheld) (saw_found seen))
    writes
    (λ book at known. choose_is_event naming was name _ book at stored known.0.0.0 known.0.0.1
    known.0.1 tests period through effects period_is through_is known.1 noted)
