-- Books to which nothing was submitted are new ones.
use Rattle.std.proofs.Common.{◌≡◌, ◌∙◌, ℕ, ℤ, suc, true, List, [], ◌∷◌, ◌++◌, ◌||◌, Option, Some}
use Rattle.std.proofs.Common.{Result, Ok, Err, Bool, false, length, ap, arith, map, refl, subst, sym}
use Rattle.std.proofs.Common.{◌+◌, None, true≢false}
use Rattle.std.proofs.Common.{unwrap_or, length-append, ◌&&◌, ◌==◌, IfOk, int_cmp, nat_cmp, eq-eqb}
use Rattle.std.proofs.Common.{eqb-true}
use Rattle.std.proofs.lemmas.List.Elements.{All-pop}
use Rattle.book_model.proofs.Std.{entries, from_entries, last_or, len-empty, len-entries, length-map}
use Rattle.book_model.proofs.Std.{list_any}
use Rattle.book_model.proofs.Lemmas.{no_length, first_of, has_with, is, is_itself, second_of}
use Rattle.book_model.specs.Words.{AcceptedTerms, Book, Choice, Event, Naming, Records}
use Rattle.book_model.specs.Words.{PeriodClosed, RecordChosen, RecordKept, RulingGiven}
use Rattle.book_model.specs.Words.{Credit, CreditGiven, IsAnswered, TariffReplaced, WorkWithheld}
use Rattle.book_model.specs.Words.{Act, Entry, ImportBegun, ImportEnded, ImportRead, IsMadeByCalls}
use Rattle.book_model.specs.Words.{is_effective, or_new}
use Rattle.book_model.specs.Journal.{change_newest, end_with, read_on}
use Rattle.book_model.proofs.TestLemmas.{replace_passes}
use Rattle.table_model.specs.TablesOf.{under_numbers}
use Rattle.book_model.specs.Words.{SecondRuleAdopted, TariffAccepted, book_after, has, members}
use Rattle.book_model.specs.Words.{new_book, open_by, IsChoiceOf}
use Rattle.table_model.proofs.RulingsReading.{tariffs_kept}
use Rattle.table_model.specs.JournalRows.{journal_rows}
use Rattle.table_model.specs.Tables.{JournalRow}
use Rattle.table_model.proofs.JournalChanges.{rows-length}
use Rattle.table_model.proofs.UnderNumbers.{entries-numbers, last_number as last_of}
use Rattle.table_model.specs.Words.{IsReadable, Tables, new_tables, close_entries, tables_of}
use Rattle.table_model.specs.Words.{tariff_entries}
use Rattle.book_restarts.specs.FileBooks.{HoldsHistory}
use Rattle.tree_tables.specs.Answers.{last_number}
use Rattle.book_sessions.proofs.Words.{∥∥₁_map, Image, HoldsBooks, trees_held, IsStoredIn}
use Rattle.book_sessions.proofs.Words.{are_unused}
use Rattle.book_sessions.specs.Unused.{unused_by}
use Rattle.book_sessions.proofs.NewParts.{new_follow}
use Rattle.std.specs.FinMap as fin

-- there are as many rows as tariffs
tariffs_many : (tariffs : List AcceptedTerms) → length (tariff_entries tariffs) ≡ length tariffs
tariffs_many [] = refl
tariffs_many (tariff ∷ tariffs) = ap suc (tariffs_many tariffs)

-- and as many as closes
closes_many : (number : ℕ) (days : List ℤ) → length (close_entries number days) ≡ length days
closes_many number [] = refl
closes_many number (day ∷ days) = ap suc (closes_many (suc number) days)

-- and as many as credits
credits_many : (number : ℕ) (credits : List Credit)
    → length (under_numbers number credits) ≡ length credits
credits_many number [] = refl
credits_many number (credit ∷ credits) = ap suc (credits_many (suc number) credits)

-- and the newest entry has the number of all
last_row : (rows : List JournalRow)
    → last_number (from_entries {R = nat_cmp} (under_numbers 1 rows)) ≡ length rows
last_row rows =
    let none_before : 0 + length rows ≡ length rows = omega arith in
    ap (λ es. unwrap_or (last_or None (map (λ (e : ℕ × JournalRow). e.0) es)) 0)
    (entries-numbers rows)
    ∙ last_of 0 None rows refl ∙ none_before

last_entered : (naming : Naming) (book : Book)
    → last_number (tables_of naming book).journal ≡ length book.journal
last_entered naming book = last_row (journal_rows book.journal) ∙ rows-length book.journal

-- what six tests say
record AreNone (tariffs closes credits entered held adopted : ℕ) : Type 0 where
  tariffs_none : tariffs ≡ 0
  closes_none : closes ≡ 0
  credits_none : credits ≡ 0
  entries_none : entered ≡ 0
  held_none : held ≡ 0
  never : adopted ≡ 0

are_none : (tariffs closes credits entered held adopted : ℕ)
    → unused_by tariffs closes credits entered held adopted ≡ true
    → AreNone tariffs closes credits entered held adopted
are_none tariffs closes credits entered held adopted passed =
    let unruled = (tariffs == 0) && (closes == 0) && (credits == 0) in
    let unentered = unruled && (entered == 0) in
    let five = first_of (unentered && (held == 0)) (adopted == 0) passed in
    let four = first_of unentered (held == 0) five in
    let three = first_of unruled (entered == 0) four in
    let two = first_of ((tariffs == 0) && (closes == 0)) (credits == 0) three in
    record {
      tariffs_none = eqb-true tariffs 0 (first_of (tariffs == 0) (closes == 0) two);
      closes_none = eqb-true closes 0 (second_of (tariffs == 0) (closes == 0) two);
      credits_none =
          eqb-true credits 0 (second_of ((tariffs == 0) && (closes == 0)) (credits == 0) three);
      entries_none = eqb-true entered 0 (second_of unruled (entered == 0) four);
      held_none = eqb-true held 0 (second_of unentered (held == 0) five);
      never = eqb-true adopted 0 (second_of (unentered && (held == 0)) (adopted == 0) passed);
    }

-- where no record is held, this one is not
not_held : (held : Records) (bytes : List ℕ) → length (members held) ≡ 0 → has held bytes ≡ true → ⊥
not_held held bytes none there =
    true≢false (sym there ∙ fin.contains_key-keys held bytes
    ∙ ap (list_any (is bytes)) (no_length (members held) none))

-- a list with one more is not empty
one_more : {A : Type 0} (xs : List A) (x : A) → length (xs ++ x ∷ []) ≡ 0 → ⊥
one_more xs x none = omega (arith, length-append xs (x ∷ []), none)

-- a journal without entries has no newest one to change
none_changed : (change : Act → Act) (journal : List Entry)
    → length (change_newest change journal) ≡ 0 → change_newest change journal ≡ journal
none_changed change [] none = refl
none_changed change (entry ∷ older) none = absurd (omega (arith, none))

-- what the tables of an unused book say of it
module _ (naming : Naming) (book : Book) (whole : IsReadable naming book)
    (unused : are_unused (tables_of naming book) ≡ true) where
  none : AreNone (length (entries (tables_of naming book).tariffs))
      (length (entries (tables_of naming book).closes))
      (length (entries (tables_of naming book).credits))
      (last_number (tables_of naming book).journal) (tables_of naming book).book.held
      (tables_of naming book).book.adopted
  none = are_none _ _ _ _ _ _ unused

  no_tariffs : length book.rulings.tariffs ≡ 0
  no_tariffs =
      sym (tariffs_many book.rulings.tariffs)
      ∙ sym (ap length (tariffs_kept book.rulings.tariffs whole.rising)) ∙ none.tariffs_none

  no_closes : length book.rulings.closes ≡ 0
  no_closes =
      sym (closes_many 1 book.rulings.closes) ∙ sym (ap length (entries-numbers book.rulings.closes))
      ∙ none.closes_none

  no_credits : length book.rulings.credits ≡ 0
  no_credits =
      sym (credits_many 1 book.rulings.credits)
      ∙ sym (ap length (entries-numbers book.rulings.credits)) ∙ none.credits_none

  no_entries : length book.journal ≡ 0
  no_entries = sym (last_entered naming book) ∙ none.entries_none

-- of no tariff none begins on a day
none_found : (P : AcceptedTerms → Bool) (tariffs : List AcceptedTerms) → length tariffs ≡ 0
    → list_any P tariffs ≡ true → ⊥
none_found P tariffs none found =
    true≢false (sym found ∙ ap (list_any P) (no_length tariffs none))

-- An event that leaves such a book made nothing of the one before it: it is what an import said that
-- never began.
made_nothing : (naming : Naming) (event : Event) (older : List Event)
    → IsAnswered naming event (book_after older) → IsReadable naming (book_after (event ∷ older))
    → are_unused (tables_of naming (book_after (event ∷ older))) ≡ true
    → book_after (event ∷ older) ≡ book_after older
made_nothing naming (RecordKept bytes) older answered whole unused =
    let before = book_after older in
    absurd (not_held (book_after (RecordKept bytes ∷ older)).held bytes
    (none naming (book_after (RecordKept bytes ∷ older)) whole unused).held_none
    (has_with before.held bytes bytes ∙ ap (λ t. t || has before.held bytes) (is_itself bytes)))
made_nothing naming (PeriodClosed said day) older answered whole unused =
    absurd (one_more (book_after older).rulings.closes day
    (no_closes naming (book_after (PeriodClosed said day ∷ older)) whole unused))
made_nothing naming (RulingGiven said (TariffAccepted text terms)) older answered whole unused =
    absurd (one_more (book_after older).rulings.tariffs (record { text = text; terms = terms })
    (no_tariffs naming (book_after (RulingGiven said (TariffAccepted text terms) ∷ older)) whole
    unused))
made_nothing naming (RulingGiven said (RecordChosen bytes)) older answered whole unused =
    let book = book_after (RulingGiven said (RecordChosen bytes) ∷ older) in
    let before = (book_after older).rulings in
    let choice : Choice =
    record { chosen = bytes; counts = true; period = open_by before } in
    let chosen = (All-pop (IsChoiceOf book.held) book.rulings.choices before.choices (Some choice)
    refl whole.sound.chosen).1 in
    absurd (not_held book.held bytes (none naming book whole unused).held_none chosen)
made_nothing naming (RulingGiven said SecondRuleAdopted) older answered whole unused =
    let book = book_after (RulingGiven said SecondRuleAdopted ∷ older) in
    let before = (book_after older).rulings in
    let begun = whole.adopted
    (unwrap_or before.adopted (open_by before)) refl in
    let numbered = begun.numbered in
    let never = (none naming book whole unused).never in
    absurd (omega (arith, numbered, never))
made_nothing naming (RulingGiven said (TariffReplaced text terms)) older answered whole unused =
    let before = book_after older in
    absurd (none_found (is_effective terms.effective) before.rulings.tariffs
    (sym (length-map before.rulings.tariffs (or_new (record { text = Some text; terms = terms })))
    ∙ no_tariffs naming (book_after (RulingGiven said (TariffReplaced text terms) ∷ older)) whole
    unused)
    (replace_passes before text terms answered).found)
made_nothing naming (RulingGiven said (WorkWithheld bytes)) older answered whole unused =
    let book = book_after (RulingGiven said (WorkWithheld bytes) ∷ older) in
    let before = (book_after older).rulings in
    let choice : Choice =
    record { chosen = bytes; counts = false; period = open_by before } in
    let chosen = (All-pop (IsChoiceOf book.held) book.rulings.choices before.choices (Some choice)
    refl whole.sound.chosen).1 in
    absurd (not_held book.held bytes (none naming book whole unused).held_none chosen)
made_nothing naming (RulingGiven said (CreditGiven centre amount reason)) older answered whole unused =
    let before = (book_after older).rulings in
    absurd (one_more before.credits
    (record { centre = centre; amount = amount; reason = reason; period = open_by before })
    (no_credits naming (book_after (RulingGiven said (CreditGiven centre amount reason) ∷ older))
    whole unused))
made_nothing naming (ImportBegun note) older answered whole unused =
    let entered = no_entries naming (book_after (ImportBegun note ∷ older)) whole unused in
    absurd (omega (arith, entered))
made_nothing naming (ImportRead reading) older answered whole unused =
    let before : Book = book_after older in
    let entered = no_entries naming (book_after (ImportRead reading ∷ older)) whole unused in
    λ i. record before { journal = none_changed (read_on reading) before.journal entered i }
made_nothing naming (ImportEnded ending) older answered whole unused =
    let before : Book = book_after older in
    let entered = no_entries naming (book_after (ImportEnded ending ∷ older)) whole unused in
    λ i. record before { journal = none_changed (end_with ending) before.journal entered i }

-- so a history that leaves such a book leaves new books
unused_new : (naming : Naming) (history : List Event) → IsMadeByCalls naming history
    → IsReadable naming (book_after history) → are_unused (tables_of naming (book_after history)) ≡ true
    → book_after history ≡ new_book
unused_new naming [] answered whole unused = refl
unused_new naming (event ∷ older) answered whole unused =
    let same = made_nothing naming event older answered.0 whole unused in
    same
    ∙ unused_new naming older answered.1 (subst (IsReadable naming) same whole)
    (subst (λ (book : Book). are_unused (tables_of naming book) ≡ true) same unused)

-- what files held that were continued are new books, where all went well
pub none_resumed : {A F : Type 0} (names : Naming) (history : List Event) (first : Image)
    (result : Result A F) → HoldsHistory names history first
    → ((held : HoldsBooks first) → IsStoredIn names (book_after history) (trees_held held)
    → IfOk result (λ made. are_unused (tables_of names (book_after history)) ≡ true))
    → IfOk result (λ made. ∥ book_after history ≡ new_book ∥₁)
none_resumed names history first (Err fault) held unused = tt
none_resumed names history first (Ok made) held unused =
    ∥∥₁_map held.held λ kept.
    unused_new names history held.answered kept.1.readable (unused kept.0 kept.1)

-- and to new books nothing was submitted
none_by : (tariffs closes credits entered : ℕ) → tariffs ≡ 0 → closes ≡ 0 → credits ≡ 0
    → entered ≡ 0 → unused_by tariffs closes credits entered 0 0 ≡ true
none_by tariffs closes credits entered no_tariff no_close no_credit no_entry =
    λ i. eq-eqb tariffs 0 no_tariff i && eq-eqb closes 0 no_close i && eq-eqb credits 0 no_credit i
    && eq-eqb entered 0 no_entry i && eq-eqb 0 0 refl i && eq-eqb 0 0 refl i

pub new_unused : (naming : Naming) → are_unused (tables_of naming new_book) ≡ true
new_unused naming =
    let follows = new_follow naming in
    subst (λ (tables : Tables). are_unused tables ≡ true) follows
    (none_by (length (entries new_tables.tariffs)) (length (entries new_tables.closes))
    (length (entries new_tables.credits)) (last_number new_tables.journal)
    (sym (len-entries new_tables.tariffs) ∙ len-empty int_cmp (Option (List ℕ)))
    (sym (len-entries new_tables.closes) ∙ len-empty nat_cmp ℤ)
    (sym (len-entries new_tables.credits) ∙ len-empty nat_cmp Credit)
    (ap (λ (tables : Tables). last_number tables.journal) follows ∙ last_entered naming new_book))
