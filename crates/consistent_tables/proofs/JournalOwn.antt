-- The journal of a book that can be read back: each row of its table says what came by its number,
-- and what came by a number is held.
use Rattle.std.proofs.Common.{◌≡◌, ◌∙◌, ◌+◌, ℕ, Bool, List, [], ◌∷◌, ◌++◌, Option, None, Some}
use Rattle.std.proofs.Common.{ap, append_assoc, arith, cond, inl, inr, length, length-append, refl}
use Rattle.std.proofs.Common.{subst, sym, true}
use Rattle.std.specs.FinMap.{find, get, get-empty, get-from_entries, get-insert}
use Rattle.std.specs.FinMap.{nat_cmp-IsAntisymmetric}
use Rattle.std.specs.Cmp.{nat_cmp_total}
use Rattle.std.specs.Ordering.{eq_by_cmp, nat_cmp}
use Rattle.std.proofs.lemmas.Bool.{cases_Bool}
use Rattle.std.proofs.lemmas.Cmp.{nat_list_cmp_total}
use Rattle.std.proofs.lemmas.Map.Views.{tells_apart}
use Rattle.std.proofs.lemmas.Option.{none-some, same_Some}
use Rattle.book_model.specs.Words.{Act, Book, Entry, Imported, Importing, IsSound, Naming, Records}
use Rattle.book_model.specs.Words.{Ruled, by_bytes, charged_of, has, kept_by, members, name_of}
use Rattle.book_model.proofs.MapLemmas.{else_find, find-both}
use Rattle.book_model.proofs.SoundLemmas.{none_in}
use Rattle.table_model.specs.BookIn.{came_with}
use Rattle.table_model.specs.JournalRows.{act_row, came_entries, journal_row, journal_rows}
use Rattle.table_model.specs.Journaled.{AreEntries, IsJournaled}
use Rattle.table_model.specs.PeriodLists.{HasLines}
use Rattle.table_model.specs.Tables.{JournalRow, Tables}
use Rattle.table_model.specs.TablesOf.{record_row, tables_of}
use Rattle.table_model.specs.UnderNames.{under_names}
use Rattle.table_model.proofs.JournalChanges.{one-entry, rows-length, rows_table}
use Rattle.table_model.proofs.JournalReading.{came_is, kept_among}
use Rattle.table_model.proofs.LineReading.{held_row}
use Rattle.table_model.proofs.UnderNumbers.{values-numbers}
use Rattle.consistent_tables.specs.Consistent.{IsKeptBy, IsOwnCame}
use Rattle.consistent_tables.proofs.JournalTable.{find-named, has_named, named_one}

-- an entry of a journal stands under this number
record StandsAt (journal : List Entry) (number : ℕ) (row : JournalRow) : Type 0 where
  newer : List Entry
  entry : Entry
  older : List Entry
  is : journal ≡ newer ++ entry ∷ older
  its : number ≡ length older + 1
  own : journal_row entry ≡ row

-- the row of a number is that of the entry that stands there
stands_at : (journal : List Entry) (number : ℕ) (row : JournalRow) (newer list : List Entry)
    → journal ≡ newer ++ list → get (rows_table list) number ≡ Some row
    → StandsAt journal number row
stands_at journal number row newer [] is found =
    absurd (none-some row (sym (get-empty nat_cmp number) ∙ found))
stands_at journal number row newer (entry ∷ older) is found =
    let own : ℕ = length older + 1 in
    let value : Bool → Option JournalRow =
    λ b. cond b (Some (journal_row entry)) (get (rows_table older) number) in
    let put = ap (λ rows. get rows number) (one-entry entry older own refl)
    ∙ get-insert nat_cmp_total (rows_table older) own (journal_row entry) number in
    elim (cases_Bool (eq_by_cmp nat_cmp number own)) [
      | inl tied ↦ record {
        newer = newer;
        entry = entry;
        older = older;
        is = is;
        its = tells_apart nat_cmp-IsAntisymmetric number own tied;
        own = same_Some (journal_row entry) row (sym (put ∙ ap value tied) ∙ found);
      }
      | inr apart ↦
          stands_at journal number row (newer ++ entry ∷ []) older
          (is ∙ sym (append_assoc newer (entry ∷ []) older)) (sym (put ∙ ap value apart) ∙ found)
    ]

-- an entry of a journal kept a record of this name, and stands under this number
record KeptAt (naming : Naming) (journal : List Entry) (name : List ℕ) (number : ℕ) : Type 0 where
  newer : List Entry
  entry : Entry
  older : List Entry
  is : journal ≡ newer ++ entry ∷ older
  its : number ≡ length older + 1
  bytes : List ℕ
  kept : has (kept_by entry.act) bytes ≡ true
  named : name ≡ name_of naming bytes

-- the number that is found with a name is that of the entry that kept the record
kept_at : (naming : Naming) (journal : List Entry) (name : List ℕ) (number : ℕ)
    (newer list : List Entry) → journal ≡ newer ++ list
    → find by_bytes name (came_entries naming list) ≡ Some number
    → KeptAt naming journal name number
kept_at naming journal name number newer [] is found = absurd (none-some number found)
kept_at naming journal name number newer (entry ∷ older) is found =
    let own : ℕ = length older + 1 in
    let kept : Records = kept_by entry.act in
    let rest : Option ℕ = find by_bytes name (came_entries naming older) in
    let value : Bool → Option ℕ = λ b. else_find (cond b (Some own) None) rest in
    let both = find-both by_bytes name (under_names naming own kept) (came_entries naming older)
    ∙ ap (λ first. else_find first rest) (find-named naming name own (members kept)) in
    elim (cases_Bool (has_named naming name (members kept))) [
      | inl there ↦
          let one = named_one naming name kept there in
          record {
            newer = newer;
            entry = entry;
            older = older;
            is = is;
            its = sym (same_Some own number (sym (both ∙ ap value there) ∙ found));
            bytes = one.0;
            kept = one.1;
            named = one.2;
          }
      | inr other ↦
          kept_at naming journal name number (newer ++ entry ∷ []) older
          (is ∙ sym (append_assoc newer (entry ∷ []) older)) (sym (both ∙ ap value other) ∙ found)
    ]

-- the row of an entry says what the entry kept
says_kept : (act : Act) (records : Records) → records ≡ kept_by act → IsKeptBy records (act_row act)
says_kept (Ruled place) records is = λ bytes. ap (λ kept. has kept bytes) is ∙ none_in bytes
says_kept (Importing reading kept) records is = ap (λ kept. length (members kept)) (sym is)
says_kept (Imported reading ending kept) records is = ap (λ kept. length (members kept)) (sym is)

module _ (naming : Naming) (book : Book) (sound : IsSound naming book) (lines : HasLines book)
    (are : IsJournaled book) where
  abbrev tables : Tables
  tables = tables_of naming book

  -- each row says what came by its number,
  pub own_entries : (number : ℕ) (row : JournalRow) → get tables.journal number ≡ Some row
      → IsKeptBy (came_with tables.records tables.came number) row.act
  own_entries number row found =
      let at = stands_at book.journal number row [] book.journal refl found in
      subst (λ (row : JournalRow). IsKeptBy (came_with tables.records tables.came number) row.act)
      at.own
      (says_kept at.entry.act (came_with tables.records tables.came number)
      (came_is naming book sound lines are at.newer at.entry at.older number at.is at.its))

  -- and what came by a number is held, and its entry is there
  pub own_came : (name : List ℕ) (number : ℕ) → get tables.came name ≡ Some number
      → IsOwnCame tables name number
  own_came name number found =
      let at = kept_at naming book.journal name number [] book.journal refl
      (sym (get-from_entries nat_list_cmp_total (came_entries naming book.journal) name) ∙ found) in
      let among = kept_among naming book sound lines are at.newer at.entry at.older
      (subst (AreEntries book.held) at.is are) in
      let held = held_row naming book sound at.bytes (among at.bytes at.kept) in
      let many = ap length (values-numbers (journal_rows book.journal)) ∙ rows-length book.journal in
      let parts = ap length at.is ∙ length-append at.newer (at.entry ∷ at.older) in
      let its = at.its in
      record {
        row = record_row book.rulings (charged_of book) book.posted at.bytes held.0;
        held = ap (get tables.records) at.named ∙ held.2;
        numbered = omega (arith, its);
        there = omega (arith, its, many, parts);
      }
