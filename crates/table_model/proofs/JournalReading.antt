-- The journal is read back from its rows, and from the numbers by which the records came.
use Rattle.std.proofs.Common.{◌≡◌, ℕ, suc, ◌+◌, ◌<◌, ◌==◌, Bool, true, false, List, [], ◌∷◌}
use Rattle.std.proofs.Common.{◌++◌, length, filter, filter_map, refl, sym, ap, ◌∙◌, subst, arith}
use Rattle.std.proofs.Common.{Option, None, true≢false, cond, ne_eqb, eq-eqb, append_assoc}
use Rattle.std.proofs.Common.{length-append, append-nil}
use Rattle.std.specs.FinMap.{find}
use Rattle.book_model.proofs.Std.{entries, exact_bytes, filter-append, from_entries}
use Rattle.book_model.proofs.Std.{nat_list_cmp_total, tells_apart}
use Rattle.book_model.specs.Words.{Act, AreAmong, Book, Entry, Imported, Importing, IsSound, Naming}
use Rattle.book_model.specs.Words.{Records, Ruled, by_bytes, has, kept_by, members, name_of, set_of}
use Rattle.book_model.specs.Words.{times_kept}
use Rattle.book_model.proofs.FilterLemmas.{filter-from_entries}
use Rattle.book_model.proofs.JournalLemmas.{times-cons}
use Rattle.book_model.proofs.Lemmas.{Apart, find-both, is, members_rise}
use Rattle.book_model.proofs.MapLemmas.{else_find}
use Rattle.table_model.specs.BookIn.{act_read, came_with, entries_read, journal_in}
use Rattle.table_model.specs.JournalRows.{act_row, came_entries, journal_row, journal_rows}
use Rattle.table_model.specs.Journaled.{AreEntries, IsJournaled}
use Rattle.table_model.specs.Tables.{JournalRow}
use Rattle.table_model.specs.UnderNames.{under_names}
use Rattle.table_model.specs.Words.{HasLines, tables_of}
use Rattle.table_model.proofs.JournalChanges.{rows-length}
use Rattle.table_model.proofs.LineChanges.{no_line}
use Rattle.table_model.proofs.LineNames.{names_apart}
use Rattle.table_model.proofs.LineSides.{given, side_back, side_dropped, side_kept}
use Rattle.table_model.proofs.OpenNames.{unnamed_in}
use Rattle.table_model.proofs.SetReading.{set-permuted, set_of-members}
use Rattle.table_model.proofs.UnderNumbers.{values-numbers}
use Rattle.std.specs.FinMap as fin

-- the newest kept what is held, and the others are such entries
module _ (held : Records) (entry : Entry) (older : List Entry) (are : AreEntries held (entry ∷ older))
  where
    pub first-among : AreAmong (kept_by entry.act) held
    first-among bytes there =
        elim (has held bytes) as (λ b. has held bytes ≡ b → b ≡ true) [
          | true ↦ λ in_it. refl
          | false ↦ λ out.
              let none = are.held bytes out in
              let count = times-cons entry older bytes in
              let one = ap (λ b. cond b 1 0 + times_kept older bytes) there in
              absurd (omega arith)
        ] refl

    pub rest-are : AreEntries held older
    rest-are = record {
      held = λ bytes out.
          let none = are.held bytes out in
          let count = times-cons entry older bytes in
          omega arith;
      once = λ bytes.
          let few = are.once bytes in
          let count = times-cons entry older bytes in
          omega arith;
    }

    -- none of the others kept a record of the newest
    rest-none : (bytes : List ℕ) → has (kept_by entry.act) bytes ≡ true → times_kept older bytes ≡ 0
    rest-none bytes there =
        let few = are.once bytes in
        let count = times-cons entry older bytes in
        let one = ap (λ b. cond b 1 0 + times_kept older bytes) there in
        omega arith

-- the newest did not keep what no entry kept
first-none : (entry : Entry) (older : List Entry) (bytes : List ℕ)
    → times_kept (entry ∷ older) bytes ≡ 0
    → (has (kept_by entry.act) bytes ≡ false) × (times_kept older bytes ≡ 0)
first-none entry older bytes none =
    elim (has (kept_by entry.act) bytes) as (λ b.
    cond b 1 0 + times_kept older bytes ≡ 0 → (b ≡ false) × (times_kept older bytes ≡ 0)) [
      | true ↦ λ none. absurd (omega arith)
      | false ↦ λ none. (refl, omega arith)
    ] (sym (times-cons entry older bytes) ∙ none)

module _ (naming : Naming) (book : Book) (sound : IsSound naming book) where
  -- a record that none of some entries kept has no name among theirs
  no_name : (list : List Entry) → AreEntries book.held list → (bytes : List ℕ)
      → has book.held bytes ≡ true → times_kept list bytes ≡ 0
      → find by_bytes (name_of naming bytes) (came_entries naming list) ≡ None
  no_name [] are bytes there none = refl
  no_name (entry ∷ older) are bytes there none =
      let both = first-none entry older bytes none in
      let kept : Records = kept_by entry.act in
      let name : List ℕ = name_of naming bytes in
      let own = no_line naming (length older + 1) bytes kept
      (unnamed_in naming book sound bytes kept there (first-among book.held entry older are)
      (λ other in_it. apart kept other bytes in_it both.0)) in
      find-both by_bytes name (under_names naming (length older + 1) kept) (came_entries naming older)
      ∙ ap (λ found. else_find found (find by_bytes name (came_entries naming older))) own
      ∙ no_name older (rest-are book.held entry older are) bytes there both.1
    where
      apart : (kept : Records) (other bytes : List ℕ) → has kept other ≡ true
          → has kept bytes ≡ false → is other bytes ≡ false
      apart kept other bytes in_it out =
          elim (is other bytes) as (λ b. is other bytes ≡ b → b ≡ false) [
            | true ↦ λ same.
                absurd (true≢false (sym in_it ∙ ap (has kept) (tells_apart exact_bytes other bytes same)
                ∙ out))
            | false ↦ λ differ. refl
          ] refl

  -- the names are different
  came_apart : (list : List Entry) → AreEntries book.held list
      → Apart by_bytes (came_entries naming list)
  came_apart [] are = tt
  came_apart (entry ∷ older) are =
      let kept : Records = kept_by entry.act in
      let among = first-among book.held entry older are in
      let rest = rest-are book.held entry older are in
      names_apart naming book sound (length older + 1) (came_entries naming older) (members kept)
      (members_rise nat_list_cmp_total kept)
      (λ bytes in_it. among bytes (fin.contains_key-keys kept bytes ∙ in_it))
      (λ bytes in_it.
      let there = fin.contains_key-keys kept bytes ∙ in_it in
      no_name older rest bytes (among bytes there)
      (rest-none book.held entry older are bytes there))
      (came_apart older rest)

  -- the names of a number later than all entries are none
  none_later : (list : List Entry) (number : ℕ) → length list < number
      → filter (λ (one : List ℕ × ℕ). one.1 == number) (came_entries naming list) ≡ []
  none_later [] number later = refl
  none_later (entry ∷ older) number later =
      let first = side_dropped naming (λ n. n == number) (length older + 1)
      (ne_eqb (length older + 1) number (λ same. omega arith)) (members (kept_by entry.act)) in
      let rest = none_later older number (omega arith) in
      filter-append (λ (one : List ℕ × ℕ). one.1 == number)
      (under_names naming (length older + 1) (kept_by entry.act)) (came_entries naming older)
      ∙ (λ i. first i ++ rest i)

  -- those of an entry's number are of its records
  own_names : (newer : List Entry) (entry : Entry) (older : List Entry) (number : ℕ)
      → number ≡ length older + 1
      → filter (λ (one : List ℕ × ℕ). one.1 == number)
      (came_entries naming (newer ++ entry ∷ older))
      ≡ under_names naming (length older + 1) (kept_by entry.act)
  own_names [] entry older number its =
      let same : (length older + 1 == number) ≡ true =
      eq-eqb (length older + 1) number (sym its) in
      let first = side_kept naming (λ n. n == number) (length older + 1) same
      (members (kept_by entry.act)) in
      let rest = none_later older number (omega arith) in
      filter-append (λ (one : List ℕ × ℕ). one.1 == number)
      (under_names naming (length older + 1) (kept_by entry.act)) (came_entries naming older)
      ∙ (λ i. first i ++ rest i)
      ∙ append-nil (under_names naming (length older + 1) (kept_by entry.act))
  own_names (new ∷ newer) entry older number its =
      let all : List Entry = newer ++ entry ∷ older in
      let count = length-append newer (entry ∷ older) in
      let first = side_dropped naming (λ n. n == number) (length all + 1)
      (ne_eqb (length all + 1) number (λ same. omega arith)) (members (kept_by new.act)) in
      filter-append (λ (one : List ℕ × ℕ). one.1 == number)
      (under_names naming (length all + 1) (kept_by new.act)) (came_entries naming all)
      ∙ ap (λ first. first ++ filter (λ (one : List ℕ × ℕ). one.1 == number) (came_entries naming all))
      first
      ∙ own_names newer entry older number its

  module _ (lines : HasLines book) (are : IsJournaled book) where
    -- what came by each number
    abbrev came : ℕ → Records
    came = came_with (tables_of naming book).records (tables_of naming book).came

    -- the entry of a place kept what is held
    pub kept_among : (newer : List Entry) (entry : Entry) (older : List Entry)
        → AreEntries book.held (newer ++ entry ∷ older) → AreAmong (kept_by entry.act) book.held
    kept_among [] entry older are = first-among book.held entry older are
    kept_among (new ∷ newer) entry older are =
        kept_among newer entry older (rest-are book.held new (newer ++ entry ∷ older) are)

    -- what came by an entry is what it kept
    pub came_is : (newer : List Entry) (entry : Entry) (older : List Entry) (number : ℕ)
        → book.journal ≡ newer ++ entry ∷ older → number ≡ length older + 1
        → came number ≡ kept_by entry.act
    came_is newer entry older number is its =
        let row : List ℕ × ℕ → Option (List ℕ) = given naming book sound lines in
        let own : List ℕ × ℕ → Bool = λ one. one.1 == number in
        let among = kept_among newer entry older (subst (AreEntries book.held) is are) in
        set-permuted row (filter own (entries (from_entries {R = by_bytes} (came_entries naming book.journal))))
        (filter own (came_entries naming book.journal))
        (filter-from_entries nat_list_cmp_total exact_bytes own (came_entries naming book.journal)
        (came_apart book.journal are))
        ∙ ap (λ list. set_of by_bytes (filter_map row (filter own (came_entries naming list)))) is
        ∙ ap (λ names. set_of by_bytes (filter_map row names)) (own_names newer entry older number its)
        ∙ ap (set_of by_bytes)
        (side_back naming book sound lines (length older + 1) (kept_by entry.act) among)
        ∙ set_of-members (kept_by entry.act)

    -- what an entry is about
    act-back : (act : Act) → act_read (kept_by act) (act_row act) ≡ act
    act-back (Ruled place) = refl
    act-back (Importing reading kept) = refl
    act-back (Imported reading ending kept) = refl

    -- one row more
    one-read : (kept : ℕ → Records) (number : ℕ) (rows : List JournalRow) (row : JournalRow)
        → entries_read kept number (rows ++ row ∷ [])
        ≡ record { note = row.note; act = act_read (kept (number + length rows)) row.act }
        ∷ entries_read kept number rows
    one-read kept number [] row =
        let same : number ≡ number + 0 = omega arith in
        ap {B = List Entry} (λ n. record { note = row.note; act = act_read (kept n) row.act } ∷ []) same
    one-read kept number (first ∷ rows) row =
        let same : suc number + length rows ≡ number + suc (length rows) = omega arith in
        let own : List Entry = record { note = first.note; act = act_read (kept number) first.act } ∷ [] in
        ap (λ list. list ++ own) (one-read kept (suc number) rows row)
        ∙ ap (λ n. record { note = row.note; act = act_read (kept n) row.act }
        ∷ (entries_read kept (suc number) rows ++ own)) same

    -- the last entries are read back
    last_back : (newer list : List Entry) → book.journal ≡ newer ++ list
        → entries_read came 1 (journal_rows list) ≡ list
    last_back newer [] is = refl
    last_back newer (entry ∷ older) is =
        let count = rows-length older in
        let its : 1 + length (journal_rows older) ≡ length older + 1 = omega arith in
        let kept = came_is newer entry older (1 + length (journal_rows older)) is its in
        let rest = last_back (newer ++ entry ∷ []) older
        (is ∙ sym (append_assoc newer (entry ∷ []) older)) in
        one-read came 1 (journal_rows older) (journal_row entry)
        ∙ (λ i. record { note = entry.note; act = act_read (kept i) (act_row entry.act) } ∷ rest i)
        ∙ ap (λ act. record { note = entry.note; act = act } ∷ older) (act-back entry.act)

    -- so is the journal
    pub journal_back : journal_in (tables_of naming book) ≡ book.journal
    journal_back =
        ap (entries_read came 1) (values-numbers (journal_rows book.journal))
        ∙ last_back [] book.journal refl
