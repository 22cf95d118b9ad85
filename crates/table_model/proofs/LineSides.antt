-- What a period adds and reverses is read from its lines.
use Rattle.std.proofs.Common.{◌≡◌, ℕ, suc, List, [], ◌∷◌, ◌++◌, map, refl, sym, ap, ◌∙◌, true}
use Rattle.std.proofs.Common.{false, ◌+◌, Bool, cond, not, Option, Some, append-nil, arith, filter}
use Rattle.std.proofs.Common.{slice_get, filter_map, option_map, map-id}
use Rattle.book_model.proofs.Std.{get, entries, from_entries, nat_list_cmp_total, filter-append}
use Rattle.book_model.proofs.Std.{exact_bytes}
use Rattle.book_model.specs.Words.{Book, all_periods, Period, Records, Naming, name_of, by_bytes}
use Rattle.book_model.specs.Words.{set_of, members, has, IsSound, AreHeld, AreAmong}
use Rattle.book_model.proofs.FilterLemmas.{filter-from_entries}
use Rattle.book_model.proofs.Lemmas.{filter-map, filter_map-defined, filter_map-map, pick-agree}
use Rattle.table_model.specs.Words.{rows_under, HasLines, IsApart, RecordTable, signed_names}
use Rattle.table_model.specs.Words.{line_entries, tables_of, row_record}
use Rattle.table_model.proofs.HeldPeriods.{one_of, all_held, all_apart}
use Rattle.table_model.proofs.LineNames.{lines_apart}
use Rattle.table_model.proofs.LineReading.{held_row}
use Rattle.table_model.proofs.PeriodPlaces.{slice_get-map}
use Rattle.table_model.proofs.PeriodReading.{read-period}
use Rattle.table_model.specs.BookIn.{named_by, added_in, taken_in}
use Rattle.table_model.specs.UnderNames.{under_names}
use Rattle.table_model.proofs.SetReading.{set-permuted, set_of-members}

module _ {V : Type 0} (naming : Naming) (keeps : V → Bool) (plus : V) where
  -- a line of a side
  abbrev line : List ℕ → List ℕ × V
  line bytes = (name_of naming bytes, plus)

  -- a side is kept whole if its sign is kept,
  pub side_kept : keeps plus ≡ true → (ks : List (List ℕ))
      → filter (λ row. keeps row.1) (map line ks) ≡ map line ks
  side_kept keep [] = refl
  side_kept keep (k ∷ ks) =
      let rest = side_kept keep ks in
      let others : List (List ℕ × V) = filter (λ row. keeps row.1) (map line ks) in
      ap (λ b. cond b (line k ∷ others) others) keep ∙ ap (λ es. line k ∷ es) rest

  -- and otherwise dropped
  pub side_dropped : keeps plus ≡ false → (ks : List (List ℕ))
      → filter (λ row. keeps row.1) (map line ks) ≡ []
  side_dropped drop [] = refl
  side_dropped drop (k ∷ ks) =
      let rest = side_dropped drop ks in
      let others : List (List ℕ × V) = filter (λ row. keeps row.1) (map line ks) in
      ap (λ b. cond b (line k ∷ others) others) drop ∙ rest

-- the plus lines of a period
plus_lines : (naming : Naming) (period : Period)
    → filter (λ row. row.1) (line_entries naming period) ≡ signed_names naming true period.added
plus_lines naming period =
    filter-append (λ (row : List ℕ × Bool). row.1) (signed_names naming true period.added)
    (signed_names naming false period.taken)
    ∙ (λ i. side_kept naming (λ b. b) true refl (members period.added) i
    ++ side_dropped naming (λ b. b) false refl (members period.taken) i)
    ∙ append-nil (signed_names naming true period.added)

-- the minus lines of a period
minus_lines : (naming : Naming) (period : Period)
    → filter (λ row. not row.1) (line_entries naming period)
    ≡ signed_names naming false period.taken
minus_lines naming period =
    filter-append (λ (row : List ℕ × Bool). not row.1) (signed_names naming true period.added)
    (signed_names naming false period.taken)
    ∙ (λ i. side_dropped naming not true refl (members period.added) i
    ++ side_kept naming not false refl (members period.taken) i)

module _ (naming : Naming) (book : Book) (sound : IsSound naming book) (lines : HasLines book)
  where
    -- the records' rows
    abbrev records : RecordTable
    records = (tables_of naming book).records

    -- the record of a line
    abbrev pub given : {V : Type 0} → List ℕ × V → Option (List ℕ)
    given line = option_map row_record (get records line.0)

    -- a record that is held is found under its name
    found_back : (bytes : List ℕ) → has book.held bytes ≡ true
        → option_map row_record (get records (name_of naming bytes)) ≡ Some bytes
    found_back bytes there =
        ap (option_map row_record) (held_row naming book sound bytes there).2
        ∙ (λ i. Some (sym (lines.framed bytes there).is i))

    -- the records of a side
    pub side_back : {V : Type 0} (plus : V) (some : Records) → AreAmong some book.held
        → filter_map given (under_names naming plus some) ≡ members some
    side_back plus some among =
        filter_map-map given (λ bytes. (name_of naming bytes, plus)) (members some)
        ∙ pick-agree (λ bytes. given (name_of naming bytes, plus)) (λ bytes. Some bytes) some
        (λ bytes there. found_back bytes (among bytes there))
        ∙ filter_map-defined (λ k. Some k) (λ k. k) (members some) (λ k any within. refl)
        ∙ map-id (members some)

    module _ (k : ℕ) (period : Period) (there : slice_get (all_periods book) k ≡ Some period) where
      -- the lines of the period
      abbrev rows : List (List ℕ × Bool)
      rows = line_entries naming period

      -- the records of the kept lines, if these are one side of the period
      side_read : (keeps : Bool → Bool) (plus : Bool) (some : Records)
          → filter (λ row. keeps row.1) rows ≡ signed_names naming plus some
          → AreAmong some book.held
          → named_by records
          (filter (λ line. keeps line.1) (rows_under (suc k) (tables_of naming book).lines))
          ≡ some
      side_read keeps plus some own among =
          let all : List Period = all_periods book in
          let alone : List (List ℕ × Bool) = entries (from_entries {R = by_bytes} rows) in
          let numbered : List ℕ × Bool → (ℕ × List ℕ) × Bool = λ row. ((suc k, row.0), row.1) in
          let kept : List ℕ × Bool → Bool = λ row. keeps row.1 in
          let next : suc k ≡ 1 + k = omega arith in
          let held = one_of (AreHeld book.held) all k period (all_held naming book sound) there in
          let apart = one_of IsApart all k period (all_apart book lines) there in
          ap (λ es. named_by records (filter (λ line. keeps line.1) es))
          (read-period by_bytes nat_list_cmp_total exact_bytes 1 k (suc k)
          (map (line_entries naming) all) rows
          (slice_get-map (line_entries naming) all k period there) next)
          ∙ ap (named_by records) (filter-map (λ line. keeps line.1) numbered alone)
          ∙ ap (set_of by_bytes)
          (filter_map-map (λ line. option_map row_record (get records line.0.1)) numbered
          (filter kept alone))
          ∙ set-permuted given (filter kept alone) (filter kept rows)
          (filter-from_entries nat_list_cmp_total exact_bytes kept rows
          (lines_apart naming book sound period held apart))
          ∙ ap (λ es. set_of by_bytes (filter_map given es)) own
          ∙ ap (set_of by_bytes) (side_back plus some among)
          ∙ set_of-members some

      -- the records of the period are held
      speaks : AreHeld book.held period
      speaks =
          one_of (AreHeld book.held) (all_periods book) k period (all_held naming book sound) there

      -- what the period adds
      pub added_back : added_in (suc k) (tables_of naming book) ≡ period.added
      added_back =
          side_read (λ b. b) true period.added (plus_lines naming period) speaks.added

      -- what it reverses
      pub taken_back : taken_in (suc k) (tables_of naming book) ≡ period.taken
      taken_back = side_read not false period.taken (minus_lines naming period) speaks.taken
