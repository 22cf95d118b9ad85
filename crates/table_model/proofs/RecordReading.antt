-- Records are read back from their rows.
use Rattle.std.proofs.Common.{◌≡◌, ℕ, List, [], ◌∷◌, map, refl, sym, ap, ◌∙◌, true, Bool, Option}
use Rattle.std.proofs.Common.{Some, subst, filter, filter_map, IsPermutation}
use Rattle.book_model.proofs.Std.{entries, get, AllByRecursion, nat_list_cmp_total, exact_bytes}
use Rattle.book_model.proofs.Std.{map-map}
use Rattle.book_model.specs.Words.{Priced, Book, charged_of, Naming, name_of, by_bytes, price_in}
use Rattle.book_model.specs.Words.{set_of, members, has, those, IsSound}
use Rattle.book_model.proofs.Lemmas.{filter-map, same_records, has_those, set_of-alike, map-alike}
use Rattle.table_model.specs.Words.{AreFramed, RecordRow, record_entries, record_entry, record_row}
use Rattle.table_model.specs.Words.{status_of, tables_of, row_record, records_of_rows, NamedRow}
use Rattle.table_model.proofs.RowsWhere.{AreMembers, all_rows, first_entry, first_held}
use Rattle.table_model.proofs.RowsWhere.{members_held, others_held, passing_held, rows_where}
use Rattle.table_model.proofs.RowsWhere.{those_among}
use Rattle.table_model.proofs.Finding.{get_one}
use Rattle.table_model.proofs.ListOrder.{all_texts}
use Rattle.table_model.proofs.SetReading.{permuted-alike, set_of-filter}

module _ (naming : Naming) (book : Book) (sound : IsSound naming book) where
  -- the entry of a record
  abbrev pub entry : List ℕ → Option NamedRow
  entry = record_entry naming book.rulings (charged_of book) book.posted

  -- the entry of a record with a price
  abbrev pub entry_at : List ℕ → Priced → NamedRow
  entry_at bytes priced = (
    name_of naming bytes,
    record_row book.rulings (charged_of book) book.posted bytes priced,
  )

  -- all entries
  abbrev pub all_entries : List NamedRow
  all_entries = record_entries naming book.rulings book.held (charged_of book) book.posted

  -- all rows of the table are all the entries
  pub all_permuted : IsPermutation (entries (tables_of naming book).records) all_entries
  all_permuted = all_rows naming book sound (status_of book) sound.priced

  -- what follows from the entries of records
  pub each_entry : (P : NamedRow → Type 0) (Q : List ℕ → Type 0)
      → ((bytes : List ℕ) (priced : Priced) → has book.held bytes ≡ true
      → price_in book.rulings bytes ≡ Some priced → Q bytes → P (entry_at bytes priced))
      → (ks : List (List ℕ)) → AreMembers book.held ks → AllByRecursion Q ks
      → AllByRecursion P (filter_map entry ks)
  each_entry P Q so [] held all = tt
  each_entry P Q so (k ∷ ks) held all =
      let first = first_entry naming book sound (status_of book) sound.priced k ks held in
      subst (AllByRecursion P) (sym first.2) (
        so k first.0 (first_held book.held k ks held) first.1 all.0,
        each_entry P Q so ks (others_held book.held k ks held) all.1,
      )

  module _ (P : NamedRow → Type 0)
      (so : (bytes : List ℕ) (priced : Priced) → has book.held bytes ≡ true
      → price_in book.rulings bytes ≡ Some priced → P (entry_at bytes priced)) where
    -- so what holds of the entry of each record that is held holds of all entries,
    pub every_entry : AllByRecursion P all_entries
    every_entry =
        each_entry P (λ bytes. Unit {0})
        (λ bytes priced there price nothing. so bytes priced there price) (members book.held)
        (members_held book.held) (all_texts (λ bytes. Unit {0}) (members book.held) (λ k among. tt))

    -- and of each row of the table
    pub every_row : (name : List ℕ) (row : RecordRow)
        → get (tables_of naming book).records name ≡ Some row → P (name, row)
    every_row =
        get_one nat_list_cmp_total exact_bytes (λ name row. P (name, row)) all_entries every_entry

  module _ (framed : AreFramed book.held) where
    -- the records of entries are those that they were made from
    pub records_of : (ks : List (List ℕ)) → AreMembers book.held ks
        → map (λ (e : NamedRow). row_record e.1) (filter_map entry ks) ≡ ks
    records_of [] held = refl
    records_of (k ∷ ks) held =
        let first = first_entry naming book sound (status_of book) sound.priced k ks held in
        let rest = records_of ks (others_held book.held k ks held) in
        ap (map (λ (e : NamedRow). row_record e.1)) first.2
        ∙ (λ i. sym (framed k (first_held book.held k ks held)).is i ∷ rest i)

    -- so the records of the rows that pass a test are those of the book that pass it
    pub records_back : (test : RecordRow → Bool) (q : List ℕ → Bool)
        → ((bytes : List ℕ) (priced : Priced) → price_in book.rulings bytes ≡ Some priced
        → test (entry_at bytes priced).1 ≡ q bytes)
        → records_of_rows test (tables_of naming book).records ≡ those q book.held
    records_back test q agree =
        let all : List NamedRow = entries (tables_of naming book).records in
        let p : NamedRow → Bool = λ e. test e.1 in
        let its : NamedRow → List ℕ = λ e. row_record e.1 in
        ap (λ rows. set_of by_bytes (map row_record rows)) (filter-map test (λ e. e.1) all)
        ∙ ap (set_of by_bytes) (map-map row_record (λ e. e.1) (filter p all))
        ∙ set_of-alike nat_list_cmp_total exact_bytes
        (map-alike its (permuted-alike (filter p all)
        (filter_map entry (filter q (members book.held)))
        (rows_where naming book sound (status_of book) sound.priced p q agree)))
        ∙ ap (set_of by_bytes)
        (records_of (filter q (members book.held)) (passing_held q book.held))
        ∙ set_of-filter q book.held

    -- all that are held
    pub held_back : records_of_rows (λ row. true) (tables_of naming book).records ≡ book.held
    held_back =
        records_back (λ row. true) (λ bytes. true) (λ bytes priced price. refl)
        ∙ same_records (those (λ bytes. true) book.held) book.held (λ q.
        has_those (λ bytes. true) book.held q)

    -- all that are posted
    pub posted_back : records_of_rows (λ row. row.posted) (tables_of naming book).records
        ≡ book.posted
    posted_back =
        records_back (λ row. row.posted) (has book.posted) (λ bytes priced price. refl)
        ∙ those_among book.posted book.held sound.posted
