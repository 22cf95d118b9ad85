-- The records and the choices of consistent tables are those of the tables of their book.
use Rattle.std.proofs.Common.{◌≡◌, ◌∙◌, ◌+◌, ◌-◌, ◌≤◌, ◌∷◌, [], ◌&&◌, List, ℕ, suc, Bool, true}
use Rattle.std.proofs.Common.{Option, None, Some, ap, arith, length, map, refl, sym, nat_le}
use Rattle.std.proofs.Common.{option_map, filter_map}
use Rattle.std.specs.Cmp.{nat_cmp_total}
use Rattle.std.specs.FinMap.{from_entries, get, get-from_entries, nat_cmp-IsAntisymmetric, same_map}
use Rattle.std.specs.FinMap.{values}
use Rattle.std.specs.List.{cons_option}
use Rattle.std.proofs.Math.Bool.{and-true}
use Rattle.std.proofs.lemmas.Bool.{false_from_ne_true}
use Rattle.std.proofs.lemmas.Bool.Decides.{nat_tests}
use Rattle.std.proofs.lemmas.Cmp.{nat_list_cmp_total}
use Rattle.std.proofs.lemmas.Map.Lookups.{exact_bytes}
use Rattle.std.proofs.lemmas.Map.Views.{tells_apart}
use Rattle.std.proofs.lemmas.Option.{none-some}
use Rattle.book_model.specs.Words.{Book, Choice, Naming, Records, charged_of, identity_by}
use Rattle.book_model.specs.Words.{is_undisputed, members, name_of, price_in}
use Rattle.book_model.proofs.RecordSets.{has_those, in_those, is}
use Rattle.table_model.specs.BookIn.{book_in, choice_read, records_of_rows, row_record}
use Rattle.table_model.specs.Tables.{ChoiceRow, RecordRow, Tables}
use Rattle.table_model.specs.TablesOf.{choice_row, entries_by, row_by, status_by, tables_at}
use Rattle.table_model.specs.TablesOf.{tables_of, under_numbers}
use Rattle.table_model.specs.Views.{is_due_in}
use Rattle.table_model.proofs.DueLemmas.{due-follows}
use Rattle.table_model.proofs.RecordChanges.{no_entry}
use Rattle.table_model.proofs.Restated.{row-found}
use Rattle.table_model.proofs.RowsWhere.{members_held}
use Rattle.consistent_tables.specs.Consistent.{AreConsistent, charged_back, ruled}
use Rattle.consistent_tables.proofs.ChargedSets.{charged_held, days, has_charged, own_period}
use Rattle.consistent_tables.proofs.ChargedSets.{same_held, where_held}
use Rattle.consistent_tables.proofs.ClosePeriods.{most_period}
use Rattle.consistent_tables.proofs.Entries.{made_again}
use Rattle.consistent_tables.proofs.HeldRows.{has_where, is_held, its_name, row_of}
use Rattle.consistent_tables.proofs.PeriodLinks.{ends}
use Rattle.consistent_tables.proofs.SoundTables.{choice_of, sound}

module _ (naming : Naming) (tables : Tables) (whole : AreConsistent naming tables) where
  -- their book, and the records that are marked as charged
  abbrev book : Book
  book = book_in tables

  abbrev pub marked : Records
  marked = records_of_rows (λ row. row.charged) tables.records

  -- the tables of the book, if those are what is charged
  abbrev made : Tables
  made = tables_at naming book (status_by (ruled tables) marked)

  -- the row of a record says what its row in the tables of the book says
  row_made : (name : List ℕ) (row : RecordRow) → get tables.records name ≡ Some row
      → row_by (identity_by (ruled tables)) marked book.posted (row_record row) row.priced ≡ row
  row_made name row there =
      let own = whole.records name row there in
      λ i. record {
        identity = sym own.identity i;
        data_bytes = row.data_bytes;
        priced = row.priced;
        charged = has_where naming tables whole (λ row. row.charged) name row there i;
        posted = has_where naming tables whole (λ row. row.posted) name row there i;
      }

  -- a name that has no row has none there
  none_made : (name : List ℕ) → get tables.records name ≡ None → get made.records name ≡ None
  none_made name none =
      get-from_entries nat_list_cmp_total
      (entries_by naming (status_by (ruled tables) marked) book.held book.posted) name
      ∙ no_entry naming (price_in (ruled tables)) (identity_by (ruled tables)) book.posted name marked
      (members book.held) (λ other among.
      false_from_ne_true (is name (name_of naming other)) (λ tied.
      let its = row_of naming tables whole other (members_held book.held other among) in
      let same = tells_apart exact_bytes name (name_of naming other) tied in
      none-some its.row (sym none ∙ ap (get tables.records) same ∙ its.found)))

  -- so the records are those of the tables of the book
  records_made : tables.records ≡ made.records
  records_made =
      same_map nat_list_cmp_total exact_bytes tables.records made.records
      (λ name. by_row name (get tables.records name) refl)
    where
      by_row : (name : List ℕ) (found : Option RecordRow) → get tables.records name ≡ found
          → get tables.records name ≡ get made.records name
      by_row name None none = none ∙ sym (none_made name none)
      by_row name (Some row) there =
          let own = row-found naming book (sound naming tables whole) (price_in (ruled tables))
          (identity_by (ruled tables)) marked (row_record row)
          (is_held naming tables whole name row there) row.priced
          (whole.records name row there).price in
          there ∙ ap Some (sym (row_made name row there)) ∙ sym own
          ∙ ap (get made.records) (sym (its_name naming tables whole name row there))

  -- no more choices are read than there are rows
  few_read : (rows : List ChoiceRow)
      → length (filter_map (choice_read tables.records) rows) ≤ length rows
  few_read [] = omega arith
  few_read (row ∷ rows) =
      let rest = few_read rows in
      let others : List Choice = filter_map (choice_read tables.records) rows in
      elim (get tables.records row.name) as
      (λ found. length (cons_option (option_map {T = RecordRow} {U = Choice} (choice_of row) found)
      others) ≤ suc (length rows)) [
        | None ↦ omega (arith, rest)
        | Some found ↦ omega (arith, rest)
      ]

  -- where as many are read, the rows are those of the choices
  rows_back : (rows : List ChoiceRow)
      → length (filter_map (choice_read tables.records) rows) ≡ length rows
      → map (choice_row naming) (filter_map (choice_read tables.records) rows) ≡ rows
  rows_back [] all = refl
  rows_back (row ∷ rows) all =
      let few = few_read rows in
      let others : List Choice = filter_map (choice_read tables.records) rows in
      elim (get tables.records row.name) as (λ found. get tables.records row.name ≡ found
      → length (cons_option (option_map {T = RecordRow} {U = Choice} (choice_of row) found) others)
      ≡ suc (length rows)
      → map (choice_row naming)
      (cons_option (option_map {T = RecordRow} {U = Choice} (choice_of row) found) others)
      ≡ row ∷ rows) [
        | None ↦ λ none all. absurd (omega (arith, few, all))
        | Some found ↦ λ there all.
            let rest = rows_back rows (omega (arith, all)) in
            let name = its_name naming tables whole row.name found there in
            λ i. record { name = sym name i; counts = row.counts; period = row.period } ∷ rest i
      ] refl all

  -- so the choices are those of the book
  pub choices_are : tables.choices ≡ (tables_of naming (book_in tables)).choices
  choices_are =
      sym (ap (λ rows. from_entries (under_numbers 1 rows))
      (rows_back (values tables.choices) whole.choices)
      ∙ ap from_entries (sym whole.numbers)
      ∙ made_again nat_cmp_total nat_cmp-IsAntisymmetric tables.choices)

  -- by both a record is due to be charged
  due_made : (name : List ℕ) → is_due_in tables name ≡ is_due_in made name
  due_made name =
      λ i. is_due_in (record made { records = records_made i; choices = choices_are i }) name

  -- the records that are marked as charged are charged now
  pub marked_is : marked ≡ charged_of (book_in tables)
  marked_is =
      let undisputed : List ℕ → Bool = is_undisputed (ruled tables) book.held in
      same_held naming tables whole marked (charged_of book)
      (where_held naming tables whole (λ row. row.charged))
      (λ bytes there. in_those undisputed book.held bytes there) (λ name row there.
      let one = is_held naming tables whole name row there in
      has_where naming tables whole (λ row. row.charged) name row there
      ∙ (whole.records name row there).charged
      ∙ due_made name
      ∙ ap (is_due_in made) (its_name naming tables whole name row there)
      ∙ due-follows naming book (sound naming tables whole) marked (row_record row) one
      ∙ sym (has_those undisputed book.held (row_record row)
      ∙ ap (λ there. undisputed (row_record row) && there) one
      ∙ and-true (undisputed (row_record row))))

  -- So the records are those of the tables of the book,
  pub records_are : tables.records ≡ (tables_of naming (book_in tables)).records
  records_are =
      records_made
      ∙ ap (λ charged. (tables_at naming book (status_by (ruled tables) charged)).records) marked_is

  -- and what is charged now is what was charged at the end of the open period.
  pub charged_is : charged_of (book_in tables)
      ≡ ends naming tables whole (suc (length (days tables)))
  charged_is =
      let open_period : ℕ = suc (length (days tables)) in
      sym marked_is
      ∙ same_held naming tables whole marked (ends naming tables whole open_period)
      (where_held naming tables whole (λ row. row.charged))
      (charged_held naming tables whole open_period) (λ name row there.
      let begun = most_period 1 (days tables) row.priced.day in
      let in_it : nat_le (own_period tables row) open_period ≡ true =
      is_begun (own_period tables row) (length (days tables)) begun in
      let none_later : length (days tables) + 1 - suc (length (days tables)) ≡ 0 = omega arith in
      has_where naming tables whole (λ row. row.charged) name row there
      ∙ (λ i. sym in_it i && charged_back tables name (sym none_later i) row.charged)
      ∙ sym (has_charged naming tables whole open_period name row there))
    where
      is_begun : (period last : ℕ) → period ≤ 1 + last → nat_le period (suc last) ≡ true
      is_begun period last begun = grind (arith, nat_tests, begun)
