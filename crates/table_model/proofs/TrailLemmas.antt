-- A record by its name, its trail, and the period that a line of it speaks of, are answered from the
-- tables.
use Rattle.std.proofs.Common.{◌≡◌, ◌∙◌, ℕ, List, map, refl, sym, ap, true, true≢false, Bool, Option}
use Rattle.std.proofs.Common.{None, Some, is_some, filter, ok_or, option_and_then, option_map}
use Rattle.std.proofs.Common.{if◌then◌else◌}
use Rattle.book_model.proofs.Std.{get, nat_list_eq_equiv, All-weaker, map-map, result_ok}
use Rattle.book_model.specs.declared.fault.LedgerFault.TheVariants.{NoSuchRecord}
use Rattle.book_model.specs.declared.line.Line.{Line}
use Rattle.book_model.specs.Words.{Priced, Reckoning, Book, Choice, IsChoiceOf, IsSound, Naming}
use Rattle.book_model.specs.Words.{choice_named, charged_of, choices_among, has, identity_by}
use Rattle.book_model.specs.Words.{name_of, no_event, period_on, price_in, reckoning_in}
use Rattle.book_model.specs.Words.{record_named, same_bytes, share_identity, trail_by, trail_of}
use Rattle.book_model.specs.Words.{charged_before, period_by_trail, period_of_line, trail_outcome}
use Rattle.book_model.proofs.Lemmas.{filter-agree, filter-map, named_held}
use Rattle.book_model.proofs.LinePeriodLemmas.{line_told}
use Rattle.book_core.proofs.NamedLemmas.{is_some-named, its_name}
use Rattle.table_model.specs.Words.{ChoiceRow, RecordRow, Tables, choice_row, tables_of}
use Rattle.table_model.specs.Words.{name_has_identity, IsReadable, choices_with, NamedRow}
use Rattle.table_model.specs.Words.{row_record}
use Rattle.table_model.specs.ListLaws.{LinePeriodsFollow, RecordsFollow, TrailsFollow}
use Rattle.table_model.specs.TrailRead.{line_period_row, row_choice, trail_at, trail_row}
use Rattle.table_model.proofs.CostLemmas.{day-price}
use Rattle.table_model.proofs.DueLemmas.{its_identity}
use Rattle.table_model.proofs.LifeReading.{life_is}
use Rattle.table_model.proofs.LineReading.{held_row}
use Rattle.table_model.proofs.NextDispute.{dispute_is}
use Rattle.table_model.proofs.RecordReading.{entry_at, every_row}
use Rattle.table_model.proofs.RowsWhere.{some_passes}
use Rattle.table_model.proofs.UnderNumbers.{values-numbers}

-- a record that is held in sound books is the one that is held under its name
pub named_itself : (naming : Naming) (book : Book) → IsSound naming book → (bytes : List ℕ)
    → has book.held bytes ≡ true
    → record_named naming book.held (name_of naming bytes) ≡ Some bytes
named_itself naming book sound bytes there =
    by_found (record_named naming book.held (name_of naming bytes)) refl
  where
    by_found : (found : Option (List ℕ))
        → record_named naming book.held (name_of naming bytes) ≡ found → found ≡ Some bytes
    by_found None none =
        let one = some_passes
        (λ other. same_bytes (name_of naming other) (name_of naming bytes)) book.held bytes there
        (nat_list_eq_equiv.refl (name_of naming bytes)) in
        absurd (true≢false (sym (is_some-named naming book.held (name_of naming bytes) ∙ one)
        ∙ ap is_some none))
    by_found (Some other) some =
        let in_it = named_held naming book.held (name_of naming bytes) other some in
        let same = its_name naming book.held (name_of naming bytes) other some in
        ap Some (sound.named other bytes in_it there same)

module _ (naming : Naming) (book : Book) (whole : IsReadable naming book) where
  abbrev tables : Tables
  tables = tables_of naming book

  -- where a name has no row, no record of it is held
  unnamed : (name : List ℕ) → get tables.records name ≡ None
      → record_named naming book.held name ≡ None
  unnamed name none = by_found (record_named naming book.held name) refl
    where
      none_some : {row : RecordRow} → ◌≡◌ {A = Option RecordRow} None (Some row) → ⊥
      none_some is = cc

      by_found : (found : Option (List ℕ)) → record_named naming book.held name ≡ found
          → found ≡ None
      by_found None is = refl
      by_found (Some bytes) is =
          let row = held_row naming book whole.sound bytes
          (named_held naming book.held name bytes is) in
          absurd (none_some (sym none
          ∙ ap (get tables.records) (sym (its_name naming book.held name bytes is)) ∙ row.2))

  module _ (bytes : List ℕ) (there : has book.held bytes ≡ true) where
    -- the choices of its identity are those of the rows
    choices_are : choices_among naming book.rulings bytes
        ≡ choices_with (identity_by book.rulings bytes) tables
    choices_are =
        let own : List ℕ → Bool =
        name_has_identity tables.records (identity_by book.rulings bytes) in
        let shares : Choice → Bool = λ choice. share_identity book.rulings bytes choice.chosen in
        let has_own : ChoiceRow → Bool = λ row. own row.name in
        let rows : List ChoiceRow = map (choice_row naming) book.rulings.choices in
        sym (ap (λ some. map row_choice (filter has_own some)) (values-numbers rows)
        ∙ ap (map row_choice) (filter-map has_own (choice_row naming) book.rulings.choices)
        ∙ map-map row_choice (choice_row naming)
        (filter (λ choice. has_own (choice_row naming choice)) book.rulings.choices)
        ∙ ap (map (choice_named naming))
        (filter-agree (λ choice. has_own (choice_row naming choice)) shares book.rulings.choices
        (All-weaker (IsChoiceOf book.held)
        (λ choice. has_own (choice_row naming choice) ≡ shares choice)
        (λ choice in_it.
        its_identity naming book whole.sound (charged_of book) bytes there choice.chosen in_it)
        book.rulings.choices whole.sound.chosen)))

    module _ (priced : Priced) (price : price_in book.rulings bytes ≡ Some priced) where
      abbrev entry : NamedRow
      entry = entry_at naming book whole.sound bytes priced

      -- its trail is that of its row,
      trail_is : (reckoning : Reckoning)
          → trail_by naming book bytes reckoning ≡ trail_row book.rulings tables entry reckoning
      trail_is reckoning =
          let framed = (whole.lines.framed bytes there).is in
          let day = sym (day-price book.rulings bytes priced price) in
          let dispute = dispute_is naming book whole (identity_by book.rulings bytes) in
          let life = life_is naming book whole bytes there priced price in
          λ i. record {
            bytes = framed i;
            period = period_on book.rulings.closes (day i);
            reckoning = reckoning;
            members = (dispute i).members;
            choices = choices_are i;
            life = life i;
          }

      -- and so is the answer
      answer_is : trail_outcome naming entry.0 book
          ≡ no_event (trail_at book.rulings tables entry.0 (Some entry.1))
      answer_is =
          let framed = (whole.lines.framed bytes there).is in
          ap (λ found. no_event (ok_or (option_and_then (trail_of naming book) found) NoSuchRecord))
          (named_itself naming book whole.sound bytes there)
          ∙ (λ i. no_event (ok_or (option_map (λ (reckoning : Reckoning). trail_is reckoning i)
          (reckoning_in book.rulings (framed i))) NoSuchRecord))

  -- a line of a record that is held speaks of the period that its row tells
  line_period_is : (number : ℕ) (line : Line) (bytes : List ℕ) (priced : Priced)
      → has book.held bytes ≡ true → price_in book.rulings bytes ≡ Some priced
      → line.name ≡ name_of naming bytes
      → period_of_line naming book number line
      ≡ line_period_row number line.plus book.rulings tables.lines
      (entry_at naming book whole.sound bytes priced)
  line_period_is number line bytes priced there price named =
      let day = sym (day-price book.rulings bytes priced price) in
      let life = life_is naming book whole bytes there priced price in
      line_told naming book number line bytes
      (ap (record_named naming book.held) named
      ∙ named_itself naming book whole.sound bytes there)
      (ap is_some price)
      ∙ (λ i. if line.plus then Some (period_on book.rulings.closes (day i))
      else charged_before number (life i))

-- the law of records
pub records_follow : RecordsFollow
records_follow naming book name whole = by_row (get (tables_of naming book).records name) refl
  where
    by_row : (found : Option RecordRow) → get (tables_of naming book).records name ≡ found
        → record_named naming book.held name ≡ option_map row_record found
    by_row None none = unnamed naming book whole name none
    by_row (Some row) some =
        every_row naming book whole.sound
        (λ entry. record_named naming book.held entry.0 ≡ Some (row_record entry.1))
        (λ bytes priced there price.
        named_itself naming book whole.sound bytes there
        ∙ ap Some (whole.lines.framed bytes there).is)
        name row some

-- the law of trails
pub trails_follow : TrailsFollow
trails_follow naming book name whole = by_row (get (tables_of naming book).records name) refl
  where
    by_row : (found : Option RecordRow) → get (tables_of naming book).records name ≡ found
        → trail_outcome naming name book
        ≡ no_event (trail_at book.rulings (tables_of naming book) name found)
    by_row None none =
        ap (λ found. no_event (ok_or (option_and_then (trail_of naming book) found) NoSuchRecord))
        (unnamed naming book whole name none)
    by_row (Some row) some =
        every_row naming book whole.sound
        (λ entry. trail_outcome naming entry.0 book
        ≡ no_event (trail_at book.rulings (tables_of naming book) entry.0 (Some entry.1)))
        (λ bytes priced there price. answer_is naming book whole bytes there priced price)
        name row some

-- the law of the periods that lines speak of
pub line_periods_follow : LinePeriodsFollow
line_periods_follow naming book number line whole =
    by_row (get (tables_of naming book).records line.name) refl
  where
    of_row : NamedRow → Option ℕ
    of_row entry =
        line_period_row number line.plus book.rulings (tables_of naming book).lines entry

    by_row : (found : Option RecordRow) → get (tables_of naming book).records line.name ≡ found
        → period_of_line naming book number line
        ≡ option_and_then (λ (row : RecordRow). of_row (line.name, row)) found
    by_row None none =
        ap (λ found. option_and_then (period_by_trail number line)
        (result_ok (ok_or (option_and_then (trail_of naming book) found) NoSuchRecord)))
        (unnamed naming book whole line.name none)
    by_row (Some row) some =
        every_row naming book whole.sound
        (λ (entry : NamedRow). line.name ≡ entry.0
        → period_of_line naming book number line ≡ of_row entry)
        (λ bytes priced there price named.
        line_period_is naming book whole number line bytes priced there price named)
        line.name row some refl
