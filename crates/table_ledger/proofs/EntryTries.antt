-- Entries of the journal as they are listed: what looks find is what the book has.
use Rattle.std.proofs.Common.{◌≡◌, ◌∙◌, ◌+◌, ◌-◌, ◌<◌, ◌≤◌, ℕ, zero, suc, ℤ, Bool, true, false}
use Rattle.std.proofs.Common.{List, [], ◌∷◌, ◌++◌, None, Option, Some, All, ap, arith, cond, drop, filter}
use Rattle.std.proofs.Common.{find, length, map, option_and_then, option_map, refl, slice_get}
use Rattle.std.proofs.Common.{string_bytes, subst, sym, unwrap_or}
use Rattle.std.proofs.lemmas.Bool.Decides.{Decides-int_eq}
use Rattle.std.proofs.lemmas.List.{drop-map, drop_all}
use Rattle.std.proofs.lemmas.List.Elements.{All-drop}
use Rattle.std.proofs.lemmas.Option.{slice_get-map, slice_get_past}
use Rattle.std.specs.Ordering.{int_eq}
use Rattle.book_model.proofs.Std.{All-head, All-tail, get, get-from_entries, length-map}
use Rattle.book_model.proofs.Std.{nat_cmp_total}
use Rattle.book_model.specs.Journal.{Act, AdoptionOf, ChoiceOf, CloseOf, CreditOf, Entry, Imported}
use Rattle.book_model.specs.Journal.{Importing, Place, ReplacementOf, Ruled, TariffOf, kept_by}
use Rattle.book_model.specs.JournalLists.{act_seen, tariff_brought}
use Rattle.book_model.specs.Words.{AcceptedTerms, ActSeen, AdoptionSeen, Book, CloseSeen, EntrySeen}
use Rattle.book_model.specs.Words.{ImportDone, Naming, Replaced, RulingDone, RulingSeen, Rulings}
use Rattle.book_model.specs.Words.{TariffSeen, choice_seen, close_of, credit_seen, entries_listed}
use Rattle.book_model.specs.Words.{entry_seen, is_effective, members, ruling_at, tariff_seen}
use Rattle.book_core.specs.OfficeRulings.{ruled_in}
use Rattle.book_core.proofs.ListedLemmas.{first_kept}
use Rattle.table_model.specs.JournalRows.{act_row, journal_row, journal_rows}
use Rattle.table_model.specs.Readable.{IsReplaced, IsTexted}
use Rattle.table_model.specs.Tables.{ImportRow, JournalRow, ReplacedRow, ReplacedTable, RowAct}
use Rattle.table_model.specs.Tables.{RulingRow}
use Rattle.table_model.specs.TablesOf.{replaced_row}
use Rattle.table_model.specs.Words.{IsReadable, Tables, choice_read_at, tables_of, under_numbers}
use Rattle.table_model.proofs.JournalChanges.{rows-length}
use Rattle.table_model.proofs.ListedChoices.{choice_listed}
use Rattle.table_model.proofs.UnderNumbers.{find-numbers}
use Rattle.tree_tables.specs.Answers.{FindsReplaced, last_number}
use Rattle.tree_tables.specs.Stored.{replaced_entry}
use Rattle.tree_tables.specs.declared.replaced_rows.StoredReplaced.{StoredReplaced}
use Rattle.table_ledger.specs.EntryReads.{AreReplaced, FindsText, ShowsAct, ShowsBrought}
use Rattle.table_ledger.specs.EntryReads.{ShowsPlace, ShowsReplacement, brought_among}
use Rattle.table_ledger.specs.EntryReads.{brought_by, replacement_among, text_among}
use Rattle.table_ledger.specs.declared.summary.Summary.{Summary}
use Rattle.table_ledger.proofs.LastNumbers.{last_entered}
use Rattle.table_ledger.proofs.Remembered.{closes_are, tariffs_are}
use Rattle.table_ledger.proofs.RulingReads.{credit_at}
use Rattle.table_ledger.proofs.Words.{Remembers}

-- ---- a tariff of a day among those that were replaced

-- the row of a number is the next behind those before it
row_found : {rows : List ReplacedRow} {count : ℕ} {tables : Tables} → AreReplaced rows count tables
    → (place : ℕ) (tariff : StoredReplaced) → FindsReplaced (place + 1) tables (Some tariff)
    → slice_get rows place ≡ Some (replaced_entry tariff).1
row_found {rows} {count} {tables} are place tariff found =
    sym (find-numbers 1 (place + 1) place rows (omega arith))
    ∙ sym (get-from_entries nat_cmp_total (under_numbers 1 rows) (place + 1))
    ∙ ap (λ (table : ReplacedTable). get table (place + 1)) (sym are.table)
    ∙ by (get tables.replaced (place + 1))
    ∙ sym (ap (option_map (λ (entry : ℕ × ReplacedRow). entry.1)) found)
  where
    by : (kept : Option ReplacedRow) → kept
        ≡ option_map (λ (entry : ℕ × ReplacedRow). entry.1)
        (option_map (λ (row : ReplacedRow). (place + 1, row)) kept)
    by None = refl
    by (Some row) = refl

rest_is : (rows : List ReplacedRow) (place : ℕ) (row : ReplacedRow)
    → slice_get rows place ≡ Some row → drop place rows ≡ row ∷ drop (place + 1) rows
rest_is [] place row is = cc
rest_is (first ∷ later) zero row is = ap (λ found. unwrap_or found first ∷ later) is
rest_is (first ∷ later) (suc place) row is =
    let same : suc (place + 1) ≡ suc place + 1 = omega arith in
    rest_is later place row is
    ∙ ap {B = List ReplacedRow} (λ n. row ∷ drop n (first ∷ later)) same

-- of the rows behind some, as many are passed as the number says
abbrev pub PassedTo : ℤ → ℕ → ℕ → ℕ → Tables → Type 0
PassedTo day number count passed tables =
    (rows : List ReplacedRow) → AreReplaced rows count tables
    → text_among day (drop number rows) ≡ text_among day (drop passed rows)

-- at first none is
pub passed_none : (day : ℤ) (number count : ℕ) (tables : Tables)
    → PassedTo day number count number tables
passed_none day number count tables = λ rows are. refl

module _ (day : ℤ) (number count passed : ℕ) (tables : Tables)
    (before : PassedTo day number count passed tables) where
  -- where no more are left, no text is found
  pub text_none : count ≤ passed → FindsText day number count tables None
  text_none past = λ rows are.
      let all = are.many in
      sym (before rows are ∙ ap (text_among day) (drop_all passed rows (omega (arith, all, past))))

  module _ (tariff : StoredReplaced) (found : FindsReplaced (passed + 1) tables (Some tariff)) where
    -- the next is looked at
    next_is : (begins : Bool) → int_eq day (replaced_entry tariff).1.day ≡ begins
        → (rows : List ReplacedRow) → AreReplaced rows count tables
        → text_among day (drop passed rows)
        ≡ cond begins (Some (string_bytes tariff.body)) (text_among day (drop (passed + 1) rows))
    next_is begins is rows are =
        let row : ReplacedRow = (replaced_entry tariff).1 in
        ap (text_among day) (rest_is rows passed row (row_found are passed tariff found))
        ∙ ap (λ b. cond b (Some (string_bytes tariff.body))
        (text_among day (drop (passed + 1) rows))) is

    -- it begins on the day,
    pub text_found : int_eq day (replaced_entry tariff).1.day ≡ true
        → FindsText day number count tables (Some (string_bytes tariff.body))
    text_found is = λ rows are. sym (before rows are ∙ next_is true is rows are)

    -- or is passed
    pub passed_on : int_eq day (replaced_entry tariff).1.day ≡ false
        → PassedTo day number count (passed + 1) tables
    passed_on is = λ rows are. before rows are ∙ next_is false is rows are

-- the one that came in the place of another
pub replacement_found : (summary : Summary) (number : ℕ) (tables : Tables) (tariff : StoredReplaced)
    (found : Option RulingSeen) → 0 < number → FindsReplaced number tables (Some tariff)
    → ShowsBrought summary (replaced_entry tariff).1.day number tables found
    → ShowsReplacement summary number tables found
replacement_found summary number tables tariff found some finds shows = λ rows are.
    let same : number ≡ number - 1 + 1 = omega (arith, some) in
    let its = subst (λ n. FindsReplaced n tables (Some tariff)) same finds in
    shows rows are
    ∙ sym (ap (option_and_then (λ (row : ReplacedRow).
    brought_among row.day (ruled_in summary.rulings).tariffs (drop number rows)))
    (row_found are (number - 1) tariff its))

-- ---- the journal's rows as they are listed

-- one of them, under its number
abbrev row_act : Naming → Rulings → RowAct → ActSeen
row_act naming rulings (RulingRow place) = RulingDone place (ruling_at naming rulings place)
row_act naming rulings (ImportRow reading ending kept) = ImportDone reading ending kept

abbrev row_listed : Naming → Rulings → ℕ → JournalRow → EntrySeen
row_listed naming rulings number row =
    record { number = number; note = row.note; act = row_act naming rulings row.act }

-- and all, from a number on
abbrev rows_listed : Naming → Rulings → ℕ → List JournalRow → List EntrySeen
rows_listed naming rulings number [] = []
rows_listed naming rulings number (row ∷ later) =
    row_listed naming rulings number row ∷ rows_listed naming rulings (suc number) later

module _ (naming : Naming) (rulings : Rulings) where
  -- an entry is listed as its row
  act_same : (act : Act) → act_seen naming rulings (length (members (kept_by act))) act
      ≡ row_act naming rulings (act_row act)
  act_same (Ruled place) = refl
  act_same (Importing reading kept) = refl
  act_same (Imported reading ending kept) = refl

  entry_same : (number : ℕ) (entry : Entry) → entry_seen naming rulings number entry
      ≡ row_listed naming rulings number (journal_row entry)
  entry_same number entry =
      ap {B = EntrySeen} (λ act. record { number = number; note = entry.note; act = act })
      (act_same entry.act)

  -- one more row
  one_listed : (number : ℕ) (rows : List JournalRow) (row : JournalRow)
      → rows_listed naming rulings number (rows ++ row ∷ [])
      ≡ rows_listed naming rulings number rows
      ++ row_listed naming rulings (number + length rows) row ∷ []
  one_listed number [] row =
      let same : number ≡ number + 0 = omega arith in
      ap {B = List EntrySeen} (λ n. row_listed naming rulings n row ∷ []) same
  one_listed number (first ∷ rows) row =
      let same : suc number + length rows ≡ number + suc (length rows) = omega arith in
      let own : EntrySeen = row_listed naming rulings number first in
      ap {B = List EntrySeen} (λ list. own ∷ list) (one_listed (suc number) rows row)
      ∙ ap {B = List EntrySeen} (λ n. own ∷ (rows_listed naming rulings (suc number) rows
      ++ row_listed naming rulings n row ∷ [])) same

  -- so the journal is listed
  all_listed : (journal : List Entry)
      → entries_listed naming rulings journal ≡ rows_listed naming rulings 1 (journal_rows journal)
  all_listed [] = refl
  all_listed (entry ∷ older) =
      let count = rows-length older in
      let same : length older + 1 ≡ 1 + length (journal_rows older) = omega arith in
      (λ i. all_listed older i ++ entry_same (same i) entry i ∷ [])
      ∙ sym (one_listed 1 (journal_rows older) (journal_row entry))

  -- an entry of the list
  at_listed : (number place : ℕ) (rows : List JournalRow)
      → slice_get (rows_listed naming rulings number rows) place
      ≡ option_map (row_listed naming rulings (number + place)) (slice_get rows place)
  at_listed number place [] = refl
  at_listed number zero (row ∷ rows) =
      let same : number ≡ number + 0 = omega arith in
      ap {B = Option EntrySeen} (λ n. Some (row_listed naming rulings n row)) same
  at_listed number (suc place) (row ∷ rows) =
      let same : suc number + place ≡ number + suc place = omega arith in
      at_listed (suc number) place rows
      ∙ ap (λ n. option_map (row_listed naming rulings n) (slice_get rows place)) same

-- ---- the ruling of a place

-- a tariff that came as a text is seen with it
texted : (day : ℤ) (tariff : AcceptedTerms) → IsTexted tariff → is_effective day tariff ≡ true
    → Some (TariffSeen day (unwrap_or tariff.text [])) ≡ tariff_seen tariff
texted day tariff has same =
    ap (λ (text : Option (List ℕ)). Some (TariffSeen day (unwrap_or text []))) has.is
    ∙ ap (λ (on : ℤ). Some (TariffSeen on has.text))
    ((Decides-int_eq day tariff.terms.effective).0 same)
    ∙ sym (ap (option_map (TariffSeen tariff.terms.effective)) has.is)

-- the tariff of a day behind some that were replaced
brought_behind : {book : Book} (day : ℤ) (tariffs : List AcceptedTerms) (gone : List Replaced)
    → All (IsReplaced book) gone
    → brought_among day tariffs (map replaced_row gone)
    ≡ option_and_then tariff_seen (slice_get (filter (is_effective day)
    (map (λ (replaced : Replaced). replaced.tariff) gone ++ tariffs)) 0)
brought_behind day tariffs [] all =
    ap (option_and_then tariff_seen) (first_kept (is_effective day) tariffs)
brought_behind {book} day tariffs (one ∷ rest) all =
    let later : List AcceptedTerms =
    filter (is_effective day) (map (λ (replaced : Replaced). replaced.tariff) rest ++ tariffs) in
    let text : List ℕ = unwrap_or one.tariff.text [] in
    elim (is_effective day one.tariff) as (λ b. is_effective day one.tariff ≡ b
    → brought_by day tariffs (cond b (Some text) (text_among day (map replaced_row rest)))
    ≡ option_and_then tariff_seen (slice_get (cond b (one.tariff ∷ later) later) 0)) [
      | true ↦ λ same.
          texted day one.tariff (All-head (IsReplaced book) one rest all).texted same
      | false ↦ λ other.
          brought_behind day tariffs rest (All-tail (IsReplaced book) one rest all)
    ] refl

module _ {summary : Summary} {book : Book} (remembers : Remembers summary book) (naming : Naming)
    (whole : IsReadable naming book) where
  abbrev kept : Tables
  kept = tables_of naming book

  abbrev gone : List Replaced
  gone = book.rulings.replaced

  -- the rows of the tariffs that were replaced
  rows_are : AreReplaced (map replaced_row gone) summary.replaced kept
  rows_are = record {
    table = refl;
    many = length-map gone replaced_row ∙ sym remembers.replaced;
  }

  -- a tariff of a day
  brought_is : (day : ℤ) (number : ℕ)
      → brought_among day book.rulings.tariffs (drop number (map replaced_row gone))
      ≡ tariff_brought day number book.rulings
  brought_is day number =
      ap (brought_among day book.rulings.tariffs) (drop-map replaced_row number gone)
      ∙ brought_behind day book.rulings.tariffs (drop number gone)
      (All-drop (IsReplaced book) number gone whole.replaced)

  -- in the place of another
  replacement_is : (number : ℕ)
      → replacement_among number book.rulings.tariffs (map replaced_row gone)
      ≡ ruling_at naming book.rulings (ReplacementOf number)
  replacement_is number =
      ap (option_and_then (λ (row : ReplacedRow).
      brought_among row.day book.rulings.tariffs (drop number (map replaced_row gone))))
      (slice_get-map replaced_row gone (number - 1))
      ∙ by (slice_get gone (number - 1))
    where
      by : (found : Option Replaced)
          → option_and_then (λ (row : ReplacedRow).
          brought_among row.day book.rulings.tariffs (drop number (map replaced_row gone)))
          (option_map replaced_row found)
          ≡ option_and_then (λ (replaced : Replaced).
          tariff_brought replaced.tariff.terms.effective number book.rulings) found
      by None = refl
      by (Some replaced) = brought_is replaced.tariff.terms.effective number

  -- a choice and a credit, by their numbers from 1
  chosen_is : (number : ℕ) → 0 < number
      → choice_read_at number kept.choices ≡ ruling_at naming book.rulings (ChoiceOf number)
  chosen_is number some =
      let same : number ≡ number - 1 + 1 = omega (arith, some) in
      ap (λ n. choice_read_at n kept.choices) same
      ∙ sym (choice_listed naming book (number - 1))
      ∙ ap (λ n. option_map (choice_seen naming n) (slice_get book.rulings.choices (number - 1)))
      (sym same)

  given_is : (number : ℕ) → 0 < number
      → option_map (credit_seen number) (get kept.credits number)
      ≡ ruling_at naming book.rulings (CreditOf number)
  given_is number some =
      let same : number ≡ number - 1 + 1 = omega (arith, some) in
      ap (λ n. option_map (credit_seen number) (get kept.credits n)) same
      ∙ ap (option_map (credit_seen number)) (credit_at naming book (number - 1))

  -- so each is that of its place
  place_is : (place : Place) (found : Option RulingSeen) → ShowsPlace summary place kept found
      → found ≡ ruling_at naming book.rulings place
  place_is (TariffOf day) found shows =
      shows (map replaced_row gone) rows_are
      ∙ ap (λ (tariffs : List AcceptedTerms).
      brought_among day tariffs (drop 0 (map replaced_row gone))) (tariffs_are remembers)
      ∙ brought_is day 0
  place_is (CloseOf period) found shows =
      shows
      ∙ ap (λ (closes : List ℤ). option_map (CloseSeen period) (close_of period closes))
      (closes_are remembers)
  place_is (ChoiceOf number) found shows = shows.1 ∙ chosen_is number shows.0
  place_is AdoptionOf found shows =
      shows
      ∙ ap (λ (rulings : Rulings). option_map AdoptionSeen rulings.adopted) remembers.rulings
  place_is (ReplacementOf number) found shows =
      shows (map replaced_row gone) rows_are
      ∙ ap (λ (tariffs : List AcceptedTerms).
      replacement_among number tariffs (map replaced_row gone)) (tariffs_are remembers)
      ∙ replacement_is number
  place_is (CreditOf number) found shows = shows.1 ∙ given_is number shows.0

  act_is : (row : RowAct) (act : ActSeen) → ShowsAct summary row kept act
      → act ≡ row_act naming book.rulings row
  act_is (RulingRow place) act shows =
      shows.2 ∙ ap (RulingDone place) (place_is place shows.0 shows.1)
  act_is (ImportRow reading ending count) act shows = shows

  -- ---- an entry of a number

  -- by its row
  by_row : (number : ℕ) → slice_get (entries_listed naming book.rulings book.journal) number
      ≡ option_map (row_listed naming book.rulings (number + 1))
      (slice_get (journal_rows book.journal) number)
  by_row number =
      let same : 1 + number ≡ number + 1 = omega arith in
      ap (λ list. slice_get list number) (all_listed naming book.rulings book.journal)
      ∙ at_listed naming book.rulings 1 number (journal_rows book.journal)
      ∙ ap (λ n. option_map (row_listed naming book.rulings n)
      (slice_get (journal_rows book.journal) number)) same

  -- behind the last there is none
  pub none_entered : (number last : ℕ) → last ≡ last_number kept.journal → last ≤ number
      → slice_get (entries_listed naming book.rulings book.journal) number ≡ None
  none_entered number last is past =
      let all = last_entered naming book in
      let many = rows-length book.journal in
      by_row number
      ∙ ap (option_map (row_listed naming book.rulings (number + 1)))
      (slice_get_past (journal_rows book.journal) number (omega (arith, is, past, all, many)))

  -- one that is found is that of the list
  pub entry_read : (number : ℕ) (row : JournalRow) (act : ActSeen)
      → Some row ≡ get kept.journal (number + 1) → ShowsAct summary row.act kept act
      → slice_get (entries_listed naming book.rulings book.journal) number
      ≡ Some (record { number = number + 1; note = row.note; act = act })
  entry_read number row act found shows =
      let rows : List JournalRow = journal_rows book.journal in
      let at : get kept.journal (number + 1) ≡ slice_get rows number =
      get-from_entries nat_cmp_total (under_numbers 1 rows) (number + 1)
      ∙ find-numbers 1 (number + 1) number rows (omega arith) in
      by_row number
      ∙ ap (option_map (row_listed naming book.rulings (number + 1))) (sym (found ∙ at))
      ∙ ap {B = Option EntrySeen} (λ act.
      Some (record { number = number + 1; note = row.note; act = act }))
      (sym (act_is row.act act shows))
