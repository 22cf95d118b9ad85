-- Consistent tables are the tables of the book that they determine: what follows from rows, lines and
-- closes is the same for tables that have the same of these, and so is all else.
use Rattle.std.proofs.Common.{◌≡◌, ◌∙◌, ℕ, zero, suc, ◌+◌, ◌-◌, List, Bool, ap, length, map, not}
use Rattle.std.proofs.Common.{refl, sym, filter}
use Rattle.std.specs.FinMap.{entries, from_entries, get, values}
use Rattle.std.specs.Option.{option_map_or}
use Rattle.book_model.specs.Words.{Naming, rows_of}
use Rattle.table_model.specs.DisputesRead.{NamedRow}
use Rattle.table_model.specs.Tables.{ClosedTable, Tables}
use Rattle.table_model.specs.BookIn.{book_in}
use Rattle.table_model.specs.TablesOf.{tables_of}
use Rattle.consistent_tables.specs.Consistent.{AreConsistent, charged_back, counted_entries}
use Rattle.consistent_tables.specs.Consistent.{is_counted_row, periods_after}
use Rattle.consistent_tables.specs.DueRows.{due_entry, period_from}
use Rattle.consistent_tables.specs.Laws.{ConsistentAreTables}
use Rattle.consistent_tables.proofs.JournalTable.{came_are, journal_are}
use Rattle.consistent_tables.proofs.LineTable.{lines_are}
use Rattle.consistent_tables.proofs.ReadableBook.{as_many, consistent_are_readable, cost_is}
use Rattle.consistent_tables.proofs.ReadableTables.{readable_are_consistent}
use Rattle.consistent_tables.proofs.RecordTable.{choices_are, records_are}
use Rattle.consistent_tables.proofs.RuledTables.{closes_are, credits_are, own_rule, replaced_are}
use Rattle.consistent_tables.proofs.RuledTables.{tariffs_are}

module _ (one other : Tables) (closes : one.closes ≡ other.closes)
    (records : one.records ≡ other.records) (lines : one.lines ≡ other.lines) where
  -- what was charged,
  same_back : (name : List ℕ) (k : ℕ) (now : Bool)
      → charged_back one name k now ≡ charged_back other name k now
  same_back name zero now = refl
  same_back name (suc k) now =
      λ i. option_map_or not (get (lines i) (length (values (closes i)) + 1 - k, name))
      (same_back name k now i)

  -- which rows are counted,
  same_test : (entry : NamedRow) → is_counted_row one entry ≡ is_counted_row other entry
  same_test entry =
      same_back entry.0 (periods_after one entry.1) entry.1.charged
      ∙ ap (λ (closes : ClosedTable). charged_back other entry.0
      (length (values closes) + 1 - period_from 1 (values closes) entry.1.priced.day)
      entry.1.charged) closes

  same_rows : counted_entries one ≡ counted_entries other
  same_rows = λ i. filter (λ entry. same_test entry i) (entries (records i))

  module _ (naming : Naming) (of_one : AreConsistent naming one)
      (of_other : AreConsistent naming other) where
    -- so are the charge rows and the names that are counted
    pub same_days : one.days ≡ other.days
    same_days =
        of_one.days
        ∙ (λ i. from_entries (map (due_entry (values (closes i)))
        (rows_of (map (λ (entry : NamedRow). entry.1.priced) (same_rows i)))))
        ∙ sym of_other.days

    pub same_names : one.counted ≡ other.counted
    same_names =
        of_one.counted
        ∙ (λ i. from_entries (map {B = List ℕ × Unit {0}} (λ (entry : NamedRow). (entry.0, tt))
        (same_rows i)))
        ∙ sym of_other.counted

module _ (naming : Naming) (tables : Tables) (whole : AreConsistent naming tables) where
  abbrev made : Tables
  made = tables_of naming (book_in tables)

  -- the row of the book
  row_is : tables.book ≡ made.book
  row_is =
      let rule = own_rule tables tables.book whole.rule in
      let held = whole.held ∙ as_many naming tables whole in
      let amount = whole.amount ∙ cost_is naming tables whole in
      λ i. record { rule = rule.0 i; adopted = rule.1 i; held = held i; amount = amount i }

  -- charge rows and counted names follow from the others, since the tables of the book are consistent
  -- too
  all_are : tables ≡ made
  all_are =
      let closes = closes_are naming tables whole in
      let records = records_are naming tables whole in
      let lines = lines_are naming tables whole in
      let also = readable_are_consistent naming (book_in tables)
      (consistent_are_readable.books naming tables whole)
      (consistent_are_readable.journals naming tables whole) in
      let days = same_days tables made closes records lines naming whole also in
      let counted = same_names tables made closes records lines naming whole also in
      λ i. record {
        book = row_is i;
        tariffs = tariffs_are naming tables whole i;
        closes = closes i;
        choices = choices_are naming tables whole i;
        credits = credits_are naming tables whole i;
        replaced = replaced_are naming tables whole i;
        records = records i;
        days = days i;
        lines = lines i;
        counted = counted i;
        journal = journal_are naming tables whole i;
        came = came_are naming tables whole i;
      }

-- the law
pub consistent_are_tables : ConsistentAreTables
consistent_are_tables naming tables whole = all_are naming tables whole
