-- Each table as a map with its entries in the rows of its tree.
use Rattle.std.proofs.Common.{◌≡◌, ℕ, ℤ, pos, List, [], ◌∷◌, ◌++◌, Bool, Option, refl, ap₂}
use Rattle.std.proofs.Common.{◌∙◌}
use Rattle.std.specs.Cmp.{nat_cmp_total}
use Rattle.std.specs.Cmp.{IsTotalOrder}
use Rattle.std.specs.FinMap.{get, IsAntisymmetric, int_cmp-IsAntisymmetric, nat_cmp-IsAntisymmetric}
use Rattle.std.specs.Ordering.{int_cmp, nat_cmp, ordering_then}
use Rattle.std.proofs.lemmas.Cmp.{nat_list_cmp_total, int_cmp_total}
use Rattle.std.proofs.lemmas.Map.Lookups.{exact_bytes}
use Rattle.sqlite_value.proofs.OrderLemmas.{value_cmp-Blob, value_cmp-Int, value_cmp-Text}
use Rattle.sqlite_value.proofs.OrderLemmas.{then-Equal}
use Rattle.sqlite_value.specs.Order.{Row, row_cmp}
use Rattle.sqlite_value.specs.declared.value.Value.TheVariants.{Blob, Int, Text}
use Rattle.book_model.specs.Words.{Credit, by_bytes, by_key}
use Rattle.book_model.specs.declared.detail.Detail.{Detail}
use Rattle.book_model.specs.declared.row.ChargeRow.{ChargeRow}
use Rattle.book_model.specs.declared.row.RowKey.{RowKey}
use Rattle.book_model.proofs.RowLemmas.{by_key_total, by_key_exact}
use Rattle.table_model.specs.PeriodRows.{by_period}
use Rattle.table_model.specs.Tables.{CameTable, ChoiceRow, JournalRow, RecordRow}
use Rattle.table_model.specs.Tables.{ReplacedRow}
use Rattle.table_model.proofs.NumberedLemmas.{by_period_total, by_period_exact}
use Rattle.tree_rows.specs.Indexes.{by_both, by_mark}
use Rattle.tree_rows.specs.Layouts.{Layout}
use Rattle.tree_rows.proofs.IndexOrders.{by_both_total, by_both_exact, by_mark_total, by_mark_exact}
use Rattle.tree_rows.proofs.IndexOrders.{by_bytes_exact, parts_exact, parts_total}
use Rattle.tree_tables.specs.Columns.{came_columns, flag, tariff_value, day_key_columns}
use Rattle.tree_tables.specs.Columns.{detail_columns, step_value}
use Rattle.tree_tables.specs.JournalColumns.{act_columns, note_columns}
use Rattle.tree_tables.specs.Holds.{by_chosen, by_shown, by_work}
use Rattle.tree_tables.proofs.DetailOrders.{by_shown_exact, by_shown_total, by_step, in_turn}
pub use Rattle.tree_tables.proofs.DetailOrders.{numbers}

-- tariffs by their first days
abbrev pub tariff_layout : Layout ℤ (Option (List ℕ)) int_cmp
tariff_layout = record {
  key = λ day. Int day ∷ [];
  rest = λ day text. tariff_value text ∷ [];
  total = int_cmp_total;
  exact = int_cmp-IsAntisymmetric;
  alike = λ k l. refl;
  ordered = λ k l. then-Equal _ ∙ value_cmp-Int k l;
}

-- closes by their periods
abbrev pub closed_layout : Layout ℕ ℤ nat_cmp
closed_layout = record {
  key = λ period. Int (pos period) ∷ [];
  rest = λ period day. Int day ∷ [];
  total = nat_cmp_total;
  exact = nat_cmp-IsAntisymmetric;
  alike = λ k l. refl;
  ordered = λ k l. then-Equal _ ∙ value_cmp-Int (pos k) (pos l) ∙ numbers k l;
}

-- records by their names, and by the entries by which they came
abbrev pub record_layout : CameTable → Layout (List ℕ) RecordRow by_bytes
record_layout came = record {
  key = λ name. Blob name ∷ [];
  rest = λ name row. Blob row.identity ∷ Blob row.data_bytes ∷ Int row.priced.day
      ∷ Text row.priced.shift ∷ Text row.priced.centre ∷ Int (pos row.priced.cpu)
      ∷ Int (pos row.priced.excp) ∷ Int (pos row.priced.amount) ∷ Int (pos (flag row.charged))
      ∷ Int (pos (flag row.posted)) ∷ came_columns (get came name);
  total = nat_list_cmp_total;
  exact = exact_bytes;
  alike = λ k l. refl;
  ordered = λ k l. then-Equal _ ∙ value_cmp-Blob k l;
}

-- places within a period compare as their columns do
pub by_place : (k l : RowKey)
    → ordering_then (int_cmp k.day l.day) (ordering_then (by_bytes k.centre l.centre)
    (by_bytes k.shift l.shift)) ≡ by_key k l
by_place k l = refl

-- charge rows by their periods and places
abbrev pub day_layout : Layout (ℕ × RowKey) ChargeRow (by_period by_key)
day_layout = record {
  key = day_key_columns;
  rest = λ place row. Int (pos row.count) ∷ Int (pos row.cpu) ∷ Int (pos row.blocks)
      ∷ Int (pos row.amount) ∷ [];
  total = by_period_total by_key by_key_total;
  exact = by_period_exact by_key by_key_exact;
  alike = λ k l. refl;
  ordered = λ k l. ap₂ ordering_then (value_cmp-Int (pos k.0) (pos l.0) ∙ numbers k.0 l.0)
      (ap₂ ordering_then (value_cmp-Int k.1.day l.1.day)
      (ap₂ ordering_then (value_cmp-Text k.1.centre l.1.centre)
      (then-Equal _ ∙ value_cmp-Text k.1.shift l.1.shift)) ∙ by_place k.1 l.1);
}

-- lines by their periods and the names of their records
abbrev pub line_layout : Layout (ℕ × List ℕ) Bool (by_period by_bytes)
line_layout = record {
  key = λ place. Int (pos place.0) ∷ Blob place.1 ∷ [];
  rest = λ place plus. Int (pos (flag plus)) ∷ [];
  total = by_period_total by_bytes nat_list_cmp_total;
  exact = by_period_exact by_bytes exact_bytes;
  alike = λ k l. refl;
  ordered = λ k l. ap₂ ordering_then (value_cmp-Int (pos k.0) (pos l.0) ∙ numbers k.0 l.0)
      (then-Equal _ ∙ value_cmp-Blob k.1 l.1);
}

-- choices by their numbers
abbrev pub choice_layout : Layout ℕ ChoiceRow nat_cmp
choice_layout = record {
  key = λ number. Int (pos number) ∷ [];
  rest = λ number choice.
      Blob choice.name ∷ Int (pos choice.period) ∷ Int (pos (flag choice.counts)) ∷ [];
  total = nat_cmp_total;
  exact = nat_cmp-IsAntisymmetric;
  alike = λ k l. refl;
  ordered = λ k l. then-Equal _ ∙ value_cmp-Int (pos k) (pos l) ∙ numbers k l;
}

-- credits by their numbers
abbrev pub credit_layout : Layout ℕ Credit nat_cmp
credit_layout = record {
  key = λ number. Int (pos number) ∷ [];
  rest = λ number credit.
      Int (pos credit.period) ∷ Text credit.centre ∷ Int credit.amount ∷ Text credit.reason ∷ [];
  total = nat_cmp_total;
  exact = nat_cmp-IsAntisymmetric;
  alike = λ k l. refl;
  ordered = λ k l. then-Equal _ ∙ value_cmp-Int (pos k) (pos l) ∙ numbers k l;
}

-- tariffs that were replaced by their numbers
abbrev pub replaced_layout : Layout ℕ ReplacedRow nat_cmp
replaced_layout = record {
  key = λ number. Int (pos number) ∷ [];
  rest = λ number row. Int row.day ∷ Int (pos row.period) ∷ tariff_value row.text ∷ [];
  total = nat_cmp_total;
  exact = nat_cmp-IsAntisymmetric;
  alike = λ k l. refl;
  ordered = λ k l. then-Equal _ ∙ value_cmp-Int (pos k) (pos l) ∙ numbers k l;
}

-- entries of the journal by their numbers
abbrev pub journal_layout : Layout ℕ JournalRow nat_cmp
journal_layout = record {
  key = λ number. Int (pos number) ∷ [];
  rest = λ number row. note_columns row.note ++ act_columns row.act;
  total = nat_cmp_total;
  exact = nat_cmp-IsAntisymmetric;
  alike = λ k l. refl;
  ordered = λ k l. then-Equal _ ∙ value_cmp-Int (pos k) (pos l) ∙ numbers k l;
}

-- names that choices name, and the numbers of the choices, are ordered
pub by_chosen_total : IsTotalOrder by_chosen
by_chosen_total = parts_total nat_list_cmp_total nat_cmp_total

pub by_chosen_exact : IsAntisymmetric by_chosen
by_chosen_exact = parts_exact by_bytes_exact nat_cmp-IsAntisymmetric

-- the names of chosen records with the numbers of the choices, which are in keys alone
abbrev pub choice_name_layout : Layout (List ℕ × ℕ) (Unit {0}) by_chosen
choice_name_layout = record {
  key = λ place. Blob place.0 ∷ Int (pos place.1) ∷ [];
  rest = λ key nothing. [];
  total = by_chosen_total;
  exact = by_chosen_exact;
  alike = λ k l. refl;
  ordered = λ k l. ap₂ ordering_then (value_cmp-Blob k.0 l.0)
      (then-Equal _ ∙ value_cmp-Int (pos k.1) (pos l.1) ∙ numbers k.1 l.1);
}

-- identities with the names that have them, which are in keys alone
abbrev pub identity_layout : Layout (List ℕ × List ℕ) (Unit {0}) by_both
identity_layout = record {
  key = λ pair. Blob pair.0 ∷ Blob pair.1 ∷ [];
  rest = λ key nothing. [];
  total = by_both_total;
  exact = by_both_exact;
  alike = λ k l. refl;
  ordered = λ k l. ap₂ ordering_then (value_cmp-Blob k.0 l.0)
      (then-Equal _ ∙ value_cmp-Blob k.1 l.1);
}

-- marks with the identities and names of the records that have them, likewise
abbrev pub mark_layout : Layout (ℕ × (List ℕ × List ℕ)) (Unit {0}) by_mark
mark_layout = record {
  key = λ place. Int (pos place.0) ∷ Blob place.1.0 ∷ Blob place.1.1 ∷ [];
  rest = λ key nothing. [];
  total = by_mark_total;
  exact = by_mark_exact;
  alike = λ k l. refl;
  ordered = λ k l. ap₂ ordering_then (value_cmp-Int (pos k.0) (pos l.0) ∙ numbers k.0 l.0)
      (ap₂ ordering_then (value_cmp-Blob k.1.0 l.1.0)
      (then-Equal _ ∙ value_cmp-Blob k.1.1 l.1.1));
}

-- the columns of details after those of a place, a time and a name
abbrev pub work_columns : Detail → Row
work_columns detail =
    Blob detail.job ∷ Blob detail.program ∷ Blob detail.job_id ∷ step_value detail.step
    ∷ Int (pos detail.priced.cpu) ∷ Int (pos detail.priced.excp)
    ∷ Int (pos detail.priced.amount) ∷ []

-- what details show of the work compares as its columns do
work_order : (k l : Detail)
    → row_cmp (work_columns k) (work_columns l) ≡ by_work k l
work_order k l =
    ap₂ ordering_then (value_cmp-Blob k.job l.job)
    (ap₂ ordering_then (value_cmp-Blob k.program l.program)
    (ap₂ ordering_then (value_cmp-Blob k.job_id l.job_id)
    (ap₂ ordering_then (by_step k.step l.step)
    (ap₂ ordering_then (value_cmp-Int (pos k.priced.cpu) (pos l.priced.cpu)
    ∙ numbers k.priced.cpu l.priced.cpu)
    (ap₂ ordering_then (value_cmp-Int (pos k.priced.excp) (pos l.priced.excp)
    ∙ numbers k.priced.excp l.priced.excp)
    (then-Equal _ ∙ value_cmp-Int (pos k.priced.amount) (pos l.priced.amount)
    ∙ numbers k.priced.amount l.priced.amount))))))

-- so details compare as their columns do
pub detail_order : (k l : Detail)
    → row_cmp (detail_columns (k, tt)) (detail_columns (l, tt)) ≡ by_shown k l
detail_order k l =
    ap₂ ordering_then (value_cmp-Int k.priced.day l.priced.day)
    (ap₂ ordering_then (value_cmp-Text k.priced.centre l.priced.centre)
    (ap₂ ordering_then (value_cmp-Text k.priced.shift l.priced.shift)
    (ap₂ ordering_then (value_cmp-Int (pos k.time) (pos l.time) ∙ numbers k.time l.time)
    (ap₂ ordering_then (value_cmp-Blob k.name l.name) (work_order k l)))))
    ∙ in_turn (int_cmp k.priced.day l.priced.day) (by_bytes k.priced.centre l.priced.centre)
    (by_bytes k.priced.shift l.priced.shift) (nat_cmp k.time l.time) (by_bytes k.name l.name)
    (by_work k l)

-- details, which are in keys alone
abbrev pub detail_layout : Layout Detail (Unit {0}) by_shown
detail_layout = record {
  key = λ detail. detail_columns (detail, tt);
  rest = λ key nothing. [];
  total = by_shown_total;
  exact = by_shown_exact;
  alike = λ k l. refl;
  ordered = λ k l. detail_order k l;
}
