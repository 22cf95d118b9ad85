-- The rows of the tariffs, the closes and the choices, as a list of each.
use Rattle.std.specs.Prelude.{◌≡◌, ◌+◌, ◌∷◌, [], ℕ, ℤ, All, List, None, Ok, Some, length, map}
use Rattle.std.specs.Prelude.{int_lt, true, IsUtf8}
use Rattle.sqlite_value.specs.Order.{Row}
use Rattle.book_model.specs.Std.{AllByRecursion, last_or, IsStrictlySortedBy, option_map_or}
use Rattle.book_model.specs.Std.{int_cmp}
use Rattle.book_model.specs.Words.{AcceptedTerms, IsDay, Terms, terms_in}
use Rattle.table_model.specs.Words.{IsTexted, close_entries, tariff_entries}
use Rattle.tree_tables.specs.Columns.{book_columns, closed_columns, tariff_columns}
use Rattle.tree_tables.specs.Stored.{close_entry}
use Rattle.tree_tables.specs.declared.closed_rows.Close.{Close}
use Rattle.book_audit.specs.Rules.{rule_of}
use Rattle.book_audit.specs.Walks.{AreRising}
use Rattle.book_audit.specs.declared.finding.Tree.TheVariants.{Tariffs}
use Rattle.book_audit.specs.declared.rulings.BookRow.{BookRow}

-- A close is the next one after those of these days: of the next period, through a later day.
pub record IsNextClose (days : List ℤ) (close : Close) : Type 0 where
  pub period : close.period ≡ length days + 1
  pub later : option_map_or (λ last. int_lt last close.through) (last_or None days) true ≡ true
  pub day : IsDay close.through

-- a row is that of the next close after those of these days, which is through this day
pub record IsCloseRow (days : List ℤ) (row : Row) (day : ℤ) : Type 0 where
  pub close : Close
  pub is : row ≡ closed_columns (close_entry close)
  pub next : IsNextClose days close
  pub through : day ≡ close.through

-- the rows are those of closes through these days: from period 1 on, each later than the one before
pub record AreClosed (rows : List Row) (days : List ℤ) : Type 0 where
  pub are : rows ≡ map closed_columns (close_entries 1 days)
  pub valid : All IsDay days
  pub in_order : IsStrictlySortedBy int_cmp days

-- a row is that of the book: its number, its rule with the period of adoption, and its two sums
pub record IsBookRow (row : Row) (book : BookRow) : Type 0 where
  pub rule : ℕ
  pub adopted : ℕ
  pub are : row ≡ book_columns (record {
    rule = rule;
    adopted = adopted;
    held = book.held;
    amount = book.amount;
  })
  pub known : rule_of rule adopted ≡ Some book.rule

-- the one row
pub record HasOneRow (rows : List Row) (book : BookRow) : Type 0 where
  pub row : Row
  pub one : rows ≡ row ∷ []
  pub is : IsBookRow row book

-- a row is that of a tariff: it has the first day, and a text of characters that says the terms
pub record IsTariffIn (row : Row) (terms : Terms) : Type 0 where
  pub text : List ℕ
  pub is : row ≡ tariff_columns (terms.effective, Some text)
  pub characters : IsUtf8 text
  pub said : terms_in text ≡ Ok terms
  pub day : IsDay terms.effective

-- The rows are those of tariffs, each with a text of characters that says its terms, under its first
-- day, in the order of the days.
pub record AreTariffs (rows : List Row) (tariffs : List Terms) : Type 0 where
  pub accepted : List AcceptedTerms
  pub are : rows ≡ map tariff_columns (tariff_entries accepted)
  pub terms : map (λ tariff. tariff.terms) accepted ≡ tariffs
  pub texts : AllByRecursion IsTexted accepted
  pub rising : AreRising Tariffs rows
