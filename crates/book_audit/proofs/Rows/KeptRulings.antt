-- Credits and replaced tariffs, one after the other: one row more.
use Rattle.std.proofs.Common.{◌≡◌, ◌∙◌, ◌+◌, ◌++◌, ◌∷◌, [], ℕ, List, ap, arith, length, map, sym}
use Rattle.sqlite_value.specs.Order.{Row}
use Rattle.book_model.proofs.Std.{length-map, map-append}
use Rattle.book_model.specs.Words.{Credit, Replaced}
use Rattle.table_model.specs.Tables.{ReplacedRow}
use Rattle.table_model.specs.TablesOf.{replaced_row}
use Rattle.table_model.specs.Words.{under_numbers}
use Rattle.table_model.proofs.UnderNumbers.{one_more}
use Rattle.tree_tables.specs.Columns.{credit_columns, replaced_columns}
use Rattle.book_audit.specs.KeptRulings.{credit_rows, replaced_rows}

pub credits_pushed : (credits : List Credit) (credit : Credit) (count : ℕ) (row : Row)
    → row ≡ credit_columns (count + 1, credit) → count ≡ length credits
    → credit_rows credits ++ row ∷ [] ≡ credit_rows (credits ++ credit ∷ [])
credits_pushed credits credit count row is counted =
    ap (λ r. credit_rows credits ++ r ∷ []) is
    ∙ sym (ap (map credit_columns) (one_more 1 credits credit (count + 1) (omega (arith, counted)))
    ∙ map-append credit_columns (under_numbers 1 credits) ((count + 1, credit) ∷ []))

pub replaced_pushed : (all : List Replaced) (one : Replaced) (count : ℕ) (row : Row)
    → row ≡ replaced_columns (count + 1, replaced_row one) → count ≡ length all
    → replaced_rows all ++ row ∷ [] ≡ replaced_rows (all ++ one ∷ [])
replaced_pushed all one count row is counted =
    let rows : List ReplacedRow = map replaced_row all in
    let long : length rows ≡ length all = length-map all replaced_row in
    ap (λ r. replaced_rows all ++ r ∷ []) is
    ∙ sym (ap (λ some. map replaced_columns (under_numbers 1 some))
    (map-append replaced_row all (one ∷ []))
    ∙ ap (map replaced_columns)
    (one_more 1 rows (replaced_row one) (count + 1) (omega (arith, counted, long)))
    ∙ map-append replaced_columns (under_numbers 1 rows) ((count + 1, replaced_row one) ∷ []))
