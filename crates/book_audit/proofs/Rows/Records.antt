-- The rows of records that are right, one after the other, and the charge rows that are due for them.
use Rattle.std.proofs.Common.{◌≡◌, ◌≤◌, ◌+◌, ◌∙◌, ◌++◌, ◌∷◌, [], ℕ, List, map, ap, refl, sym, arith}
use Rattle.std.proofs.Common.{append-nil, append_assoc, length-append, ◌<◌, ℤ, take, get_or, length}
use Rattle.std.proofs.Common.{take_all}
use Rattle.sqlite_trees.specs.Tree.{Trees}
use Rattle.sqlite_trees.proofs.ListLemmas.{all-append}
use Rattle.sqlite_value.specs.Order.{Row}
use Rattle.book_model.proofs.Std.{map-append, take_more, sum_by-append}
use Rattle.book_model.specs.Words.{Priced, most_cost, rows_of}
use Rattle.book_model.specs.declared.row.ChargeRow.{ChargeRow}
use Rattle.book_model.specs.declared.row.RowKey.{RowKey}
use Rattle.book_core.specs.Words.{keyed_rows}
use Rattle.book_core.proofs.KeyedRowLemmas.{rows_of-keyed_rows}
use Rattle.consistent_tables.specs.DueRows.{due_entry}
use Rattle.tree_tables.specs.Columns.{day_columns}
use Rattle.book_audit.specs.Came.{TakesOne, came_one, due_by}
use Rattle.book_audit.specs.Records.{AreEntries, Counts, IsRight, Takes, TellsRight, Told, came_by}
use Rattle.book_audit.specs.Records.{counted_price, counted_prices, told_row}
use Rattle.book_audit.specs.declared.rulings.Rulings.{Rulings}

pub none_yet : (trees : Trees) (rulings : Rulings) → AreEntries trees rulings 0 0 []
none_yet trees rulings =
    record { right = tt; past = tt; counted = refl; summed = refl; within = omega arith }

-- one more row
pub entries_pushed : (trees : Trees) (rulings : Rulings) (count amount next : ℕ)
    (entries : List Told) (told : Told) → AreEntries trees rulings count amount entries
    → IsRight trees rulings told.0 → TellsRight trees rulings.closes.items told
    → next ≡ amount + told.0.1.priced.amount → next ≤ most_cost
    → AreEntries trees rulings (count + 1) next (entries ++ told ∷ [])
entries_pushed trees rulings count amount next entries told so_far right past is within =
    let counted = so_far.counted in
    let summed = so_far.summed in
    let long = length-append entries (told ∷ []) in
    let cost = sum_by-append (λ (one : Told). one.0.1.priced.amount) entries (told ∷ []) in
    record {
      right = all-append (λ (one : Told). IsRight trees rulings one.0) entries (told ∷ [])
          so_far.right (right, tt);
      past = all-append (TellsRight trees rulings.closes.items) entries (told ∷ []) so_far.past
          (past, tt);
      counted = omega (arith, counted, long);
      summed = omega (arith, is, summed, cost);
      within = within;
    }

-- and its row
pub row_pushed : (entries : List Told) (told : Told) (row : Row) → row ≡ told_row told
    → map told_row entries ++ row ∷ [] ≡ map told_row (entries ++ told ∷ [])
row_pushed entries told row is =
    ap (λ r. map told_row entries ++ r ∷ []) is ∙ sym (map-append told_row entries (told ∷ []))

-- by which entries records came, with one more record
came_pushed : (number : ℕ) (entries : List Told) (told : Told)
    → came_by number (entries ++ told ∷ []) ≡ came_by number entries + came_one number told.2
came_pushed number [] told = refl
came_pushed number (first ∷ entries) told =
    ap (λ n. n + came_one number first.2) (came_pushed number entries told)
    ∙ turned (came_by number entries) (came_one number told.2) (came_one number first.2)
  where
    turned : (a b c : ℕ) → (a + b) + c ≡ (a + c) + b
    turned a b c = omega arith

-- before any record all are due,
pub takes_none : (due : List ℕ) → Takes due due []
takes_none due number = omega arith

-- and with one more record those of that are due no more
pub takes_on : (old mid new : List ℕ) (entries : List Told) (told : Told) → Takes old mid entries
    → TakesOne mid new told.2 → Takes old new (entries ++ told ∷ [])
takes_on old mid new entries told before after number =
    before number ∙ ap (λ n. n + came_by number entries) (after number)
    ∙ turned (due_by new number) (came_one number told.2) (came_by number entries)
    ∙ ap (λ n. due_by new number + n) (sym (came_pushed number entries told))
  where
    turned : (a b c : ℕ) → (a + b) + c ≡ a + (c + b)
    turned a b c = omega arith

-- what is counted with one more record
prices_pushed : (entries : List Told) (told : Told)
    → counted_prices (entries ++ told ∷ []) ≡ counted_prices entries ++ counted_price told.1 told.0.1.priced
prices_pushed [] told = append-nil (counted_price told.1 told.0.1.priced)
prices_pushed (first ∷ entries) told =
    ap (λ more. counted_price first.1 first.0.1.priced ++ more) (prices_pushed entries told)
    ∙ sym (append_assoc (counted_price first.1 first.0.1.priced) (counted_prices entries) (counted_price told.1 told.0.1.priced))

-- rows of places that count some records count those and one more
pub counts_on : (old mid new : List (RowKey × ChargeRow)) (entries : List Told) (told : Told)
    → Counts old mid (counted_prices entries) → Counts mid new (counted_price told.1 told.0.1.priced)
    → Counts old new (counted_prices (entries ++ told ∷ []))
counts_on old mid new entries told before after prices kept =
    after (prices ++ counted_prices entries) (before prices kept)
    ∙ ap keyed_rows (append_assoc prices (counted_prices entries) (counted_price told.1 told.0.1.priced)
    ∙ ap (λ more. prices ++ more) (sym (prices_pushed entries told)))

pub counts_none : (rows : List (RowKey × ChargeRow)) → Counts rows rows []
counts_none rows prices kept = kept ∙ ap keyed_rows (sym (append-nil prices))

-- one row more
pub due_pushed : (closes : List ℤ) (due : List ChargeRow) (i : ℕ) (one : ChargeRow) (row : Row)
    → i < length due → one ≡ get_or due i one → row ≡ day_columns (due_entry closes one)
    → map day_columns (map (due_entry closes) (take i due)) ++ row ∷ []
    ≡ map day_columns (map (due_entry closes) (take (i + 1) due))
due_pushed closes due i one row inside is shows =
    let so_far : List Row = map day_columns (map (due_entry closes) (take i due)) in
    ap (λ (r : Row). so_far ++ r ∷ []) (shows ∙ ap (λ (x : ChargeRow). day_columns (due_entry closes x)) is)
    ∙ sym (map-append day_columns (map (due_entry closes) (take i due)) (due_entry closes (get_or due i one) ∷ []))
    ∙ ap (map day_columns) (sym (map-append (due_entry closes) (take i due) (get_or due i one ∷ [])))
    ∙ ap (λ (xs : List ChargeRow). map day_columns (map (due_entry closes) xs))
    (sym (take_more due i one inside))

-- the rows of places are those of the records that they count
pub rows_counted : (prices : List Priced) (rows : List (RowKey × ChargeRow)) → rows ≡ keyed_rows prices
    → map (λ (entry : RowKey × ChargeRow). entry.1) rows ≡ rows_of prices
rows_counted prices rows kept =
    rows_of-keyed_rows prices (length prices) rows (omega arith)
    (kept ∙ ap keyed_rows (sym (take_all (length prices) prices (omega arith))))
