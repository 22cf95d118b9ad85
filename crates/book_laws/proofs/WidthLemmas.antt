-- The lines of a statement are equally long, since the office's limits keep each number within its
-- column.
use Rattle.std.proofs.Common.{◌≡◌, ◌∙◌, ℕ, ◌+◌, ◌-◌, ◌/◌, ◌%◌, ◌^◌, ◌<◌, ◌≤◌, List, [], ◌++◌}
use Rattle.std.proofs.Common.{length, map, refl, sym, subst, Option, ℤ, Some, None, Ok, Result}
use Rattle.std.proofs.Common.{arith, length-append, All, codes, replicate, sum_by, decimal, ok_or}
use Rattle.std.proofs.Common.{option_map}
use Rattle.std.proofs.lemmas.Fmt.{length-decimal-le}
use Rattle.std.proofs.lemmas.List.{length-replicate}
use Rattle.std.proofs.lemmas.List.Sums.{sum_by-le}
use Rattle.book_model.proofs.Std.{and_parts, nat_tests, All-map}
use Rattle.smf_text.specs.Day.{day_text_of}
use Rattle.book_model.specs.Words.{IsName, Priced, Book, Naming, IsPriced, Period, Records}
use Rattle.book_model.specs.Words.{charged_at, key_of, AreAmong, keys_of, most_held, period_of}
use Rattle.book_model.specs.Words.{prices, row_at, rows_for, rows_of}
use Rattle.book_model.proofs.Lemmas.{by_key_total, by_key_exact, length-sum_by}
use Rattle.book_laws.proofs.RowSums.{sum_by-rows}
use Rattle.book_core.proofs.ListLimits.{All-members}
use Rattle.report_texts.specs.Columns.{amount_text, digits_in, left_aligned, newline, right_aligned}
use Rattle.report_texts.specs.Columns.{seconds_text}
use Rattle.report_texts.specs.Statements.{heading, key_columns, number_columns, row_line}
use Rattle.report_texts.specs.Statements.{sum_columns, total_line}
use Rattle.table_model.specs.Words.{IsReadable}
use Rattle.table_model.proofs.PriceSums.{all_priced, few_prices, part_within}
use Rattle.book_laws.specs.StatementWidths.{AreAligned, StatementsAreAligned}
use Rattle.book_laws.proofs.Words.{LedgerFault, NoSuchPeriod, ChargeRow, RowKey, held_in}
use Rattle.book_laws.proofs.Words.{some_within}

-- a text that fits fills its column
length-left_aligned : (width : ℕ) (text : List ℕ) → length text ≤ width
    → length (left_aligned width text) ≡ width
length-left_aligned width text fits =
    let blanks : List ℕ = replicate (width - length text) 32 in
    omega (arith, length-append text blanks, length-replicate {A = ℕ} (width - length text) 32)

length-right_aligned : (width : ℕ) (text : List ℕ) → length text ≤ width
    → length (right_aligned width text) ≡ width
length-right_aligned width text fits =
    let blanks : List ℕ = replicate (width - length text) 32 in
    omega (arith, length-append blanks text, length-replicate {A = ℕ} (width - length text) 32)

length-digits : (width number : ℕ) → length (decimal number) ≤ width
    → length (digits_in width number) ≡ width
length-digits width number fits =
    let few = width - length (decimal number) in
    let zeros : List ℕ = replicate few 48 in
    omega (arith, length-append zeros (decimal number), length-replicate {A = ℕ} few 48)

-- a number with decimal places
length-places : (whole width rest digits : ℕ) → length (decimal whole) ≤ digits
    → length (decimal rest) ≤ width
    → length (decimal whole ++ codes "." ++ digits_in width rest) ≤ digits + 1 + width
length-places whole width rest digits few small =
    let places = length-digits width rest small in
    omega (
      arith,
      places,
      length-append (decimal whole) (codes "."),
      length-append (decimal whole ++ codes ".") (digits_in width rest),
    )

length-seconds : (hundredths : ℕ) → hundredths < 10 ^ 18 → length (seconds_text hundredths) ≤ 19
unfolding seconds_text
length-seconds hundredths few =
    length-places (hundredths / 100) 2 (hundredths % 100) 16
    (length-decimal-le 16 (hundredths / 100) (omega arith) (omega arith) (omega arith))
    (length-decimal-le 2 (hundredths % 100) (omega arith) (omega arith) (omega arith))

length-amount : (amount : ℕ) → amount < 10 ^ 19 → length (amount_text amount) ≤ 20
unfolding amount_text
length-amount amount small =
    length-places (amount / 10_000) 4 (amount % 10_000) 15
    (length-decimal-le 15 (amount / 10_000) (omega arith) (omega arith) (omega arith))
    (length-decimal-le 4 (amount % 10_000) (omega arith) (omega arith) (omega arith))

-- three columns with a blank after each
key_cells : (day centre shift : List ℕ) → length day ≡ 10 → length centre ≡ 16 → length shift ≡ 16
    → length (day ++ codes " " ++ centre ++ codes " " ++ shift ++ codes " ") ≡ 45
key_cells day centre shift one two three = simp length-append (omega arith)

-- the columns that say where work is charged
length-key : (day centre shift : List ℕ) → length day ≤ 10 → length centre ≤ 16
    → length shift ≤ 16 → length (key_columns day centre shift) ≡ 45
unfolding key_columns
length-key day centre shift day_fits centre_fits shift_fits =
    key_cells (left_aligned 10 day) (left_aligned 16 centre) (left_aligned 16 shift) (length-left_aligned 10 day day_fits)
    (length-left_aligned 16 centre centre_fits) (length-left_aligned 16 shift shift_fits)

-- numbers that fit their columns
pub record FitColumns (count cpu blocks amount : ℕ) : Type 0 where
  pub count_fits : count < 10 ^ 8
  pub cpu_fits : cpu < 10 ^ 18
  pub blocks_fit : blocks < 10 ^ 18
  pub amount_fits : amount < 10 ^ 19

-- four columns, a blank after each but the last, and the end of the line
number_cells : (count cpu blocks amount : List ℕ) → length count ≡ 8 → length cpu ≡ 19
    → length blocks ≡ 18 → length amount ≡ 21
    → length ((count ++ codes " " ++ cpu ++ codes " " ++ blocks ++ codes " ")
    ++ (amount ++ newline)) ≡ 70
number_cells count cpu blocks amount one two three four = simp length-append (omega arith)

length-numbers : (count cpu blocks amount : ℕ) → FitColumns count cpu blocks amount
    → length (number_columns count cpu blocks amount) ≡ 70
unfolding number_columns
length-numbers count cpu blocks amount fit =
    let few = fit.count_fits in
    let whole = fit.blocks_fit in
    let money = length-amount amount fit.amount_fits in
    number_cells (right_aligned 8 (decimal count)) (right_aligned 19 (seconds_text cpu)) (right_aligned 18 (decimal blocks))
    (right_aligned 21 (amount_text amount))
    (length-right_aligned 8 (decimal count)
    (length-decimal-le 8 count (omega arith) few (omega arith)))
    (length-right_aligned 19 (seconds_text cpu) (length-seconds cpu fit.cpu_fits))
    (length-right_aligned 18 (decimal blocks)
    (length-decimal-le 18 blocks (omega arith) whole (omega arith)))
    (length-right_aligned 21 (amount_text amount) (omega arith))

length-heading : length heading ≡ 115
unfolding key_columns
length-heading = refl

length-day : (day : ℤ) → length (day_text_of day) ≡ 10
unfolding day_text_of
length-day day = refl

length-name : (text : List ℕ) → IsName text → length text ≤ 16
length-name text is = grind (arith, nat_tests, and_parts)

-- prices with sums that fit the columns
abbrev pub FitTogether : List Priced → Type 0
FitTogether priced =
    FitColumns (length priced) (sum_by (λ one. one.cpu) priced) (sum_by (λ one. one.excp) priced)
    (sum_by (λ one. one.amount) priced)

-- then so do sums that are no greater
fit_within : (all some : List Priced) → FitTogether all
    → ((f : Priced → ℕ) → sum_by f some ≤ sum_by f all) → FitTogether some
fit_within all some fit within =
    let ones = length-sum_by some in
    let all_ones = length-sum_by all in
    let count = within (λ _. 1) in
    let cpu = within (λ one. one.cpu) in
    let blocks = within (λ one. one.excp) in
    let amount = within (λ one. one.amount) in
    let few = fit.count_fits in
    let short = fit.cpu_fits in
    let small = fit.blocks_fit in
    let cheap = fit.amount_fits in
    record {
      count_fits = omega arith;
      cpu_fits = omega arith;
      blocks_fit = omega arith;
      amount_fits = omega arith;
    }

-- the names of a row's place fit
record IsPlaced (key : RowKey) : Type 0 where
  centre : length key.centre ≤ 16
  shift : length key.shift ≤ 16

module _ (priced : List Priced) (bounded : All IsPriced priced) (fit : FitTogether priced) where
  -- each place where something is charged has names that fit
  places : All IsPlaced (keys_of priced)
  places =
      let named : All (λ one. IsPlaced (key_of one)) priced = λ k d within.
      let is = bounded k d within in
      record { centre = length-name _ is.centre; shift = length-name _ is.shift } in
      All-members by_key_total by_key_exact IsPlaced (map key_of priced)
      (All-map IsPlaced key_of priced named)

  -- the line of a row
  row_even : (key : RowKey) → IsPlaced key → length (row_line (row_at priced key)) ≡ 115
  row_even key placed =
      let here : List Priced = charged_at priced key in
      let its = fit_within priced here fit (λ f. part_within f _ priced) in
      let row : ChargeRow = row_at priced key in
      let one = length-key (day_text_of row.day) row.centre row.shift
      (subst (λ n. n ≤ 10) (sym (length-day row.day)) (omega arith)) placed.centre placed.shift in
      let two = length-numbers row.count row.cpu row.blocks row.amount its in
      let both = length-append (key_columns (day_text_of row.day) row.centre row.shift)
      (number_columns row.count row.cpu row.blocks row.amount) in
      omega arith

  rows_even : All (λ row. length (row_line row) ≡ 115) (rows_of priced)
  rows_even =
      All-map (λ row. length (row_line row) ≡ 115) (row_at priced) (keys_of priced)
      (λ k d within. row_even _ (places k d within))

  -- the line of the sums
  total_even : length (total_line (rows_of priced)) ≡ 115
  total_even =
      let rows = rows_of priced in
      let count = sum_by-rows (λ row. row.count) (λ _. 1) priced
      (λ key. length-sum_by (charged_at priced key)) ∙ sym (length-sum_by priced) in
      let cpu = sum_by-rows (λ row. row.cpu) (λ one. one.cpu) priced (λ key. refl) in
      let blocks = sum_by-rows (λ row. row.blocks) (λ one. one.excp) priced (λ key. refl) in
      let amount = sum_by-rows (λ row. row.amount) (λ one. one.amount) priced (λ key. refl) in
      let few = fit.count_fits in
      let short = fit.cpu_fits in
      let small = fit.blocks_fit in
      let cheap = fit.amount_fits in
      let numbers = length-numbers (sum_by (λ row. row.count) rows) (sum_by (λ row. row.cpu) rows)
      (sum_by (λ row. row.blocks) rows) (sum_by (λ row. row.amount) rows) (record {
        count_fits = omega arith;
        cpu_fits = omega arith;
        blocks_fit = omega arith;
        amount_fits = omega arith;
      }) in
      let key = length-key (codes "TOTAL") [] [] (omega arith) (omega arith) (omega arith) in
      let both = length-append (key_columns (codes "TOTAL") [] []) (sum_columns rows) in
      omega arith

  pub are_even : AreAligned (rows_of priced)
  are_even = record { above = length-heading; each = rows_even; below = total_even }

-- one answer has one list of rows
abbrev answered : List ChargeRow → Result (List ChargeRow) LedgerFault
answered rows = Ok rows

same_rows : (a b : List ChargeRow) → answered a ≡ answered b → a ≡ b
same_rows a b same = cc

module _ (naming : Naming) (book : Book) (whole : IsReadable naming book) where
  -- what all held records cost fits
  pub held_fit : FitTogether (prices book.rulings book.held)
  held_fit =
      let its : List Priced = prices book.rulings book.held in
      let each = all_priced naming book whole book.held (λ bytes there. there) in
      let few : length its ≤ most_held = few_prices naming book whole in
      let each_cpu : All (λ one. one.cpu ≤ 2 ^ 33) its = λ k d within. (each k d within).cpu in
      let each_excp : All (λ one. one.excp ≤ 2 ^ 32) its =
      λ k d within. let below = (each k d within).excp in omega arith in
      let cpu = sum_by-le (λ one. one.cpu) (2 ^ 33) its each_cpu in
      let blocks = sum_by-le (λ one. one.excp) (2 ^ 32) its each_excp in
      let cost = whole.limits.cost in
      record {
        count_fits = omega arith;
        cpu_fits = omega arith;
        blocks_fit = omega arith;
        amount_fits = omega arith;
      }

  -- so the lines are even of the rows for some of them
  some_even : (some : Records) → AreAmong some book.held → AreAligned (rows_for book.rulings some)
  some_even some among =
      are_even (prices book.rulings some) (all_priced naming book whole some among)
      (fit_within (prices book.rulings book.held) (prices book.rulings some) held_fit
      (λ f. some_within naming book whole f some among))

  -- and of the rows of any period
  period_even : (number : ℕ) (found : Option Period) → period_of book number ≡ found
      → (rows : List ChargeRow)
      → ok_or (option_map (λ period. rows_for book.rulings period.counted) found) NoSuchPeriod
      ≡ Ok rows
      → AreAligned rows
  period_even number None there rows is = cc is
  period_even number (Some period) there rows is =
      subst AreAligned (same_rows (rows_for book.rulings period.counted) rows is)
      (some_even period.counted (held_in naming book whole.sound number period there).counted)

-- the law
pub statements_are_aligned : StatementsAreAligned
statements_are_aligned naming book number rows whole is =
    period_even naming book whole number (period_of book number) refl rows is
