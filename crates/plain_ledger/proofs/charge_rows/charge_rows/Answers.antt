use Rattle.std.proofs.Common.{◌≡◌, ◌∙◌, ℕ, ◌+◌, ◌≤◌, List, refl, sym, ap, take, unwrap_or, arith}
use Rattle.std.proofs.Common.{rules, sum_by}
use Rattle.std.specs.BTreeMap.{values}
use Rattle.std.proofs.lemmas.Result.{IfOk-weaker}
use Rattle.book_model.specs.declared.row.ChargeRow.{ChargeRow}
use Rattle.book_model.specs.declared.row.RowKey.{RowKey}
use Rattle.book_model.specs.Words.{row_at, charged_at, Priced}
use Rattle.book_core.specs.KeyedRows.{with_price}
use Rattle.book_core.proofs.KeyedRowLemmas.{keyed_rows-none, keyed_rows-more, row_so_far}
use Rattle.book_core.proofs.KeyedRowLemmas.{sum_by-charged_at-more, length-charged_at-more}
use Rattle.book_core.proofs.KeyedRowLemmas.{rows_of-keyed_rows}
use Rattle.plain_ledger.proofs.charge_rows.charge_rows.Goals.{After-or_insert-row}
use Rattle.plain_ledger.proofs.charge_rows.charge_rows.Goals as goal

-- the row that was found is that of the prices so far
row_is : (c : After-or_insert-row)
    → c.or_insert-row.result.now
    ≡ row_at (take c.loop-priced.priced-index c.args.prices.now) c.key_of-key.result
row_is c =
    let found = c.or_insert-row.ensures.value
    ∙ ap (λ o. unwrap_or o c.empty_row.result) c.in_ok-rows.ensures.value in
    row_so_far (take c.loop-priced.priced-index c.args.prices.now) c.loop-priced.rows.entries
    c.key_of-key.result c.empty_row.result c.or_insert-row.result.now c.loop-priced.invariant
    c.empty_row.ensures found

pub loop-priced-init : goal.loop-priced-init
loop-priced-init c = c.new-rows.ensures.empty ∙ sym keyed_rows-none

pub overflow_add-row : goal.overflow_add-row
overflow_add-row c =
    let row =
    ap (λ (r : ChargeRow). r.count) (row_is (goal.at.overflow_add-row c).After-or_insert-row) in
    let most =
    length-charged_at-more c.args.prices.now c.loop-priced.priced-index c.key_of-key.result
    c.loop-priced-test.true in
    omega arith

-- with the next price its row sums no more than all prices do
sum_so_far : (c : After-or_insert-row) (of_row : ChargeRow → ℕ) (of_price : Priced → ℕ)
    → ((prices : List Priced) (key : RowKey)
    → of_row (row_at prices key) ≡ sum_by of_price (charged_at prices key))
    → of_row c.or_insert-row.result.now + of_price c.priced-item.result
    ≤ sum_by of_price c.args.prices.now
sum_so_far c of_row of_price summed =
    let row = ap of_row (row_is c)
    ∙ summed (take c.loop-priced.priced-index c.args.prices.now) c.key_of-key.result in
    let most =
    sum_by-charged_at-more of_price c.args.prices.now c.loop-priced.priced-index
    c.priced-item.result c.key_of-key.result c.loop-priced-test.true c.priced-item.is in
    omega arith

pub overflow_add-row-in-loop-priced : goal.overflow_add-row-in-loop-priced
overflow_add-row-in-loop-priced c =
    let at = (goal.at.overflow_add-row-in-loop-priced c).After-or_insert-row in
    let sum = sum_so_far at (λ row. row.cpu) (λ one. one.cpu) (λ prices key. refl) in
    omega (arith, c.requires.cpu)

pub overflow_add-row-in-loop-priced-2 : goal.overflow_add-row-in-loop-priced-2
overflow_add-row-in-loop-priced-2 c =
    let at = (goal.at.overflow_add-row-in-loop-priced-2 c).After-or_insert-row in
    let sum = sum_so_far at (λ row. row.blocks) (λ one. one.excp) (λ prices key. refl) in
    omega (arith, c.requires.blocks)

pub overflow_add-row-in-loop-priced-3 : goal.overflow_add-row-in-loop-priced-3
overflow_add-row-in-loop-priced-3 c =
    let at = (goal.at.overflow_add-row-in-loop-priced-3 c).After-or_insert-row in
    let sum = sum_so_far at (λ row. row.amount) (λ one. one.amount) (λ prices key. refl) in
    omega (arith, c.requires.amount)

pub loop-priced-preserved : goal.loop-priced-preserved
loop-priced-preserved c =
    let row = row_is (goal.at.loop-priced-preserved c).After-or_insert-row in
    let written =
    c.in_ok-rows.ensures.update.1
    (with_price c.or_insert-row.result.now c.priced-item.result) in
    let more =
    keyed_rows-more c.args.prices.now c.loop-priced.priced-index c.priced-item.result
    c.loop-priced.rows.entries c.key_of-key.result c.or_insert-row.result.now
    c.loop-priced-test.true c.priced-item.is c.key_of-key.ensures c.loop-priced.invariant row in
    search (rules, written, more)

pub returns : goal.returns
returns c =
    let all =
    rows_of-keyed_rows c.args.prices.now c.loop-priced.priced-index c.loop-priced.rows.entries
    c.loop-priced-test.false c.loop-priced.invariant in
    IfOk-weaker c.collect.result (λ rows. rows.items ≡ values c.loop-priced.rows) _
    (λ rows is. is ∙ all) (search rules)
