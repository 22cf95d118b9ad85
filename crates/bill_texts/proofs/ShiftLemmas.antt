-- Rows by tariff and shift are dated on days, and add up to the rows that they are made of.
use Rattle.std.proofs.Common.{◌≡◌, ◌∙◌, ◌+◌, ◌<◌, ◌^◌, ◌||◌, ℕ, ℤ, true, false, true≢false, All, List}
use Rattle.std.proofs.Common.{[], ◌∷◌, ap, fold, get_or, if◌then◌else◌, int_lt, is_eq, map, refl, subst}
use Rattle.std.proofs.Common.{sum_by, sym}
use Rattle.book_model.proofs.Std.{All-head, All-map, All-tail, eq_by_cmp, fold-map, list_any}
use Rattle.book_model.proofs.Std.{list_any_at, tells_apart, tied_itself}
use Rattle.book_model.specs.declared.bill.BilledTariff.{BilledTariff}
use Rattle.book_model.specs.declared.row.ChargeRow.{ChargeRow}
use Rattle.book_model.specs.declared.row.RowKey.{RowKey}
use Rattle.book_model.specs.Words.{AreRows, IsDay, by_key, row_key, same_key}
use Rattle.book_model.proofs.Lemmas.{any_tied-members, by_key_exact, by_key_total, list_any-map}
use Rattle.book_model.proofs.Lemmas.{sum_by-keys}
use Rattle.book_model.proofs.RowLemmas.{places_distinct, same_key_is, same_key_laws}
use Rattle.bill_texts.specs.ShiftSums.{ShiftsAddUp, begun_by, by_tariff, dated_since, places_of}
use Rattle.bill_texts.specs.ShiftSums.{rows_at, since, sums_at, sums_of}

-- rows that are dated on days
abbrev pub AreDated : List ChargeRow → Type 0
AreDated rows = All (λ (row : ChargeRow). IsDay row.day) rows

-- ---- days

-- what is found of tariffs that begin on days, from a day on, is a day
found_day : (tariffs : List BilledTariff) (day found : ℤ) → IsDay found
    → All (λ (tariff : BilledTariff). IsDay tariff.day) tariffs
    → IsDay (fold (begun_by day) found tariffs)
found_day [] day found is all = is
found_day (first ∷ others) day found is all =
    found_day others day (begun_by day found first)
    (elim (int_lt day first.day) as (λ b. IsDay (if b then found else first.day)) [
      | true ↦ is
      | false ↦ All-head (λ (tariff : BilledTariff). IsDay tariff.day) first others all
    ])
    (All-tail (λ (tariff : BilledTariff). IsDay tariff.day) first others all)

since_day : (tariffs : List BilledTariff) (day : ℤ) → IsDay day
    → All (λ (tariff : BilledTariff). IsDay tariff.day) tariffs → IsDay (since tariffs day)
unfolding since
since_day tariffs day is all = found_day tariffs day day is all

-- so rows that are dated since their tariffs are dated on days
dated_days : (tariffs : List BilledTariff) (rows : List ChargeRow)
    → All (λ (tariff : BilledTariff). IsDay tariff.day) tariffs → AreDated rows
    → AreDated (map (dated_since tariffs) rows)
dated_days tariffs rows all days =
    All-map (λ (row : ChargeRow). IsDay row.day) (dated_since tariffs) rows
    (λ k row within. since_day tariffs (get_or rows k row).day (days k row within) all)

-- a place that some row has is one of a day
place_day : (place : RowKey) (rows : List ChargeRow) → AreDated rows
    → list_any (eq_by_cmp by_key place) (map row_key rows) ≡ true → IsDay place.day
place_day place [] days among = absurd (true≢false (sym among))
place_day place (row ∷ rows) days among =
    elim (eq_by_cmp by_key place (row_key row)) as (λ b. eq_by_cmp by_key place (row_key row) ≡ b
    → (b || list_any (eq_by_cmp by_key place) (map row_key rows)) ≡ true → IsDay place.day) [
      | true ↦ λ tied among.
          subst (λ (key : RowKey). IsDay key.day)
          (sym (tells_apart by_key_exact place (row_key row) tied))
          (All-head (λ (row : ChargeRow). IsDay row.day) row rows days)
      | false ↦ λ other among.
          place_day place rows (All-tail (λ (row : ChargeRow). IsDay row.day) row rows days) among
    ] refl among

sums_days : (rows : List ChargeRow) → AreDated rows → AreDated (sums_of rows)
sums_days rows days =
    let places : List RowKey = places_of rows in
    All-map (λ (row : ChargeRow). IsDay row.day) (sums_at rows) places
    (λ k place within.
    let own : RowKey = get_or places k place in
    let itself : eq_by_cmp by_key own own ≡ true = ap is_eq (tied_itself by_key_total own) in
    let among = list_any_at (eq_by_cmp by_key own) places k place within itself in
    place_day own rows days (sym (any_tied-members by_key_total (map row_key rows) own) ∙ among))

pub by_tariff_days : (tariffs : List BilledTariff) (rows : List ChargeRow)
    → All (λ (tariff : BilledTariff). IsDay tariff.day) tariffs → AreDated rows
    → AreDated (by_tariff tariffs rows)
by_tariff_days tariffs rows all days =
    sums_days (map (dated_since tariffs) rows) (dated_days tariffs rows all days)

-- ---- sums

-- rows that are dated otherwise sum the same
dated_sum : (tariffs : List BilledTariff) (f : ChargeRow → ℕ) (rows : List ChargeRow)
    → ((row : ChargeRow) → f (dated_since tariffs row) ≡ f row)
    → sum_by f (map (dated_since tariffs) rows) ≡ sum_by f rows
dated_sum tariffs f rows same =
    fold-map (λ n row. n + f row) (dated_since tariffs) 0 rows
    ∙ (λ i. sum_by (λ (row : ChargeRow). same row i) rows)

-- so they can be shown
pub dated_shown : (tariffs : List BilledTariff) (rows : List ChargeRow)
    → All (λ (tariff : BilledTariff). IsDay tariff.day) tariffs → AreRows rows
    → AreRows (map (dated_since tariffs) rows)
dated_shown tariffs rows all are = record {
  days = dated_days tariffs rows all are.days;
  count = subst (λ n. n < 2 ^ 64)
      (sym (dated_sum tariffs (λ row. row.count) rows (λ row. refl))) are.count;
  cpu = subst (λ n. n < 2 ^ 64)
      (sym (dated_sum tariffs (λ row. row.cpu) rows (λ row. refl))) are.cpu;
  blocks = subst (λ n. n < 2 ^ 64)
      (sym (dated_sum tariffs (λ row. row.blocks) rows (λ row. refl))) are.blocks;
  amount = subst (λ n. n < 2 ^ 64)
      (sym (dated_sum tariffs (λ row. row.amount) rows (λ row. refl))) are.amount;
}

-- what the rows of places sum is what all rows do
placed_sum : (f : ChargeRow → ℕ) (rows : List ChargeRow)
    → ((place : RowKey) → f (sums_at rows place) ≡ sum_by f (rows_at rows place))
    → sum_by f (sums_of rows) ≡ sum_by f rows
placed_sum f rows each =
    let places : List RowKey = places_of rows in
    fold-map (λ n row. n + f row) (sums_at rows) 0 places
    ∙ (λ i. sum_by (λ place. each place i) places)
    ∙ sum_by-keys same_key_laws places (places_distinct (map row_key rows)) row_key f rows
    (λ one among.
    (λ i. list_any (same_key_is i (row_key one)) places)
    ∙ any_tied-members by_key_total (map row_key rows) (row_key one)
    ∙ (λ i. list_any (sym same_key_is i (row_key one)) (map row_key rows))
    ∙ list_any-map (same_key (row_key one)) row_key rows
    ∙ among)

both : (tariffs : List BilledTariff) (f : ChargeRow → ℕ) (rows : List ChargeRow)
    → ((all : List ChargeRow) (place : RowKey) → f (sums_at all place) ≡ sum_by f (rows_at all place))
    → ((row : ChargeRow) → f (dated_since tariffs row) ≡ f row)
    → sum_by f (by_tariff tariffs rows) ≡ sum_by f rows
both tariffs f rows each same =
    let dated : List ChargeRow = map (dated_since tariffs) rows in
    placed_sum f dated (each dated) ∙ dated_sum tariffs f rows same

-- the law
pub shifts_add_up : ShiftsAddUp
shifts_add_up tariffs rows = record {
  count = both tariffs (λ row. row.count) rows (λ all place. refl) (λ row. refl);
  cpu = both tariffs (λ row. row.cpu) rows (λ all place. refl) (λ row. refl);
  blocks = both tariffs (λ row. row.blocks) rows (λ all place. refl) (λ row. refl);
  amount = both tariffs (λ row. row.amount) rows (λ all place. refl) (λ row. refl);
}
