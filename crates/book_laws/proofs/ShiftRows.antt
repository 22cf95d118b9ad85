-- The rows of a bill by tariff and shift are those of its details, each dated on the first day of its
-- tariff.
use Rattle.std.proofs.Common.{◌≡◌, ◌∙◌, ◌+◌, ℕ, Bool, List, cond, map, refl, sum_by, sym}
use Rattle.book_model.proofs.Std.{eq_by_cmp, fold-map, list_any}
use Rattle.book_model.specs.declared.bill.BilledTariff.{BilledTariff}
use Rattle.book_model.specs.declared.detail.Detail.{Detail}
use Rattle.book_model.specs.Words.{Priced, by_key, charged_at, key_of, keys_of, row_at, row_key}
use Rattle.book_model.specs.Words.{same_key, work_rows}
use Rattle.book_model.proofs.Lemmas.{any_tied-members, by_key_exact, by_key_total, length-sum_by}
use Rattle.book_model.proofs.Lemmas.{list_any-map, sum_by-filter}
use Rattle.book_model.proofs.SetLemmas.{any-members}
use Rattle.bill_texts.specs.ShiftSums.{dated_since, places_of, rows_at, since, sums_at}
use Rattle.book_laws.proofs.RowSums.{sum_by-some_rows}
use Rattle.book_laws.proofs.Words.{ChargeRow, RowKey}

module _ (tariffs : List BilledTariff) (details : List Detail) where
  -- what a detail costs, and what it costs as if it were dated on the first day of its tariff
  abbrev plain : Detail → Priced
  plain detail = detail.priced

  abbrev moved : Detail → Priced
  moved detail = record detail.priced { day = since tariffs detail.priced.day }

  -- a place, as if it were of the first day of its tariff
  abbrev moved_place : RowKey → RowKey
  moved_place key = record key { day = since tariffs key.day }

  abbrev prices : List Priced
  prices = map plain details

  -- their rows, each dated so
  abbrev dated : List ChargeRow
  dated = map (dated_since tariffs) (work_rows details)

  -- what rows sum at a place is what the details do
  sum_moved : (g : ChargeRow → ℕ) (f : Priced → ℕ) (place : RowKey)
      → ((priced : List Priced) (key : RowKey) → g (row_at priced key) ≡ sum_by f (charged_at priced key))
      → ((row : ChargeRow) → g (dated_since tariffs row) ≡ g row)
      → ((detail : Detail) → f (moved detail) ≡ f detail.priced)
      → sum_by g (rows_at dated place) ≡ sum_by f (charged_at (map moved details) place)
  sum_moved g f place each same alike =
      let passes : RowKey → Bool = λ key. same_key (moved_place key) place in
      sum_by-filter g (λ row. same_key (row_key row) place) dated
      ∙ fold-map (λ n row. n + cond (same_key (row_key row) place) (g row) 0) (dated_since tariffs) 0
      (work_rows details)
      ∙ (λ i. sum_by (λ (row : ChargeRow). cond (passes (row_key row)) (same row i) 0)
      (work_rows details))
      ∙ sum_by-some_rows g f passes prices (each prices)
      ∙ fold-map (λ n one. n + cond (passes (key_of one)) (f one) 0) plain 0 details
      ∙ (λ i. sum_by (λ (detail : Detail). cond (passes (key_of detail.priced)) (sym (alike detail) i) 0)
      details)
      ∙ sym (fold-map (λ n one. n + cond (same_key (key_of one) place) (f one) 0) moved 0 details)
      ∙ sym (sum_by-filter f (λ one. same_key (key_of one) place) (map moved details))

  counted_moved : (place : RowKey) → sum_by (λ row. row.count) (rows_at dated place)
      ≡ (row_at (map moved details) place).count
  counted_moved place =
      sum_moved (λ row. row.count) (λ one. 1) place
      (λ priced key. length-sum_by (charged_at priced key)) (λ row. refl) (λ detail. refl)
      ∙ sym (length-sum_by (charged_at (map moved details) place))

  -- so the rows of a place are one
  pub row_moved : (place : RowKey) → sums_at dated place ≡ row_at (map moved details) place
  row_moved place = λ i. record {
    day = place.day;
    centre = place.centre;
    shift = place.shift;
    count = counted_moved place i;
    cpu = sum_moved (λ row. row.cpu) (λ one. one.cpu) place (λ priced key. refl) (λ row. refl)
        (λ detail. refl) i;
    blocks = sum_moved (λ row. row.blocks) (λ one. one.excp) place (λ priced key. refl)
        (λ row. refl) (λ detail. refl) i;
    amount = sum_moved (λ row. row.amount) (λ one. one.amount) place (λ priced key. refl)
        (λ row. refl) (λ detail. refl) i;
  }

  -- and a place of some row is one of some detail
  pub same_places : (place : RowKey)
      → list_any (eq_by_cmp by_key place) (map key_of (map moved details))
      ≡ list_any (eq_by_cmp by_key place) (places_of dated)
  same_places place =
      let here : RowKey → Bool = eq_by_cmp by_key place in
      list_any-map here key_of (map moved details)
      ∙ list_any-map (λ one. here (key_of one)) moved details
      ∙ sym (list_any-map (λ one. here (moved_place (key_of one))) plain details)
      ∙ sym (list_any-map (λ key. here (moved_place key)) key_of prices)
      ∙ sym (any-members by_key_total by_key_exact (λ key. here (moved_place key)) (map key_of prices))
      ∙ sym (list_any-map (λ row. here (row_key (dated_since tariffs row))) (row_at prices) (keys_of prices))
      ∙ sym (list_any-map (λ row. here (row_key row)) (dated_since tariffs) (work_rows details))
      ∙ sym (list_any-map here row_key dated)
      ∙ sym (any_tied-members by_key_total (map row_key dated) place)
