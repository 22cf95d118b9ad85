-- Details add up to the rows of what they cost, and those of a centre to its rows.
use Rattle.std.proofs.Common.{◌≡◌, ℕ, List, [], ◌∷◌, refl, sym, ap, ◌∙◌, subst, true, false, map}
use Rattle.std.proofs.Common.{Some, None, Bool, cond, ◌&&◌, get_or, ◌+◌, All, filter, sum_by}
use Rattle.std.proofs.Common.{filter_map, option_map, int_eq}
use Rattle.book_model.proofs.Std.{cons_option, nat_list_eq_equiv, length-map, All-cons, All-head}
use Rattle.book_model.proofs.Std.{All-map, All-nil, All-tail, All-weaker, fold-map}
use Rattle.book_model.specs.declared.detail.Detail.{Detail}
use Rattle.book_model.specs.Words.{Priced, AreHeld, Naming, Records, Rulings, all_periods}
use Rattle.book_model.specs.Words.{charged_at, detail_by, detail_of, details_at, details_for}
use Rattle.book_model.specs.Words.{details_of, details_of_centre, has, key_of, keys_of, members}
use Rattle.book_model.specs.Words.{name_of, price_in, prices, row_at, rows_for, rows_of, same_bytes}
use Rattle.book_model.specs.Words.{same_key}
use Rattle.book_model.proofs.DetailLemmas.{read_once}
use Rattle.book_model.proofs.Lemmas.{filter-agree, filter-filter, filter-map, first_of, second_of}
use Rattle.book_model.proofs.Lemmas.{rows_of-alike, SumsAlike, filter-alike, length-alike}
use Rattle.book_model.proofs.Lemmas.{map-alike}
use Rattle.table_model.specs.Words.{row_key}
use Rattle.table_model.proofs.SetReading.{permuted-alike}
use Rattle.book_laws.specs.DetailLaws.{AddUp, AreSumsOf, CentreDetailsAddUp, DetailsAddUp, IsSumOf}
use Rattle.table_model.proofs.HeldPeriods.{all_held}
use Rattle.book_laws.proofs.ReadLemmas.{named}
use Rattle.book_laws.proofs.Words.{ChargeRow, RowKey, rows_of_centre}

module _ (naming : Naming) (rulings : Rulings) where
  -- details have the prices of their records
  prices_are : (ks : List (List ℕ))
      → map (λ detail. detail.priced) (filter_map (detail_of naming rulings) ks)
      ≡ filter_map (price_in rulings) ks
  prices_are [] = refl
  prices_are (k ∷ ks) =
      let rest = prices_are ks in
      elim (price_in rulings k) as (λ price.
      map (λ detail. detail.priced)
      (cons_option (option_map (detail_by naming k) price)
      (filter_map (detail_of naming rulings) ks))
      ≡ cons_option price (filter_map (price_in rulings) ks)) [
        | None ↦ rest
        | Some priced ↦ ap (λ others. priced ∷ others) rest
      ]

  module _ (records : Records)
      (named : (a b : List ℕ) → has records a ≡ true → has records b ≡ true
      → name_of naming a ≡ name_of naming b → a ≡ b) where
    abbrev sorted : List Detail
    sorted = details_for naming rulings records

    abbrev priced_of : Detail → Priced
    priced_of detail = detail.priced

    abbrev costs : List Priced
    costs = prices rulings records

    -- what they cost is what the records cost, in another order
    alike : SumsAlike (map priced_of sorted) costs
    alike =
        subst (SumsAlike (map priced_of sorted)) (prices_are (members records))
        (map-alike priced_of
        (permuted-alike sorted (filter_map (detail_of naming rulings) (members records))
        (read_once naming rulings records named)))

    -- so their rows are those of the records
    recomputed : rows_of (map priced_of sorted) ≡ rows_for rulings records
    recomputed = rows_of-alike alike

    -- what the records of one place cost is what the details there cost
    here : (key : RowKey)
        → SumsAlike (charged_at costs key) (map priced_of (details_at sorted key))
    here key =
        let at : Priced → Bool = λ one. same_key (key_of one) key in
        subst (SumsAlike (charged_at costs key)) (filter-map at priced_of sorted)
        (record { sums = λ f. sym ((filter-alike at alike).sums f) })

    -- a sum over what details cost is one over the details
    over : (f : Priced → ℕ) (details : List Detail)
        → sum_by f (map priced_of details) ≡ sum_by (λ detail. f detail.priced) details
    over f details = fold-map (λ n one. n + f one) priced_of 0 details

    -- so each row sums its details
    summed : (key : RowKey) → IsSumOf (row_at costs key) (details_at sorted key)
    summed key =
        let found : List Detail = details_at sorted key in record {
          count = length-alike (here key) ∙ length-map found priced_of;
          cpu = (here key).sums (λ one. one.cpu) ∙ over (λ one. one.cpu) found;
          blocks = (here key).sums (λ one. one.excp) ∙ over (λ one. one.excp) found;
          amount = (here key).sums (λ one. one.amount) ∙ over (λ one. one.amount) found;
        }

    pub add_up : AddUp sorted (rows_for rulings records)
    add_up = record {
      recomputed = recomputed;
      each = All-map (λ row. IsSumOf row (details_at sorted (row_key row))) (row_at costs)
          (keys_of costs) (λ k key within. summed (get_or (keys_of costs) k key));
    }

-- the law
pub details_add_up : DetailsAddUp
details_add_up naming book sound =
    All-weaker (AreHeld book.held)
    (λ period. AddUp (details_of naming book.rulings period)
    (rows_for book.rulings period.counted))
    (λ period held.
    add_up naming book.rulings period.counted (named naming book sound period.counted held.counted))
    (all_periods book) (all_held naming book sound)

-- ---- those of one centre

-- what holds of each element that passes holds of all that pass
each_passing : {X : Type 0} (P Q : X → Type 0) (p : X → Bool) (xs : List X)
    → ((x : X) → p x ≡ true → P x → Q x) → All P xs → All Q (filter p xs)
each_passing P Q p [] gives all = All-nil Q
each_passing P Q p (x ∷ xs) gives all =
    let rest = each_passing P Q p xs gives (All-tail P x xs all) in
    elim (p x) as (λ b. p x ≡ b → All Q (cond b (x ∷ filter p xs) (filter p xs))) [
      | true ↦ λ passes.
          All-cons Q x (filter p xs) (gives x passes (All-head P x xs all)) rest
      | false ↦ λ fails. rest
    ] refl

-- a row of the centre has its details among those of the centre
same_details : (centre : List ℕ) (row : ChargeRow) (details : List Detail)
    → same_bytes row.centre centre ≡ true
    → details_at (details_of_centre centre details) (row_key row) ≡ details_at details (row_key row)
same_details centre row details its =
    let here : Detail → Bool = λ detail. same_key (key_of detail.priced) (row_key row) in
    let own : Detail → Bool = λ detail. same_bytes detail.priced.centre centre in
    let narrower : (detail : Detail) → (here detail && own detail) ≡ here detail =
    λ detail. elim (here detail) as (λ b. here detail ≡ b → (b && own detail) ≡ b) [
      | true ↦ λ there.
          let its_centre = first_of (same_bytes detail.priced.centre row.centre)
          (same_bytes detail.priced.shift row.shift)
          (second_of (int_eq detail.priced.day row.day)
          (same_bytes detail.priced.centre row.centre
          && same_bytes detail.priced.shift row.shift) there) in
          nat_list_eq_equiv.congr detail.priced.centre row.centre centre its_centre ∙ its
      | false ↦ λ elsewhere. refl
    ] refl in
    filter-filter here own details
    ∙ filter-agree (λ detail. here detail && own detail) here details (λ k detail within.
    narrower (get_or details k detail))

-- the law
pub centre_details_add_up : CentreDetailsAddUp
centre_details_add_up naming book centre sound =
    let sums : List Detail → ChargeRow → Type 0 =
    λ details row. IsSumOf row (details_at details (row_key row)) in
    All-weaker (λ period. AddUp (details_of naming book.rulings period)
    (rows_for book.rulings period.counted))
    (λ period. AreSumsOf (rows_of_centre centre (rows_for book.rulings period.counted))
    (details_of_centre centre (details_of naming book.rulings period)))
    (λ period add_up.
    let details : List Detail = details_of naming book.rulings period in
    each_passing (sums details) (sums (details_of_centre centre details))
    (λ row. same_bytes row.centre centre) (rows_for book.rulings period.counted)
    (λ row its summed. subst (IsSumOf row) (sym (same_details centre row details its)) summed)
    add_up.each)
    (all_periods book) (details_add_up naming book sound)
