-- Charge rows at a place, of those records of a set that pass a test.
use Rattle.std.proofs.Common.{◌≡◌, ℕ, List, [], ◌∷◌, refl, sym, ap, ◌∙◌, true, false, Bool, Option}
use Rattle.std.proofs.Common.{Some, None, ◌&&◌, filter, filter_map}
use Rattle.std.specs.FinMap.{find}
use Rattle.book_model.proofs.Std.{nat_list_cmp_total, exact_bytes, tells_apart, option_map_or}
use Rattle.book_model.proofs.Std.{filter_agree}
use Rattle.book_model.specs.declared.row.RowKey.{RowKey}
use Rattle.book_model.specs.Words.{day_of, Records, key_of, by_key, same_key, Rulings, price_in}
use Rattle.book_model.specs.Words.{prices, members, those, Priced}
use Rattle.book_model.proofs.Lemmas.{same_key_ties, by_key_exact, members-those, filter-filter}
use Rattle.table_model.proofs.CostLemmas.{day-price}
use Rattle.table_model.proofs.DayChanges.{days_at, days-found, found_at}
use Rattle.book_model.proofs.FilterLemmas.{filter-filter_map}

module _ {X Y : Type 0} (give : X → Option Y) (test : Y → Bool) where
  -- an element gives what passes
  abbrev passes : X → Bool
  passes x = option_map_or test (give x) false

  -- what passes is given by the elements that give it
  filter-picked : (p : X → Bool) (xs : List X)
      → filter test (filter_map give (filter p xs))
      ≡ filter_map give (filter (λ x. passes x && p x) xs)
  filter-picked p xs =
      filter-filter_map give test passes
      (λ x y given. ap (λ o. option_map_or test o false) (sym given)) (filter p xs)
      ∙ ap (filter_map give) (filter-filter passes p xs)

  -- so tests that agree wherever something that passes is given leave the same
  filter-far : (p q : X → Bool) (xs : List X)
      → ((x : X) (y : Y) → give x ≡ Some y → test y ≡ true → p x ≡ q x)
      → filter test (filter_map give (filter p xs)) ≡ filter test (filter_map give (filter q xs))
  filter-far p q xs agree =
      filter-picked p xs
      ∙ ap (filter_map give) (filter_agree (λ x. passes x && p x) (λ x. passes x && q x)
      (λ x. alike x (give x) (agree x)) xs)
      ∙ sym (filter-picked q xs)
    where
      alike : (x : X) (given : Option Y) → ((y : Y) → given ≡ Some y → test y ≡ true → p x ≡ q x)
          → (option_map_or test given false && p x) ≡ (option_map_or test given false && q x)
      alike x None agree = refl
      alike x (Some y) agree =
          elim (test y) as (λ b. test y ≡ b → (b && p x) ≡ (b && q x)) [
            | true ↦ λ is. agree y refl is
            | false ↦ λ is. refl
          ] refl

-- nothing passes a test that always fails
pub filter-nothing : {X : Type 0} (xs : List X) → filter (λ (x : X). false) xs ≡ []
filter-nothing [] = refl
filter-nothing (x ∷ xs) = filter-nothing xs

module _ (rulings : Rulings) (records : Records) (key : RowKey) where
  -- a record that costs something at a place is dated on the place's day
  dated_there : (bytes : List ℕ) (priced : Priced) → price_in rulings bytes ≡ Some priced
      → same_key (key_of priced) key ≡ true
      → day_of bytes ≡ key.day
  dated_there bytes priced price here =
      sym (day-price rulings bytes priced price)
      ∙ ap (λ (k : RowKey). k.day)
      (tells_apart by_key_exact (key_of priced) key
      (sym (same_key_ties (key_of priced) key) ∙ here))

  -- two tests that agree on the records of that day leave the same row there
  pub rows-where : (p q : List ℕ → Bool)
      → ((bytes : List ℕ) → day_of bytes ≡ key.day → p bytes ≡ q bytes)
      → find by_key key (days_at (prices rulings (those p records)))
      ≡ find by_key key (days_at (prices rulings (those q records)))
  rows-where p q agree =
      let here : Priced → Bool = λ one. same_key (key_of one) key in
      days-found (prices rulings (those p records)) key
      ∙ ap (found_at key)
      (ap (λ ks. filter here (filter_map (price_in rulings) ks))
      (members-those nat_list_cmp_total exact_bytes p records)
      ∙ filter-far (price_in rulings) here p q (members records)
      (λ bytes priced price at. agree bytes (dated_there bytes priced price at))
      ∙ ap (λ ks. filter here (filter_map (price_in rulings) ks))
      (sym (members-those nat_list_cmp_total exact_bytes q records)))
      ∙ sym (days-found (prices rulings (those q records)) key)

  -- a test that fails there leaves none
  pub rows-nowhere : (p : List ℕ → Bool)
      → ((bytes : List ℕ) → day_of bytes ≡ key.day → p bytes ≡ false)
      → find by_key key (days_at (prices rulings (those p records))) ≡ None
  rows-nowhere p fails =
      let nothing : List ℕ → Bool = λ bytes. false in
      rows-where p nothing fails ∙ days-found (prices rulings (those nothing records)) key
      ∙ ap (λ ks. found_at key (filter (λ one. same_key (key_of one) key)
      (filter_map (price_in rulings) ks)))
      (members-those nat_list_cmp_total exact_bytes nothing records
      ∙ filter-nothing (members records))
