-- What some of the records that are held cost together.
use Rattle.std.proofs.Common.{◌≡◌, ℕ, List, [], ◌∷◌, length, refl, sym, ap, ◌∙◌, subst, true, false}
use Rattle.std.proofs.Common.{Bool, cond, Option, Some, None, arith, ◌<◌, ◌≤◌, ◌^◌, filter, sum_by}
use Rattle.std.proofs.Common.{All, filter_map}
use Rattle.std.proofs.lemmas.List.Sums.{sum_by-le}
use Rattle.book_model.proofs.Std.{cons_option, option_map_or, nat_list_cmp_total, All-nil, All-cons}
use Rattle.book_model.proofs.Std.{sum_by-le-sum_by, exact_bytes}
use Rattle.book_model.specs.Words.{IsPriced, Book, most_held, Records, Naming, price_in, prices}
use Rattle.book_model.specs.Words.{members, has, AreAmong, Priced}
use Rattle.book_model.proofs.Lemmas.{members-those, sum_by-filter, sum_by-filter_map, length-sum_by}
use Rattle.table_model.proofs.RowsWhere.{AreMembers, first_held, members_held, others_held}
use Rattle.table_model.proofs.RowsWhere.{those_among}
use Rattle.table_model.specs.Fits.{signed_end}
use Rattle.table_model.specs.Words.{IsReadable}

-- a sum over those that pass a test is within the whole
pub part_within : {X : Type 0} (f : X → ℕ) (p : X → Bool) (xs : List X)
    → sum_by f (filter p xs) ≤ sum_by f xs
part_within f p xs =
    subst (λ n. n ≤ sum_by f xs) (sym (sum_by-filter f p xs))
    (sum_by-le-sum_by (λ x. cond (p x) (f x) 0) f xs (λ x. one (p x) (f x)))
  where
    one : (b : Bool) (n : ℕ) → cond b n 0 ≤ n
    one true n = omega arith
    one false n = omega arith

-- no more are given than there are elements
pub given_few : {X Y : Type 0} (h : X → Option Y) (xs : List X)
    → length (filter_map h xs) ≤ length xs
given_few h [] = omega arith
given_few {X} {Y} h (x ∷ xs) =
    let few = given_few h xs in
    elim (h x) as (λ given.
    length (cons_option {X = Y} given (filter_map h xs)) ≤ length (x ∷ xs)) [
      | None ↦ omega arith
      | Some y ↦ omega arith
    ]

-- the number of some prices and their sums fit into 64 bits with a sign
pub record FitSigned (some : List Priced) : Type 0 where
  pub count : length some < signed_end
  pub cpu : sum_by (λ one. one.cpu) some < signed_end
  pub blocks : sum_by (λ one. one.excp) some < signed_end
  pub amount : sum_by (λ one. one.amount) some < signed_end

module _ (naming : Naming) (book : Book) (whole : IsReadable naming book) where
  -- what some of them cost
  abbrev pub costs : Records → List Priced
  costs some = prices book.rulings some

  -- each price is within the limits
  pub all_priced : (some : Records) → AreAmong some book.held → All IsPriced (costs some)
  all_priced some among =
      each (members some) (λ bytes there. among bytes (members_held some bytes there))
    where
      each : (ks : List (List ℕ)) → AreMembers book.held ks
          → All IsPriced (filter_map (price_in book.rulings) ks)
      each [] held = All-nil IsPriced
      each (k ∷ ks) held =
          let others : List Priced = filter_map (price_in book.rulings) ks in
          let rest = each ks (others_held book.held k ks held) in
          elim (price_in book.rulings k) as (λ price. price_in book.rulings k ≡ price
          → All IsPriced (cons_option price others)) [
            | None ↦ λ none. rest
            | Some priced ↦ λ price. All-cons IsPriced priced others
                (whole.priced k priced (first_held book.held k ks held) price) rest
          ] refl

  -- there are no more prices than records may be held
  pub few_prices : length (costs book.held) ≤ most_held
  few_prices =
      let given = given_few (price_in book.rulings) (members book.held) in
      let few = whole.limits.held in
      omega arith

  -- some of them cost no more than all
  pub some_within : (f : Priced → ℕ) (some : Records) → AreAmong some book.held
      → sum_by f (costs some) ≤ sum_by f (costs book.held)
  some_within f some among =
      let all : List (List ℕ) = members book.held in
      let listed = members-those nat_list_cmp_total exact_bytes (has some) book.held in
      let cost : List ℕ → ℕ = λ bytes. option_map_or f (price_in book.rulings bytes) 0 in
      let part = part_within cost (has some) all in
      let its = ap (λ s. sum_by f (costs s)) (sym (those_among some book.held among))
      ∙ ap (λ ks. sum_by f (filter_map (price_in book.rulings) ks)) listed
      ∙ sum_by-filter_map f (price_in book.rulings) (filter (has some) all) in
      let whole_cost = sum_by-filter_map f (price_in book.rulings) all in
      subst (λ n. n ≤ sum_by f (costs book.held)) (sym its)
      (subst (λ n. sum_by cost (filter (has some) all) ≤ n) (sym whole_cost) part)

  -- so prices fit if their sums are no greater than those of all that is held
  pub within_fits : (some : List Priced)
      → ((f : Priced → ℕ) → sum_by f some ≤ sum_by f (costs book.held)) → FitSigned some
  within_fits some within =
      let all : List Priced = costs book.held in
      let each = all_priced book.held (λ bytes there. there) in
      let few = few_prices in
      let each_cpu : All (λ one. one.cpu ≤ 2 ^ 33) all = λ k d inside. (each k d inside).cpu in
      let each_excp : All (λ one. one.excp ≤ 2 ^ 32) all =
      λ k d inside. let below = (each k d inside).excp in omega arith in
      let all_cpu = sum_by-le (λ one. one.cpu) (2 ^ 33) all each_cpu in
      let all_blocks = sum_by-le (λ one. one.excp) (2 ^ 32) all each_excp in
      let cost = whole.limits.cost in
      let ones = length-sum_by some in
      let all_ones = length-sum_by all in
      let count = within (λ _. 1) in
      let cpu = within (λ one. one.cpu) in
      let blocks = within (λ one. one.excp) in
      let amount = within (λ one. one.amount) in
      record {
        count = omega arith;
        cpu = omega arith;
        blocks = omega arith;
        amount = omega arith;
      }
