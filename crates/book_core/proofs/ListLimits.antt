-- Rows can be shown: their days are days, and their sums fit 64 bits.
use Rattle.std.proofs.Common.{◌≡◌, ◌∙◌, ℕ, ◌+◌, ◌*◌, ◌^◌, ◌<◌, ◌≤◌, List, length, refl, sym, true}
use Rattle.std.proofs.Common.{false, Bool, cond, map, arith, filter, sum_by, All, Ordering}
use Rattle.std.proofs.lemmas.List.Sums.{sum_by-le}
use Rattle.std.proofs.lemmas.Map.Views.{All-from_any, Contains-from_any}
use Rattle.book_model.proofs.Std.{IsEquivalence, IsTotalOrder, IsDistinct, eq_by_cmp_equiv, All-map}
use Rattle.book_model.proofs.Std.{All-contains, fold-map, sum_by-le-sum_by, length-filter}
use Rattle.book_model.proofs.Std.{tells_apart}
use Rattle.book_model.specs.declared.row.ChargeRow.{ChargeRow}
use Rattle.book_model.specs.declared.row.RowKey.{RowKey}
use Rattle.book_model.specs.Words.{IsDay, IsPriced, most_held, key_of, charged_at, row_at, keys_of}
use Rattle.book_model.specs.Words.{rows_of, FitSums, AreRows, set_of, members, most_cost, Priced}
use Rattle.book_model.proofs.Lemmas.{by_key_total, by_key_exact, count_by-distinct}
use Rattle.book_model.proofs.Lemmas.{any_tied-members, sum_by-filter, length-sum_by}
use Rattle.book_model.proofs.RowLemmas.{same_key_laws, keys_distinct}
use Rattle.book_model.proofs.SumLemmas.{sum_by-exchange}
use Rattle.std.specs.FinMap as finite

-- what holds of each element of a list holds of each member of its set
pub All-members : {K : Type 0} {R : K → K → Ordering} → IsTotalOrder R → finite.IsAntisymmetric R
    → (P : K → Type 0) (ks : List K) → All P ks → All P (members (set_of R ks))
All-members {R} o exact P ks all =
    All-from_any (eq_by_cmp_equiv o) P (members (set_of R ks)) (λ q among.
    let here = Contains-from_any (tells_apart exact) q ks (sym (any_tied-members o ks q) ∙ among) in
    All-contains P ks q all here)

-- a number that is taken once or not at all is no more than it was
once_le : (b : Bool) (n times : ℕ) → times ≡ cond b 1 0 → times * n ≤ n
once_le true n times is = rw is (omega arith)
once_le false n times is = rw is (omega arith)

-- over a list that has no key twice, what is at a given key is summed once at most
sum_by-same_le : {K : Type 0} {eq : K → K → Bool} → IsEquivalence eq → (ks : List K)
    → IsDistinct eq ks → (q : K) (n : ℕ) → sum_by (λ k. cond (eq q k) n 0) ks ≤ n
sum_by-same_le {eq} laws ks apart q n =
    let same = filter (eq q) ks in
    let here = sum_by-filter (λ _. n) (eq q) ks in
    let most = sum_by-le (λ _. n) n same (λ k d within. omega arith) in
    let times = length-filter (eq q) ks ∙ count_by-distinct laws q ks apart in
    let once = once_le _ n (length same) times in
    omega arith

-- so what elements sum to at each key of such a list is together no more than what all sum to
sum_by-keys_le : {X K : Type 0} {eq : K → K → Bool} → IsEquivalence eq → (ks : List K)
    → IsDistinct eq ks → (key : X → K) (f : X → ℕ) (xs : List X)
    → sum_by (λ k. sum_by f (filter (λ x. eq (key x) k) xs)) ks ≤ sum_by f xs
sum_by-keys_le {X} {K} {eq} laws ks apart key f xs =
    let treatment : K → X → ℕ = λ k x. cond (eq (key x) k) (f x) 0 in
    let treatments : sum_by (λ k. sum_by f (filter (λ x. eq (key x) k) xs)) ks
    ≡ sum_by (λ k. sum_by (treatment k) xs) ks =
    λ i. sum_by (λ k. sum_by-filter f (λ x. eq (key x) k) xs i) ks in
    let exchanged = sum_by-exchange treatment ks xs in
    let once = λ (x : X). sum_by-same_le laws ks apart (key x) (f x) in
    let most = sum_by-le-sum_by (λ x. sum_by (λ k. treatment k x) ks) f xs once in
    omega arith

-- what each row sums of the prices at its key is over all rows no more than over all prices
pub sum_by-rows_of_le : (g : ChargeRow → ℕ) (f : Priced → ℕ) (prices : List Priced)
    → ((key : RowKey) → g (row_at prices key) ≡ sum_by f (charged_at prices key))
    → sum_by g (rows_of prices) ≤ sum_by f prices
sum_by-rows_of_le g f prices each =
    let keys = keys_of prices in
    let in_rows = fold-map (λ n row. n + g row) (row_at prices) 0 keys in
    let at_keys : sum_by (λ key. g (row_at prices key)) keys
    ≡ sum_by (λ key. sum_by f (charged_at prices key)) keys =
    λ i. sum_by (λ key. each key i) keys in
    let most = sum_by-keys_le same_key_laws keys (keys_distinct prices) key_of f prices in
    omega arith

-- each row is dated on a day where each price is
rows_dated : (prices : List Priced) → All (λ one. IsDay one.day) prices
    → All (λ row. IsDay row.day) (rows_of prices)
rows_dated prices dated =
    let HasDay : RowKey → Type 0 = λ key. IsDay key.day in
    let all = All-map HasDay key_of prices dated in
    let each = All-members by_key_total by_key_exact HasDay (map key_of prices) all in
    All-map (λ row. IsDay row.day) (row_at prices) (keys_of prices) each

-- prices that are dated on days have rows that can be shown, where number and sums fit 64 bits
pub rows_shown : (prices : List Priced) → FitSums prices → length prices < 2 ^ 64
    → All (λ one. IsDay one.day) prices → AreRows (rows_of prices)
rows_shown prices fit few dated =
    let ones = length-sum_by prices in
    let counted = λ (key : RowKey). length-sum_by (charged_at prices key) in
    let count = sum_by-rows_of_le (λ row. row.count) (λ _. 1) prices counted in
    let cpu = sum_by-rows_of_le (λ row. row.cpu) (λ one. one.cpu) prices (λ key. refl) in
    let blocks = sum_by-rows_of_le (λ row. row.blocks) (λ one. one.excp) prices (λ key. refl) in
    let amount = sum_by-rows_of_le (λ row. row.amount) (λ one. one.amount) prices (λ key. refl) in
    record {
      days = rows_dated prices dated;
      count = omega arith;
      cpu = omega arith;
      blocks = omega arith;
      amount = omega arith;
    }

-- The sums of no more prices than a ledger may hold fit 64 bits, where they cost no more than it
-- holds.
pub priced_fit : (prices : List Priced) → All IsPriced prices → length prices ≤ most_held
    → sum_by (λ one. one.amount) prices ≤ most_cost → FitSums prices
priced_fit prices priced few small =
    let each_cpu : All (λ one. one.cpu ≤ 2 ^ 33) prices =
    λ k d within. (priced k d within).cpu in
    let each_excp : All (λ one. one.excp ≤ 2 ^ 32) prices =
    λ k d within. let below = (priced k d within).excp in omega arith in
    let cpu = sum_by-le (λ one. one.cpu) (2 ^ 33) prices each_cpu in
    let blocks = sum_by-le (λ one. one.excp) (2 ^ 32) prices each_excp in
    record { cpu = omega arith; blocks = omega arith; amount = omega arith }

-- and their rows can be shown
pub priced_shown : (prices : List Priced) → All IsPriced prices → length prices ≤ most_held
    → sum_by (λ one. one.amount) prices ≤ most_cost → AreRows (rows_of prices)
priced_shown prices priced few small =
    let dated : All (λ one. IsDay one.day) prices = λ k d within. (priced k d within).day in
    rows_shown prices (priced_fit prices priced few small) (omega arith) dated
