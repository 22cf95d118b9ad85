-- What is answered from the tables can be shown.
use Rattle.std.proofs.Common.{◌≡◌, ℕ, ◌+◌, List, [], ◌∷◌, ◌++◌, map, length, refl, sym, ap, ◌∙◌}
use Rattle.std.proofs.Common.{subst, true, false, Bool, Option, Some, None, arith, ◌<◌, ◌≤◌, ◌^◌}
use Rattle.std.proofs.Common.{sum_by, All, filter_map, Ordering, Less, Equal, Greater, option_map}
use Rattle.std.specs.BTreeSet.{insert_key}
use Rattle.book_model.proofs.Std.{IsTotalOrder, AllByRecursion, match_ordering, All-from_recursion}
use Rattle.book_model.proofs.Std.{recursion_from_All, fold-map, sum_by-cons, sum_by-append}
use Rattle.book_model.specs.declared.line.Line.{Line}
use Rattle.book_model.specs.Words.{IsDay, Book, most_cost, AreLines, lines_for, lines_of, Records}
use Rattle.book_model.specs.Words.{Naming, name_of, FitSums, AreRows, AreAmong, price_in, set_of}
use Rattle.book_model.specs.Words.{members, line_with, Priced}
use Rattle.book_model.proofs.Lemmas.{map-filter_map, by_line_total, members-empty, members-with}
use Rattle.table_model.proofs.LineReading.{lines_follow}
use Rattle.table_model.proofs.ListOrder.{all_joined, all_unmapped}
use Rattle.book_core.proofs.ListLimits.{rows_shown}
use Rattle.table_model.specs.Words.{rows_read, lines_read, tables_of, is_period, IsReadable}
use Rattle.table_model.proofs.RowReading.{rows_follow}
use Rattle.table_model.proofs.ListLemmas.{period_held}
use Rattle.table_model.proofs.PriceSums.{costs, all_priced, some_within, within_fits}

module _ {K : Type 0} {R : K → K → Ordering} (o : IsTotalOrder R) where
  -- what holds of a list and of one more element holds after that element is put in its place
  put_all : (P : K → Type 0) (xs : List K) (k : K) → AllByRecursion P xs → P k
      → AllByRecursion P (insert_key R xs k)
  put_all P [] k all one = (one, tt)
  put_all P (x ∷ xs) k all one =
      elim (R k x) as (λ r. AllByRecursion P
      (match_ordering r (k ∷ x ∷ xs) (x ∷ xs) (x ∷ insert_key R xs k))) [
        | Less ↦ (one, all)
        | Equal ↦ all
        | Greater ↦ (all.0, put_all P xs k all.1 one)
      ]

  -- what holds of a list holds of the members of its set
  set_all : (P : K → Type 0) (ks : List K) → AllByRecursion P ks
      → AllByRecursion P (members (set_of R ks))
  set_all P [] all = subst (AllByRecursion P) (sym (members-empty R)) tt
  set_all P (k ∷ ks) all =
      subst (AllByRecursion P) (sym (members-with o (set_of R ks) k))
      (put_all P (members (set_of R ks)) k (set_all P ks all.1) all.0)

  -- one more element adds no more than itself
  put_sum : (f : K → ℕ) (xs : List K) (k : K) → sum_by f (insert_key R xs k) ≤ f k + sum_by f xs
  put_sum f [] k = let one = sum_by-cons f k [] in omega arith
  put_sum f (x ∷ xs) k =
      let rest = put_sum f xs k in
      let first = sum_by-cons f x xs in
      let both = sum_by-cons f k (x ∷ xs) in
      let more = sum_by-cons f x (insert_key R xs k) in
      elim (R k x) as (λ r. sum_by f
      (match_ordering r (k ∷ x ∷ xs) (x ∷ xs) (x ∷ insert_key R xs k)) ≤ f k + sum_by f (x ∷ xs)) [
        | Less ↦ omega arith
        | Equal ↦ omega arith
        | Greater ↦ omega arith
      ]

  -- so the members of a set add up to no more than its list
  set_sum : (f : K → ℕ) (ks : List K) → sum_by f (members (set_of R ks)) ≤ sum_by f ks
  set_sum f [] =
      let none = ap (sum_by f) (members-empty R) in
      omega arith
  set_sum f (k ∷ ks) =
      let rest = set_sum f ks in
      let one = put_sum f (members (set_of R ks)) k in
      let placed = ap (sum_by f) (members-with o (set_of R ks) k) in
      let all = sum_by-cons f k ks in
      omega arith

module _ (naming : Naming) (book : Book) (whole : IsReadable naming book) where
  -- the sums of what some of the records cost fit, and there are not too many
  some_fit : (some : Records) → AreAmong some book.held
      → FitSums (costs naming book whole some) × (length (costs naming book whole some) < 2 ^ 64)
  some_fit some among =
      let own : List Priced = costs naming book whole some in
      let fits = within_fits naming book whole own
      (λ f. some_within naming book whole f some among) in
      let count = fits.count in
      let cpu = fits.cpu in
      let blocks = fits.blocks in
      let amount = fits.amount in
      (record { cpu = omega arith; blocks = omega arith; amount = omega arith }, omega arith)

  -- so the rows of a period can be shown
  pub rows_show : (number : ℕ) → is_period number book.rulings ≡ true
      → AreRows (rows_read number (tables_of naming book).days)
  rows_show number is =
      let period = period_held naming book whole.sound number is in
      let counted : Records = period.0.counted in
      let fit = some_fit counted period.2.counted in
      let dated : All (λ one. IsDay one.day) (costs naming book whole counted) =
      λ k d within. (all_priced naming book whole counted period.2.counted k d within).day in
      subst AreRows (sym (rows_follow naming book number period.0 whole.sound period.1))
      (rows_shown (costs naming book whole counted) fit.0 fit.1 dated)

  -- what the lines for some records cost is what the records do
  priced_lines : (plus : Bool) (some : Records)
      → map (λ (line : Line). line.priced) (lines_for naming book.rulings plus some)
      ≡ costs naming book whole some
  priced_lines plus some =
      map-filter_map (λ (line : Line). line.priced) (λ bytes. option_map {U = Line} (line bytes)
      (price_in book.rulings bytes)) (members some)
      ∙ (λ i. filter_map (λ bytes. back bytes (price_in book.rulings bytes) i) (members some))
    where
      line : List ℕ → Priced → Line
      line bytes = line_with plus (name_of naming bytes) bytes

      back : (bytes : List ℕ) (price : Option Priced)
          → option_map (λ (line : Line). line.priced) (option_map {U = Line} (line bytes) price)
          ≡ price
      back bytes None = refl
      back bytes (Some priced) = refl

  -- they are dated on days, and cost no more than all that is held
  lines_fit : (plus : Bool) (some : Records) → AreAmong some book.held
      → AllByRecursion (λ (line : Line). IsDay line.priced.day)
      (lines_for naming book.rulings plus some)
      × (sum_by (λ line. line.priced.amount) (lines_for naming book.rulings plus some) ≤ most_cost)
  lines_fit plus some among =
      let own : List Line = lines_for naming book.rulings plus some in
      let priced = all_priced naming book whole some among in
      let dated = recursion_from_All (λ (one : Priced). IsDay one.day)
      (costs naming book whole some) (λ k d within. (priced k d within).day) in
      let same = sym (priced_lines plus some) in
      let cost = whole.limits.cost in
      let within = some_within naming book whole (λ one. one.amount) some among in
      let sums = ap (sum_by (λ (one : Priced). one.amount)) (priced_lines plus some) in
      let mapped = fold-map (λ n (one : Priced). n + one.amount) (λ (line : Line). line.priced) 0
      own in (
        all_unmapped (λ (one : Priced). IsDay one.day) (λ (line : Line). line.priced) own
            (subst (AllByRecursion (λ (one : Priced). IsDay one.day)) same dated),
        omega arith,
      )

  -- so the lines of a period can be shown
  pub lines_show : (number : ℕ) → is_period number book.rulings ≡ true
      → AreLines (lines_read number (tables_of naming book))
  lines_show number is =
      let period = period_held naming book whole.sound number is in
      let plus = lines_fit true period.0.added period.2.added in
      let minus = lines_fit false period.0.taken period.2.taken in
      let added : List Line = lines_for naming book.rulings true period.0.added in
      let taken : List Line = lines_for naming book.rulings false period.0.taken in
      let both = sum_by-append (λ (line : Line). line.priced.amount) added taken in
      let most = set_sum by_line_total (λ (line : Line). line.priced.amount) (added ++ taken) in
      let plus_cost = plus.1 in
      let minus_cost = minus.1 in
      subst AreLines
      (sym (lines_follow naming book number period.0 whole.sound whole.lines period.1))
      (record {
        days =
            All-from_recursion (λ (line : Line). IsDay line.priced.day)
            (lines_of naming book.rulings period.0)
            (set_all by_line_total (λ (line : Line). IsDay line.priced.day) (added ++ taken)
            (all_joined (λ (line : Line). IsDay line.priced.day) added taken plus.0 minus.0));
        amount = omega arith;
      })
