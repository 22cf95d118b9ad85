-- Each line of a centre's bill has a period that it speaks of: what a period reverses was counted or
-- added by one before it.
use Rattle.std.proofs.Common.{◌≡◌, ◌∙◌, ℕ, zero, suc, ◌+◌, ◌≤◌, ◌<◌, Bool, true, false, true≢false}
use Rattle.std.proofs.Common.{not, cond, ◌&&◌, ◌||◌, List, [], ◌∷◌, ◌++◌, length, Option, Some}
use Rattle.std.proofs.Common.{None, ap, arith, is_some, refl, subst, sym, All, IsSome, filter}
use Rattle.std.proofs.Common.{nat_lt, slice_get, option_map, lt-ltb, length-append}
use Rattle.book_model.proofs.Std.{last_or, list_any, All-filter, All-map, list_any-append}
use Rattle.book_model.proofs.Std.{slice_get_within}
use Rattle.book_model.specs.declared.bill.BilledLine.{BilledLine}
use Rattle.book_model.specs.Words.{Book, Naming, Period, Records, all_periods, billed_line}
use Rattle.book_model.specs.Words.{charged_before, has, is_dated_after, life_from, life_of}
use Rattle.book_model.specs.Words.{lines_of, open_period, period_by, period_of_line, same_bytes}
use Rattle.book_model.specs.Words.{turn_if, turns_in}
use Rattle.table_model.specs.Words.{close_after, IsReadable}
use Rattle.table_model.proofs.CountedReading.{in_added, in_counted, in_taken, its_period}
use Rattle.table_model.proofs.CountedReading.{period_after, sets, sets_past}
use Rattle.book_model.proofs.Lemmas.{second_of}
use Rattle.book_laws.specs.BillLaws.{BilledLinesHavePeriods}
use Rattle.book_laws.proofs.Words.{or-true, Line, Added, Charged, Reversed, Turn, held_in, at_place}
use Rattle.book_laws.proofs.Words.{AreReadOnce}
use Rattle.book_laws.proofs.BillLemmas.{of_period}
use Rattle.book_laws.proofs.BillStays.{each_of_period, line_with, period_told}
use Rattle.book_laws.proofs.ReadLemmas.{lines_once}
use Rattle.book_laws.proofs.TurnStays.{is_before}

-- the last that passes is there where one passes
some_last : {X : Type 0} (p : X → Bool) (before : Option X) (xs : List X)
    → (is_some before || list_any p xs) ≡ true → is_some (last_or before (filter p xs)) ≡ true
some_last p None [] some = some
some_last p (Some x) [] some = refl
some_last p before (x ∷ xs) some =
    elim (p x) as (λ b. (is_some before || (b || list_any p xs)) ≡ true
    → is_some (last_or before (cond b (x ∷ filter p xs) (filter p xs))) ≡ true) [
      | true ↦ λ some. some_last p (Some x) xs refl
      | false ↦ λ some. some_last p before xs some
    ] some

-- what is made of something is something
some_made : {X Y : Type 0} (f : X → Y) (found : Option X) → is_some found ≡ true
    → is_some (option_map f found) ≡ true
some_made f None some = some
some_made f (Some x) some = refl

-- the period counts the record or adds it
abbrev charges : Period → List ℕ → Bool
charges period bytes = has period.counted bytes || has period.added bytes

module _ (number : ℕ) (bytes : List ℕ) where
  -- a charge of a period before that of the number
  by_sides : (k : ℕ) (counted added taken : Bool) → nat_lt k number ≡ true → (counted || added) ≡ true
      → list_any (is_before number)
      (turn_if counted k Charged ++ turn_if added k Added ++ turn_if taken k Reversed) ≡ true
  by_sides k true added taken early some =
      ap (λ b. b || list_any (is_before number) (turn_if added k Added ++ turn_if taken k Reversed))
      early
  by_sides k false true taken early some =
      ap (λ b. b || list_any (is_before number) (turn_if taken k Reversed)) early
  by_sides k false false taken early some = absurd (true≢false (sym some))

  -- is among what all periods did
  found_in : (k : ℕ) (periods : List Period) (j : ℕ) (period : Period)
      → slice_get periods j ≡ Some period → k + j < number → charges period bytes ≡ true
      → list_any (is_before number) (life_from k periods bytes) ≡ true
  found_in k [] j period there before charged = cc there
  found_in k (first ∷ later) zero period there before charged =
      let same : first ≡ period = cc in
      let own = by_sides k (has first.counted bytes) (has first.added bytes) (has first.taken bytes)
      (lt-ltb k number (omega arith)) (ap (λ (one : Period). charges one bytes) same ∙ charged) in
      list_any-append (is_before number) (turns_in k first bytes) (life_from (suc k) later bytes)
      ∙ ap (λ b. b || list_any (is_before number) (life_from (suc k) later bytes)) own
  found_in k (first ∷ later) (suc j) period there before charged =
      let own : Bool = list_any (is_before number) (turns_in k first bytes) in
      list_any-append (is_before number) (turns_in k first bytes) (life_from (suc k) later bytes)
      ∙ ap (λ b. own || b) (found_in (suc k) later j period there (omega arith) charged)
      ∙ or-true own

module _ (naming : Naming) (book : Book) (whole : IsReadable naming book) (bytes : List ℕ) where
  -- what is charged at the end of a period, and was not before, that period charges
  charged_by : (k : ℕ) → has (sets naming book whole k) bytes ≡ false
      → has (sets naming book whole (suc k)) bytes ≡ true
      → charges (period_after naming book whole k) bytes ≡ true
  charged_by k fresh charged =
      let last = close_after k book.rulings.closes in
      let was : Records = sets naming book whole k in
      let now : Records = sets naming book whole (suc k) in
      let own : Period = period_by last was now in
      elim (is_dated_after last bytes) as (λ b. is_dated_after last bytes ≡ b
      → charges own bytes ≡ true) [
        | true ↦ λ late.
            ap (λ b. b || has own.added bytes)
            (in_counted last was now bytes ∙ (λ i. late i && charged i))
        | false ↦ λ early.
            ap (λ b. has own.counted bytes || b)
            (in_added last was now bytes early ∙ (λ i. not (fresh i) && charged i))
            ∙ or-true (has own.counted bytes)
      ] refl

  -- so what is charged after some closes a period before them charges
  charged_first : (k : ℕ) → k ≤ length book.rulings.closes
      → has (sets naming book whole k) bytes ≡ true
      → (j : ℕ) × (j < k) × (charges (period_after naming book whole j) bytes ≡ true)
  charged_first zero within charged =
      absurd (true≢false (whole.past.dated 0 (omega arith) bytes
      (ap (λ records. has records bytes) (sym (sets_past naming book whole 0 (omega arith)))
      ∙ charged)))
  charged_first (suc k) within charged =
      elim (has (sets naming book whole k) bytes)
      as (λ b. has (sets naming book whole k) bytes ≡ b
      → (j : ℕ) × (j < suc k) × (charges (period_after naming book whole j) bytes ≡ true)) [
        | true ↦ λ stood.
            let earlier = charged_first k (omega arith) stood in
            let before = earlier.1 in
            (earlier.0, omega arith, earlier.2)
        | false ↦ λ fresh. (k, omega arith, charged_by k fresh charged)
      ] refl

  -- and what a period reverses has a charge before it
  taken_told : (k : ℕ) (period : Period) → slice_get (all_periods book) k ≡ Some period
      → has period.taken bytes ≡ true
      → is_some (charged_before (suc k) (life_of book bytes)) ≡ true
  taken_told k period there taken =
      let closes = book.rulings.closes in
      let within = slice_get_within (all_periods book) k period there in
      let long = length-append book.past (open_period book ∷ []) in
      let count = whole.sound.closed in
      let came : k ≤ length closes = omega arith in
      let both : Some (period_after naming book whole k) ≡ Some period =
      sym (its_period naming book whole k came) ∙ there in
      let same : period_after naming book whole k ≡ period = cc in
      let was : Records = sets naming book whole k in
      let now : Records = sets naming book whole (suc k) in
      let stood : has was bytes ≡ true = second_of (not (has now bytes)) (has was bytes)
      (sym (in_taken (close_after k closes) was now bytes)
      ∙ ap (λ (one : Period). has one.taken bytes) same ∙ taken) in
      let first = charged_first k came stood in
      let before = first.1 in
      let charge = found_in (suc k) bytes 1 (all_periods book) first.0
      (period_after naming book whole first.0) (its_period naming book whole first.0 (omega arith))
      (omega arith) first.2 in
      some_made (λ (turn : Turn). turn.period)
      (last_or None (filter (is_before (suc k)) (life_of book bytes)))
      (some_last (is_before (suc k)) None (life_of book bytes) charge)

-- the law
pub billed_lines_have_periods : BilledLinesHavePeriods
billed_lines_have_periods naming book number period centre whole is =
    let sound = whole.sound in
    let place = at_place naming book sound number period is in
    let at = place.1 in
    let own : suc place.0 ≡ number = omega arith in
    let P : Line → Type 0 = λ line. IsSome (period_of_line naming book number line) in
    let held = held_in naming book sound number period is in
    let read = of_period (λ period. AreReadOnce naming book.rulings period) naming book sound
    (lines_once naming book sound) number period is in
    let lines : All P (lines_of naming book.rulings period) =
    each_of_period naming book.rulings period P read
    (λ bytes there priced. ap is_some (period_told naming book sound number
    (line_with naming book.rulings P true bytes priced) bytes (held.added bytes there) refl))
    (λ bytes there priced.
    ap is_some (period_told naming book sound number
    (line_with naming book.rulings P false bytes priced) bytes (held.taken bytes there) refl)
    ∙ subst (λ n. is_some (charged_before n (life_of book bytes)) ≡ true) own
    (taken_told naming book whole bytes place.0 period place.2 there)) in
    All-map (λ (billed : BilledLine). IsSome billed.period) (billed_line naming book number)
    (filter (λ (line : Line). same_bytes line.priced.centre centre)
    (lines_of naming book.rulings period))
    (All-filter (λ (line : Line). same_bytes line.priced.centre centre) P
    (lines_of naming book.rulings period) lines)
