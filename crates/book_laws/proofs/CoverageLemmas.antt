-- Coverage: each record that a period counts is held under its name, and each day stands.
use Rattle.std.proofs.Common.{◌≡◌, ◌∙◌, ℕ, zero, suc, ◌+◌, ◌<◌, ℤ, ◌+ℤ◌, pos, List, [], ◌∷◌, ◌++◌}
use Rattle.std.proofs.Common.{◌||◌, length, map, refl, sym, ap, subst, arith, true, true≢false}
use Rattle.std.proofs.Common.{Option, Some, None, Result, Ok, Err, All, Contains, IsOk, is_some}
use Rattle.std.proofs.Common.{filter_map, option_map, slice_index_or}
use Rattle.std.specs.Prelude.{◌≤ℤ◌, flat_map}
use Rattle.std.specs.Int.{int_gap}
use Rattle.std.specs.Option.{ok_or, option_and_then}
use Rattle.std.proofs.lemmas.Int.{by_lt_z, ints}
use Rattle.std.proofs.lemmas.List.{get_or-map, length-map}
use Rattle.std.proofs.lemmas.List.Elements.{Contains-append_left, Contains-append_right}
use Rattle.std.proofs.lemmas.List.Elements.{Contains-get_or}
use Rattle.std.proofs.lemmas.List.Sorted.{All-permutation}
use Rattle.book_model.proofs.Std.{All-cons, All-nil, All-weaker, IsPermutation-sym, cons_option}
use Rattle.book_model.proofs.Std.{list_any}
use Rattle.book_model.specs.declared.detail.Detail.{Detail}
use Rattle.book_model.specs.declared.fault.LedgerFault.{LedgerFault}
use Rattle.book_model.specs.declared.fault.LedgerFault.TheVariants.{NoSuchRecord}
use Rattle.book_model.specs.Words.{AreHeld, Book, IsSound, Naming, Period, Priced, Records, Rulings}
use Rattle.book_model.specs.Words.{Terms, TrailSeen, all_periods, day_of, detail_by, detail_of}
use Rattle.book_model.specs.Words.{details_for, details_of, has, in_force, members, name_of}
use Rattle.book_model.specs.Words.{price_by, price_in, reckoning_by, record_named, trail_by}
use Rattle.book_model.specs.Words.{trail_of, trail_outcome}
use Rattle.book_model.proofs.DetailLemmas.{read_once}
use Rattle.book_model.proofs.Lemmas.{is, is_first}
use Rattle.table_model.proofs.HeldPeriods.{all_held}
use Rattle.table_model.proofs.TrailLemmas.{named_itself}
use Rattle.coverage_texts.specs.Coverage.{coverage_rows, day_of_first, day_of_last, day_rows}
use Rattle.coverage_texts.specs.Coverage.{begins_on, days_between, days_from, ends_on, row_at}
use Rattle.coverage_texts.specs.Coverage.{systems_of}
use Rattle.coverage_texts.specs.declared.coverage_rows.CoverageRow.{CoverageRow}
use Rattle.coverage_texts.specs.declared.coverage_rows.SystemDetail.{SystemDetail}
use Rattle.coverage_texts.proofs.CoverageLemmas.{days_through, gap_is}
use Rattle.book_laws.specs.CoverageLaws.{CountedAreHeld, EachDayStands, IsHeldDetail}
use Rattle.book_laws.proofs.ReadLemmas.{named}
use Rattle.book_laws.proofs.Words.{or-true}
use Rattle.std.specs.FinMap as finite

-- ---- what holds of the detail of each record

module _ (naming : Naming) (rulings : Rulings) (P : Detail → Type 0) where
  each_given : (ks : List (List ℕ))
      → ((k : List ℕ) → list_any (is k) ks ≡ true → (priced : Priced)
      → price_in rulings k ≡ Some priced → P (detail_by naming k priced))
      → All P (filter_map (detail_of naming rulings) ks)
  each_given [] holds = All-nil P
  each_given (k ∷ ks) holds =
      let rest =
      each_given ks
      (λ other among. holds other (ap (λ b. is other k || b) among ∙ or-true (is other k))) in
      let others : List Detail = filter_map (detail_of naming rulings) ks in
      elim (price_in rulings k) as (λ price. price_in rulings k ≡ price
      → All P (cons_option (option_map (detail_by naming k) price) others)) [
        | None ↦ λ none. rest
        | Some priced ↦ λ some.
            All-cons P (detail_by naming k priced) others (holds k (is_first k ks) priced some) rest
      ] refl

  -- what holds of the detail of each record holds of all details
  pub each_detail : (records : Records)
      → ((a b : List ℕ) → has records a ≡ true → has records b ≡ true
      → name_of naming a ≡ name_of naming b → a ≡ b)
      → ((bytes : List ℕ) → has records bytes ≡ true → (priced : Priced)
      → price_in rulings bytes ≡ Some priced → P (detail_by naming bytes priced))
      → All P (details_for naming rulings records)
  each_detail records apart holds =
      let unsorted : List Detail = filter_map (detail_of naming rulings) (members records) in
      let sorted : List Detail = details_for naming rulings records in
      All-permutation P unsorted sorted
      (IsPermutation-sym sorted unsorted (read_once naming rulings records apart))
      (each_given (members records)
      (λ k among. holds k (finite.contains_key-keys records k ∙ among)))

-- ---- records are held under their names

-- what has a price has a trail
trail_answered : (naming : Naming) (book : Book) (bytes : List ℕ) (terms : Option Terms)
    → is_some (option_map (λ terms. price_by terms bytes) terms) ≡ true
    → IsOk (ok_or
    (option_map (trail_by naming book bytes) (option_map (λ terms. reckoning_by terms bytes) terms))
    NoSuchRecord)
trail_answered naming book bytes None never = absurd (true≢false (sym never))
trail_answered naming book bytes (Some terms) some = refl

-- the detail of a record that is held is one that is held under its name
held_detail : (naming : Naming) (book : Book) → IsSound naming book → (bytes : List ℕ)
    → has book.held bytes ≡ true → (priced : Priced) → price_in book.rulings bytes ≡ Some priced
    → IsHeldDetail naming book (detail_by naming bytes priced)
held_detail naming book sound bytes there priced price =
    let found = named_itself naming book sound bytes there in
    let answered : Option (List ℕ) → Type 0 =
    λ held. IsOk (ok_or (option_and_then (trail_of naming book) held) NoSuchRecord) in
    record {
      bytes = bytes;
      found = found;
      its_own = ap (option_map (detail_by naming bytes)) price;
      trail = subst answered (sym found)
          (trail_answered naming book bytes (in_force (day_of bytes) book.rulings.tariffs)
          (sound.priced bytes there));
    }

-- the law
pub counted_are_held : CountedAreHeld
counted_are_held naming book sound =
    All-weaker (AreHeld book.held)
    (λ period. All (IsHeldDetail naming book) (details_of naming book.rulings period))
    (λ period held.
    each_detail naming book.rulings (IsHeldDetail naming book) period.counted
    (named naming book sound period.counted held.counted)
    (λ bytes there priced. held_detail naming book sound bytes (held.counted bytes there) priced))
    (all_periods book) (all_held naming book sound)

-- ---- each day stands

-- a day is one of so many from another on
day_among : (count : ℕ) (first day : ℤ) → first ≤ℤ day
    → (day +ℤ pos 1) ≤ℤ (first +ℤ pos count) → Contains (days_from first count) day
day_among zero first day late early = absurd (omega (arith, ints, late, early))
day_among (suc count) first day late early =
    by_lt_z first day
    (λ later.
    Contains-append_right (first ∷ []) (days_from (first +ℤ pos 1) count) day
    (day_among count (first +ℤ pos 1) day (omega (arith, ints, later))
    (omega (arith, ints, early))))
    (λ not_later.
    let same : day ≡ first = omega (arith, ints, late, not_later) in
    subst (Contains (first ∷ days_from (first +ℤ pos 1) count)) (sym same)
    (Contains-get_or (first ∷ days_from (first +ℤ pos 1) count) 0 first (omega arith)))

-- so it is one of those through a last one
pub day_through : (first last day : ℤ) → first ≤ℤ day → day ≤ℤ last
    → Contains (days_through first last) day
day_through first last day late early =
    let whole = gap_is first (last +ℤ pos 1) (omega (arith, ints, late, early)) in
    day_among (int_gap first (last +ℤ pos 1)) first day late (omega (arith, ints, whole, early))

-- an element has its image among those of all
image_among : {X Y : Type 0} (f : X → Y) (xs : List X) (x : X) → Contains xs x
    → Contains (map f xs) (f x)
image_among f xs x there =
    let within = there.1 in
    let long = length-map xs f in
    subst (Contains (map f xs))
    (get_or-map f xs there.0 x (f x) within ∙ ap f there.2)
    (Contains-get_or (map f xs) there.0 (f x) (omega (arith, within, long)))

-- what is made of one of some elements is among what is made of all
made_at : {X Y : Type 0} (f : X → List Y) (y : Y) (xs : List X) (x : X) → Contains (f x) y → (k : ℕ)
    → k < length xs → slice_index_or xs k x ≡ x → Contains (flat_map f xs) y
made_at f y [] x its k within is = absurd (omega (arith, within))
made_at f y (first ∷ xs) x its zero within is =
    Contains-append_left (f first) (flat_map f xs) y
    (subst (λ x. Contains (f x) y) (sym is) its)
made_at f y (first ∷ xs) x its (suc k) within is =
    Contains-append_right (f first) (flat_map f xs) y
    (made_at f y xs x its k (omega (arith, within)) is)

-- the law
pub each_day_stands : EachDayStands
each_day_stands before through details first last day system begins ends late early there =
    let among = day_through first last day late early in
    let days : days_between (begins_on before (day_of_first details))
    (ends_on through (day_of_last details)) ≡ days_through first last =
    λ i. days_between (begins i) (ends i) in
    subst (λ days. Contains (flat_map (day_rows details) days)
    (row_at details (record { day = day; system = system })))
    (sym days)
    (made_at (day_rows details) (row_at details (record { day = day; system = system }))
    (days_through first last) day
    (image_among (λ system. row_at details (record { day = day; system = system }))
    (systems_of details) system there)
    among.0 among.1 among.2)
