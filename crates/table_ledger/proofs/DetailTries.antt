-- The next detail that is sought, where details are looked for from one start and then from others.
use Rattle.std.proofs.Common.{◌≡◌, ◌∙◌, ◌-◌, ℕ, ℤ, pos, List, true, false, not, Option, Some, None}
use Rattle.std.proofs.Common.{Ok, subst, ◌⊎◌, inl, inr, refl, sym, ap, true≢false, arith, ◌&&◌}
use Rattle.std.proofs.Common.{int_lt, ◌+ℤ◌, int_cmp, is_gt, is_lt, nat_cmp, Ordering, Less, Equal}
use Rattle.std.proofs.Common.{Greater}
use Rattle.sqlite_value.proofs.OrderLemmas.{then-Equal}
use Rattle.book_model.proofs.Std.{get, option_map_or, tied_itself, ordering_reverse, ordering_then}
use Rattle.book_model.proofs.Std.{and_parts, nat_list_cmp_total, ints, tells_apart}
use Rattle.book_model.proofs.Lemmas.{by_detail_total, same_bytes-by_cmp}
use Rattle.book_model.specs.Words.{through_of, Naming, Outcome, by_bytes, by_detail, by_key}
use Rattle.book_model.specs.Words.{comes_after, is_asked, key_of, next_detail_outcome, is_between}
use Rattle.book_core.specs.Words.{ruled_in}
use Rattle.table_model.specs.Words.{FindsLeast, IsDetail, detail_shown, is_period, Tables}
use Rattle.table_model.specs.Words.{tables_of}
use Rattle.table_model.proofs.DetailReading.{details_follow}
use Rattle.tree_rows.proofs.IndexOrders.{by_bytes_exact, second_equal}
use Rattle.tree_tables.specs.Details.{FindsDetail, is_reached}
use Rattle.tree_tables.specs.declared.detail_rows.DetailStart.{DetailStart}
use Rattle.tree_tables.specs.declared.detail_rows.DetailStart.TheVariants.{Centre}
use Rattle.table_ledger.proofs.Words.{Detail, some_is, State, Saw, seeks, AttemptsOne}
use Rattle.table_ledger.specs.DetailReads.{GoesOn}
use Rattle.table_ledger.specs.declared.details.Sought.{Sought}
use Rattle.table_ledger.specs.declared.summary.Summary.{Summary}
use Rattle.table_ledger.proofs.Answering.{makes_answer}
use Rattle.table_ledger.proofs.ListReadings.{of_there}
use Rattle.table_ledger.proofs.Remembered.{rulings_are}
use Rattle.table_ledger.proofs.TryLemmas.{try_answered}

-- what is sought has all that is asked
pub record IsSought (sought : Sought) (detail : Detail) : Type 0 where
  pub late : option_map_or (λ close. int_lt close detail.priced.day) sought.close true ≡ true
  pub through : option_map_or (λ close. not (int_lt close detail.priced.day)) sought.through true
      ≡ true
  pub asked : is_asked sought.centre detail ≡ true
  pub after : comes_after sought.last detail ≡ true

pub is_sought_by : (sought : Sought) (detail : Detail) → seeks sought detail ≡ true
    → IsSought sought detail
is_sought_by sought detail is =
    let days = and_parts (is_between sought.close sought.through detail.priced.day)
    (is_asked sought.centre detail && comes_after sought.last detail) is in
    let day = and_parts
    (option_map_or (λ close. int_lt close detail.priced.day) sought.close true)
    (option_map_or (λ close. not (int_lt close detail.priced.day)) sought.through true) days.0 in
    let rest = and_parts (is_asked sought.centre detail) (comes_after sought.last detail) days.1 in
    record { late = day.0; through = day.1; asked = rest.0; after = rest.1 }

-- details of one name are one
one_of_name : (tables : Tables) (one other : Detail) → IsDetail tables one → IsDetail tables other
    → one.name ≡ other.name → one ≡ other
one_of_name tables one other is as_well same =
    let row : is.row ≡ as_well.row =
    some_is is.row as_well.row (sym is.held ∙ ap (get tables.records) same ∙ as_well.held) in
    sym is.shown ∙ (λ i. detail_shown (same i, row i)) ∙ as_well.shown

-- a detail that does not come before another comes after it, or has its name
pub after_or_named : (detail found : Detail) → is_lt (by_detail detail found) ≡ false
    → (is_lt (by_detail found detail) ≡ true) ⊎ (detail.name ≡ found.name)
after_or_named detail found =
    elim (by_detail detail found) as (λ o. by_detail detail found ≡ o → is_lt o ≡ false
    → (is_lt (by_detail found detail) ≡ true) ⊎ (detail.name ≡ found.name)) [
      | Less ↦ λ o low. absurd (true≢false low)
      | Equal ↦ λ o high.
          let moment = second_equal
          (by_key (key_of detail.priced) (key_of found.priced))
          (ordering_then (nat_cmp detail.time found.time) (by_bytes detail.name found.name)) o in
          inr (by_bytes_exact detail.name found.name
          (second_equal (nat_cmp detail.time found.time) (by_bytes detail.name found.name) moment))
      | Greater ↦ λ o high.
          inl (ap is_lt (by_detail_total.antisymm found detail ∙ ap ordering_reverse o))
    ] refl

-- Each of the details that are sought is from the start on.
abbrev pub ReachesAll : Sought → DetailStart → Tables → Type 0
ReachesAll sought start tables =
    (detail : Detail) → IsDetail tables detail → seeks sought detail ≡ true
    → is_reached start detail ≡ true

module _ (sought : Sought) (start : DetailStart) (tables : Tables)
    (reaches : ReachesAll sought start tables)
  where
    -- where none is found, none is left
    pub sought_none : FindsDetail start tables None → FindsLeast (seeks sought) tables None
    sought_none none detail is =
        elim (seeks sought detail) as (λ b. seeks sought detail ≡ b → b ≡ false) [
          | true ↦ λ wanted. absurd (true≢false
              (sym (reaches detail is wanted) ∙ none detail is))
          | false ↦ λ not_it. refl
        ] refl

    module _ (found : Detail) (finds : FindsDetail start tables (Some found)) where
      -- where the one that is found is sought, it is the least
      pub sought_found : seeks sought found ≡ true → FindsLeast (seeks sought) tables (Some found)
      sought_found wanted = record {
        there = finds.there;
        passes = wanted;
        least = λ other is as_well. finds.least other is (reaches other is as_well);
      }

      -- where it is not, those that are sought come after it
      sought_after : seeks sought found ≡ false → (detail : Detail) → IsDetail tables detail
          → seeks sought detail ≡ true → is_lt (by_detail found detail) ≡ true
      sought_after not_it detail is wanted =
          elim (after_or_named detail found (finds.least detail is (reaches detail is wanted))) [
            | inl after ↦ after
            | inr name ↦ absurd (true≢false (sym wanted
                ∙ ap (seeks sought) (one_of_name tables detail found is finds.there name) ∙ not_it))
          ]

      -- so the search goes on there
      pub sought_on : (next : DetailStart) → seeks sought found ≡ false → GoesOn sought found next
          → ReachesAll sought next tables
      sought_on next not_it goes detail is wanted =
          goes detail wanted (sought_after not_it detail is wanted)

      -- and where it is dated after the period, none is left
      pub sought_past : option_map_or (λ through. not (int_lt through found.priced.day)) sought.through
          true ≡ false → FindsLeast (seeks sought) tables None
      sought_past past detail is =
          elim (seeks sought detail) as (λ b. seeks sought detail ≡ b → b ≡ false) [
            | true ↦ λ wanted. absurd (true≢false
                (sym (is_sought_by sought detail wanted).through
                ∙ later_past sought.through found.priced.day detail.priced.day past
                (not_before_day detail found
                (finds.least detail is (reaches detail is wanted)))))
            | false ↦ λ not_it. refl
          ] refl
        where
          not_first : (day rest : Ordering) → is_lt (ordering_then day rest) ≡ false
              → is_lt day ≡ false
          not_first Less rest is = is
          not_first Equal rest is = refl
          not_first Greater rest is = refl

          not_before_day : (one other : Detail) → is_lt (by_detail one other) ≡ false
              → is_lt (int_cmp one.priced.day other.priced.day) ≡ false
          not_before_day one other high =
              not_first (int_cmp one.priced.day other.priced.day)
              (ordering_then (by_bytes one.priced.centre other.priced.centre)
              (by_bytes one.priced.shift other.priced.shift))
              (not_first (by_key (key_of one.priced) (key_of other.priced))
              (ordering_then (nat_cmp one.time other.time) (by_bytes one.name other.name)) high)

          later_past : (through : Option ℤ) (day later : ℤ)
              → option_map_or (λ close. not (int_lt close day)) through true ≡ false
              → is_lt (int_cmp later day) ≡ false
              → option_map_or (λ close. not (int_lt close later)) through true ≡ false
          later_past None day later past high = absurd (true≢false past)
          later_past (Some close) day later past high = grind (arith, ints, past, high)

-- ---- where to go on

-- a detail that is sought has the centre
has_centre : (sought : Sought) (centre : List ℕ) (detail : Detail) → sought.centre ≡ Some centre
    → seeks sought detail ≡ true → detail.priced.centre ≡ centre
has_centre sought centre detail is wanted =
    tells_apart by_bytes_exact detail.priced.centre centre
    (sym (ap (λ same. same detail.priced.centre centre) same_bytes-by_cmp)
    ∙ sym (ap (λ one. is_asked one detail) is) ∙ (is_sought_by sought detail wanted).asked)

-- what is compared first, of one that comes before another
day_first : (day centre shift rest : Ordering)
    → is_lt (ordering_then (ordering_then day (ordering_then centre shift)) rest) ≡ true
    → (day ≡ Less) ⊎ ((day ≡ Equal) × ((centre ≡ Greater) → ⊥))
day_first Less centre shift rest low = inl refl
day_first Equal Less shift rest low = inr (refl, λ is. absurd (cc))
day_first Equal Equal shift rest low = inr (refl, λ is. absurd (cc))
day_first Equal Greater shift rest low = absurd (true≢false (sym low))
day_first Greater centre shift rest low = absurd (true≢false (sym low))

-- its day, and its centre on the same day
day_of_first : (one other : Detail) → is_lt (by_detail one other) ≡ true
    → (int_cmp one.priced.day other.priced.day ≡ Less)
    ⊎ ((int_cmp one.priced.day other.priced.day ≡ Equal)
    × ((by_bytes one.priced.centre other.priced.centre ≡ Greater) → ⊥))
day_of_first one other low =
    day_first (int_cmp one.priced.day other.priced.day)
    (by_bytes one.priced.centre other.priced.centre)
    (by_bytes one.priced.shift other.priced.shift)
    (ordering_then (nat_cmp one.time other.time) (by_bytes one.name other.name)) low

-- A place is not before one of the same centre on a day that is not later.
not_before : (day other : ℤ) (centre same : List ℕ) → centre ≡ same
    → is_lt (int_cmp day other) ≡ false
    → not (is_lt (ordering_then (int_cmp day other) (by_bytes centre same))) ≡ true
not_before day other centre same is high =
    ap not (ap (λ o. is_lt (ordering_then (int_cmp day other) o))
    (ap (λ one. by_bytes one same) is ∙ tied_itself nat_list_cmp_total same)
    ∙ ap is_lt (then-Equal (int_cmp day other)) ∙ high)

-- where the centre is behind the place on its day, it is looked for there
pub on_its_day : (sought : Sought) (passed : Detail) (centre : List ℕ)
    → sought.centre ≡ Some centre → GoesOn sought passed (Centre passed.priced.day centre)
on_its_day sought passed centre is detail wanted after =
    not_before detail.priced.day passed.priced.day detail.priced.centre centre
    (has_centre sought centre detail is wanted)
    (elim (day_of_first passed detail after) [
      | inl early ↦ not_earlier passed.priced.day detail.priced.day (ap is_gt early)
      | inr same ↦ not_earlier passed.priced.day detail.priced.day (ap is_gt same.0)
    ])
  where
    not_earlier : (day later : ℤ) → is_gt (int_cmp day later) ≡ false
        → is_lt (int_cmp later day) ≡ false
    not_earlier day later up = grind (arith, ints, up)

-- and where it is not, on the next day
pub on_the_next : (sought : Sought) (passed : Detail) (centre : List ℕ)
    → sought.centre ≡ Some centre → by_bytes passed.priced.centre centre ≡ Greater
    → GoesOn sought passed (Centre (passed.priced.day +ℤ pos 1) centre)
on_the_next sought passed centre is behind detail wanted after =
    let own = has_centre sought centre detail is wanted in
    not_before detail.priced.day (passed.priced.day +ℤ pos 1) detail.priced.centre centre own
    (elim (day_of_first passed detail after) [
      | inl early ↦ not_next passed.priced.day detail.priced.day (ap is_lt early)
      | inr same ↦ absurd (same.1
          (ap (by_bytes passed.priced.centre) own ∙ behind))
    ])
  where
    not_next : (day later : ℤ) → is_lt (int_cmp day later) ≡ true
        → is_lt (int_cmp later (day +ℤ pos 1)) ≡ false
    not_next day later up = grind (arith, ints, up)

-- ---- the answer

-- what is sought of a period by its closes
abbrev sought_by : Option ℤ → Option ℤ → Option (List ℕ) → Option Detail → Sought
sought_by close through centre last =
    record { close = close; through = through; centre = centre; last = last }

module _ (naming : Naming) (summary : Summary) (number : ℕ) (centre : Option (List ℕ))
    (last : Option Detail)
  where
    module _ {old new : State} (close through : Option ℤ) (found : Option Detail)
        (close_is : close ≡ through_of (number - 1) (ruled_in summary.rulings))
        (through_is : through ≡ through_of number (ruled_in summary.rulings))
      where
        -- the next of them was found, or that there is none
        pub next_found : is_period number (ruled_in summary.rulings) ≡ true
            → Saw old new (λ tables. FindsLeast (seeks (sought_by close through centre last)) tables found)
            → AttemptsOne (λ (one : Option Detail). one) naming summary summary old new
            (next_detail_outcome naming number centre last) (Ok (Ok found))
        next_found there saw =
            try_answered (next_detail_outcome naming number centre last) saw
            (record { stored = refl; served = refl })
            (λ book at known.
            let whole = at.kept.readable in
            let own = rulings_are at.remembers in
            let first = close_is ∙ ap (through_of (number - 1)) (sym own) in
            let end = through_is ∙ ap (through_of number) (sym own) in
            makes_answer (λ (one : Option Detail). one)
            (next_detail_outcome naming number centre last book) found
            (ap (λ (outcome : Outcome (Option Detail)). outcome.answer)
            (details_follow.found naming book number centre last found whole
            (subst (λ test. FindsLeast test (tables_of naming book) found)
            (λ i detail. seeks (sought_by (first i) (end i) centre last) detail) known))
            ∙ of_there number found at.remembers there) refl)
