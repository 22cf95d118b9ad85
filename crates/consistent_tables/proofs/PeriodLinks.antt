-- The periods of consistent tables are linked by what was charged at the end of each.
use Rattle.std.proofs.Common.{◌≡◌, ◌∙◌, ◌+◌, ◌-◌, ◌≤◌, ◌++◌, ◌∷◌, [], ◌&&◌, List, ℕ, zero, suc}
use Rattle.std.proofs.Common.{Bool, true, false, true≢false, not, Option, None, Some, ap, arith}
use Rattle.std.proofs.Common.{length, refl, sym, IfSome, nat_le}
use Rattle.std.specs.FinMap.{get}
use Rattle.std.specs.Option.{option_map_or}
use Rattle.std.proofs.lemmas.Bool.Decides.{nat_tests}
use Rattle.book_model.specs.Words.{AreAmong, AreHeld, Naming, Period, Records, has, is_dated_after}
use Rattle.book_model.specs.Words.{name_of, those, without}
use Rattle.book_model.proofs.RecordSets.{has_those}
use Rattle.book_model.proofs.SoundLemmas.{period_held}
use Rattle.table_model.specs.BookIn.{added_in, book_in, charged_before, close_after, past_in}
use Rattle.table_model.specs.BookIn.{period_in, row_record, taken_in}
use Rattle.table_model.specs.Readable.{IsChain, chained}
use Rattle.table_model.specs.Tables.{RecordRow, Tables}
use Rattle.table_model.proofs.BookLemmas.{link}
use Rattle.table_model.proofs.SetReading.{before_back}
use Rattle.consistent_tables.specs.Consistent.{AreConsistent, charged_back, line_at}
use Rattle.consistent_tables.proofs.ChargedSets.{back_step, charged_at, charged_dated, charged_held}
use Rattle.consistent_tables.proofs.ChargedSets.{days, has_charged, late_row, line_says, no_line}
use Rattle.consistent_tables.proofs.ChargedSets.{own_period, posted_is, same_held}
use Rattle.consistent_tables.proofs.HeldRows.{has_kept, held, is_held, kept, line_there}

-- nothing that fails passes with another
and_false : (a : Bool) → false ≡ (a && false)
and_false true = refl
and_false false = refl

-- A plus line says that a record was not charged before its period and is at its end; by whether the
-- period is none before that of the record's day, and the next is none either.
plus_turns : (early next : Bool) (line : Option Bool) (ends : Bool)
    → (early ≡ true → next ≡ true) → (early ≡ false → line ≡ None)
    → (early ≡ true → IfSome line (λ plus. plus ≡ ends))
    → option_map_or (λ plus. plus) line false
    ≡ (not (not early) && (not (early && option_map_or not line ends) && (next && ends)))
plus_turns true true None true still none says = refl
plus_turns true true None false still none says = refl
plus_turns true true (Some true) true still none says = refl
plus_turns true true (Some false) false still none says = refl
plus_turns true true (Some true) false still none says = absurd (true≢false (says refl))
plus_turns true true (Some false) true still none says = absurd (true≢false (sym (says refl)))
plus_turns true false line ends still none says = absurd (true≢false (sym (still refl)))
plus_turns false next line ends still none says =
    ap (λ line. option_map_or (λ plus. plus) line false) (none refl)

-- and a minus line that it was charged, and is no more
minus_turns : (early next : Bool) (line : Option Bool) (ends : Bool)
    → (early ≡ true → next ≡ true) → (early ≡ false → line ≡ None)
    → (early ≡ true → IfSome line (λ plus. plus ≡ ends))
    → option_map_or not line false
    ≡ (not (next && ends) && (early && option_map_or not line ends))
minus_turns true true None true still none says = refl
minus_turns true true None false still none says = refl
minus_turns true true (Some true) true still none says = refl
minus_turns true true (Some false) false still none says = refl
minus_turns true true (Some true) false still none says = absurd (true≢false (says refl))
minus_turns true true (Some false) true still none says = absurd (true≢false (sym (says refl)))
minus_turns true false line ends still none says = absurd (true≢false (sym (still refl)))
minus_turns false next line ends still none says =
    ap (λ line. option_map_or not line false) (none refl) ∙ and_false (not (next && ends))

module _ (naming : Naming) (tables : Tables) (whole : AreConsistent naming tables) where
  -- what was charged at the end of each period
  abbrev pub ends : ℕ → Records
  ends = charged_at naming tables whole

  -- the period after so many closes, by what was charged before it and at its end
  abbrev pub period_after : ℕ → Period
  period_after k = link (days tables) ends k

  -- its records are held
  pub its_held : (k : ℕ) → AreHeld (held naming tables whole) (period_after k)
  its_held k =
      period_held (held naming tables whole) (close_after k (days tables)) (ends k) (ends (suc k))
      (charged_held naming tables whole k) (charged_held naming tables whole (suc k))

  -- those of its lines are held
  lines_held : (keeps : Bool → Bool) (number : ℕ)
      → AreAmong (kept naming tables whole keeps number) (held naming tables whole)
  lines_held keeps number bytes there =
      let its = (line_there naming tables whole keeps number bytes there).0 in
      ap (has (held naming tables whole)) (sym its.is)
      ∙ is_held naming tables whole (name_of naming bytes) its.row its.found

  module _ (k : ℕ) (within : k ≤ length (days tables)) (name : List ℕ) (row : RecordRow)
      (there : get tables.records name ≡ Some row) where
    -- the period after so many closes is none before that of the record's day
    abbrev early : Bool
    early = nat_le (own_period tables row) k

    abbrev next : Bool
    next = nat_le (own_period tables row) (suc k)

    -- then the next one is none either
    still_early : early ≡ true → next ≡ true
    still_early is = later (own_period tables row) k is
      where
        later : (period k : ℕ) → nat_le period k ≡ true → nat_le period (suc k) ≡ true
        later period k is = grind (arith, nat_tests, is)

    -- its line in the period, and whether it was charged at the period's end
    abbrev line : Option Bool
    line = line_at tables name (suc k)

    abbrev now : Bool
    now = charged_back tables name (length (days tables) + 1 - suc k) row.charged

    -- whether it was charged before the period
    was_charged : has (ends k) (row_record row) ≡ (early && option_map_or not line now)
    was_charged =
        has_charged naming tables whole k name row there
        ∙ ap (λ was. early && was) (back_step tables name row.charged k within)

    -- whether it was at its end
    is_charged : has (ends (suc k)) (row_record row) ≡ (next && now)
    is_charged = has_charged naming tables whole (suc k) name row there

    -- its plus line adds it to the period
    plus_adds : has (added_in (suc k) tables) (row_record row)
        ≡ has (period_after k).added (row_record row)
    plus_adds =
        let bytes : List ℕ = row_record row in
        let last = close_after k (days tables) in
        has_kept naming tables whole (λ plus. plus) (suc k) name row there
        ∙ plus_turns early next line now still_early (no_line naming tables whole k name row there)
        (line_says naming tables whole k name row there within)
        ∙ sym (has_those (λ b. not (is_dated_after last b)) (without (ends (suc k)) (ends k)) bytes
        ∙ (λ i. not (late_row naming tables whole k name row there within i)
        && (has_those (λ b. not (has (ends k) b)) (ends (suc k)) bytes
        ∙ (λ i. not (was_charged i) && is_charged i)) i))

    -- its minus line takes it away
    minus_takes : has (taken_in (suc k) tables) (row_record row)
        ≡ has (period_after k).taken (row_record row)
    minus_takes =
        has_kept naming tables whole not (suc k) name row there
        ∙ minus_turns early next line now still_early (no_line naming tables whole k name row there)
        (line_says naming tables whole k name row there within)
        ∙ sym (has_those (λ b. not (has (ends (suc k)) b)) (ends k) (row_record row)
        ∙ (λ i. not (is_charged i) && was_charged i))

  -- so what the lines of a period add and reverse is what it adds and reverses: of closed periods, and
  -- of the open one
  pub added_is : (k : ℕ) → k ≤ length (days tables)
      → added_in (suc k) tables ≡ (period_after k).added
  added_is k within =
      same_held naming tables whole (added_in (suc k) tables) (period_after k).added
      (lines_held (λ plus. plus) (suc k)) (its_held k).added (plus_adds k within)

  pub taken_is : (k : ℕ) → k ≤ length (days tables)
      → taken_in (suc k) tables ≡ (period_after k).taken
  taken_is k within =
      same_held naming tables whole (taken_in (suc k) tables) (period_after k).taken
      (lines_held not (suc k)) (its_held k).taken (minus_takes k within)

  -- a period of the book is made of what was charged before it and at its end
  pub period_is : (k : ℕ) → k ≤ length (days tables)
      → period_in (suc k) (close_after k (days tables)) (ends (suc k)) tables ≡ period_after k
  period_is k within =
      λ i. record {
        counted = those (is_dated_after (close_after k (days tables))) (ends (suc k));
        added = added_is k within i;
        taken = taken_is k within i;
      }

  -- so the book goes back from one to the other,
  pub past_is : (k : ℕ) → k ≤ length (days tables)
      → past_in k (ends k) tables ≡ chained k (days tables) ends
  past_is zero within = refl
  past_is (suc k) within =
      let before : k ≤ length (days tables) = omega (arith, within) in
      let period = period_is k before in
      let was = ap (λ period. charged_before period (ends (suc k))) period
      ∙ before_back (close_after k (days tables)) (ends k) (ends (suc k))
      (charged_dated naming tables whole k k (omega arith) before) in
      (λ i. past_in k (was i) tables ++ period i ∷ [])
      ∙ ap (λ periods. periods ++ period_after k ∷ []) (past_is k before)

  -- and its closed periods are those of the sets
  pub book_past : (book_in tables).past ≡ chained (length (days tables)) (days tables) ends
  book_past =
      ap (λ charged. past_in (length (days tables)) charged tables)
      (posted_is naming tables whole)
      ∙ past_is (length (days tables)) (omega arith)

  -- they are linked
  pub chain : IsChain (book_in tables)
  chain = record {
    charged = ends;
    past = book_past;
    posted = posted_is naming tables whole;
    dated = λ k within. charged_dated naming tables whole k k (omega arith) within;
  }
