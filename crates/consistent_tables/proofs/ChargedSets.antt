-- Which records were charged at the end of each period, by the rows and the lines of consistent
-- tables.
use Rattle.std.proofs.Common.{◌≡◌, ◌∙◌, ◌+◌, ◌-◌, ◌<◌, ◌≤◌, ◌&&◌, List, ℕ, ℤ, zero, suc, Bool, true}
use Rattle.std.proofs.Common.{false, true≢false, not, None, Some, ap, arith, length, refl, sym}
use Rattle.std.proofs.Common.{is_some, subst, IfSome, if◌then◌else◌, nat_le, nat_lt}
use Rattle.std.specs.Cmp.{both_ways}
use Rattle.std.specs.FinMap.{get}
use Rattle.std.specs.Option.{option_map_or}
use Rattle.std.proofs.Math.Bool.{and-true}
use Rattle.std.proofs.lemmas.Bool.Decides.{nat_tests}
use Rattle.std.proofs.lemmas.Option.{same_Some}
use Rattle.book_model.specs.Words.{AreAmong, Naming, Records, has, is_dated_after, name_of, those}
use Rattle.book_model.proofs.RecordSets.{first_of, has_those, in_those, same_records}
use Rattle.table_model.specs.BookIn.{book_in, close_after, records_of_rows, row_record}
use Rattle.table_model.specs.Tables.{RecordRow, Tables}
use Rattle.table_model.proofs.CostLemmas.{day-price}
use Rattle.consistent_tables.specs.Consistent.{AreConsistent, AreInTurn, charged_back, line_at}
use Rattle.consistent_tables.specs.Consistent.{periods_after, ruled}
use Rattle.consistent_tables.specs.DueRows.{period_from}
use Rattle.consistent_tables.proofs.ClosePeriods.{after_close}
use Rattle.consistent_tables.proofs.HeldRows.{has_where, held, is_held, its_name, row_of, row_where}

-- one period less back is one line less
one_back : (n k : ℕ) → k ≤ n → n + 1 - k ≡ suc (n + 1 - suc k)
one_back n k within = omega (arith, within)

its_number : (n k : ℕ) → k ≤ n → n + 1 - (n + 1 - suc k) ≡ suc k
its_number n k within = omega (arith, within)

-- a period that has begun after so many closes is not one that comes later
pub late_not : (k period : ℕ) → nat_lt k period ≡ not (nat_le period k)
late_not k period = grind (arith, nat_tests)

module _ (tables : Tables) where
  -- the days of the closes
  abbrev pub days : List ℤ
  days = (ruled tables).closes

  -- the period of a row's day
  abbrev pub own_period : RecordRow → ℕ
  own_period row = period_from 1 days row.priced.day

  -- A record was charged at the end of a period, by its row: the period is none before that of its
  -- day, and what is charged now and the later lines say so.
  abbrev pub is_charged_at : ℕ → List ℕ → RecordRow → Bool
  is_charged_at number name row =
      nat_le (own_period row) number
      && charged_back tables name (length days + 1 - number) row.charged

  -- its line in a period turns what was charged before it
  pub back_step : (name : List ℕ) (now : Bool) (k : ℕ) → k ≤ length days
      → charged_back tables name (length days + 1 - k) now
      ≡ option_map_or not (line_at tables name (suc k))
      (charged_back tables name (length days + 1 - suc k) now)
  back_step name now k within =
      ap (λ back. charged_back tables name back now) (one_back (length days) k within)
      ∙ ap (λ period. option_map_or not (line_at tables name period)
      (charged_back tables name (length days + 1 - suc k) now)) (its_number (length days) k within)

  -- of lines in turn, each says what its period ended with
  pub in_turn : (name : List ℕ) (now : Bool) (all back : ℕ) → AreInTurn tables name all now
      → back < all
      → IfSome (line_at tables name (length days + 1 - back))
      (λ plus. plus ≡ charged_back tables name back now)
  in_turn name now zero back turns less = absurd (omega (arith, less))
  in_turn name now (suc all) back turns less =
      elim (nat_lt back all) as (λ b. nat_lt back all ≡ b
      → IfSome (line_at tables name (length days + 1 - back))
      (λ plus. plus ≡ charged_back tables name back now)) [
        | true ↦ λ later.
            let fewer : back < all = grind (arith, nat_tests) in
            in_turn name now all back turns.1 fewer
        | false ↦ λ not_later.
            let same : all ≡ back = grind (arith, nat_tests, less) in
            subst (λ n. IfSome (line_at tables name (length days + 1 - n))
            (λ plus. plus ≡ charged_back tables name n now)) same turns.0
      ] refl

module _ (naming : Naming) (tables : Tables) (whole : AreConsistent naming tables) where
  -- the records that were charged at the end of a period
  abbrev pub charged_at : ℕ → Records
  charged_at number =
      those (λ bytes. option_map_or (is_charged_at tables number (name_of naming bytes))
      (get tables.records (name_of naming bytes)) false) (held naming tables whole)

  -- each is held
  pub charged_held : (number : ℕ) → AreAmong (charged_at number) (held naming tables whole)
  charged_held number bytes there =
      in_those (λ bytes. option_map_or (is_charged_at tables number (name_of naming bytes))
      (get tables.records (name_of naming bytes)) false) (held naming tables whole) bytes there

  -- the record of a row was charged if the row and the later lines say so
  pub has_charged : (number : ℕ) (name : List ℕ) (row : RecordRow)
      → get tables.records name ≡ Some row
      → has (charged_at number) (row_record row) ≡ is_charged_at tables number name row
  has_charged number name row there =
      let asked : List ℕ → Bool = λ name. option_map_or (is_charged_at tables number name)
      (get tables.records name) false in
      has_those (λ bytes. asked (name_of naming bytes)) (held naming tables whole) (row_record row)
      ∙ (λ i. (ap asked (sym (its_name naming tables whole name row there))
      ∙ ap (λ found. option_map_or (is_charged_at tables number name) found false) there) i
      && is_held naming tables whole name row there i)
      ∙ and-true (is_charged_at tables number name row)

  -- sets of held records that agree on the record of each row are one
  pub same_held : (one other : Records) → AreAmong one (held naming tables whole)
      → AreAmong other (held naming tables whole)
      → ((name : List ℕ) (row : RecordRow) → get tables.records name ≡ Some row
      → has one (row_record row) ≡ has other (row_record row))
      → one ≡ other
  same_held one other of_one of_other agree =
      let same = λ (bytes : List ℕ) (there : has (held naming tables whole) bytes ≡ true).
      let its = row_of naming tables whole bytes there in
      subst (λ bytes. has one bytes ≡ has other bytes) its.is
      (agree (name_of naming bytes) its.row its.found) in
      same_records one other (λ bytes.
      both_ways (has one bytes) (has other bytes)
      (λ there. sym (same bytes (of_one bytes there)) ∙ there)
      (λ there. same bytes (of_other bytes there) ∙ there))

  -- the records of the rows that pass a test are held
  pub where_held : (test : RecordRow → Bool)
      → AreAmong (records_of_rows test tables.records) (held naming tables whole)
  where_held test bytes there =
      let its = (row_where naming tables whole test bytes there).0 in
      ap (has (held naming tables whole)) (sym its.is)
      ∙ is_held naming tables whole (name_of naming bytes) its.row its.found

  -- a row's record is dated after a close if its period comes later
  pub late_row : (k : ℕ) (name : List ℕ) (row : RecordRow) → get tables.records name ≡ Some row
      → k ≤ length (days tables)
      → is_dated_after (close_after k (days tables)) (row_record row)
      ≡ not (nat_le (own_period tables row) k)
  late_row k name row there within =
      let own = whole.records name row there in
      after_close (row_record row) (days tables) k whole.in_order within
      ∙ ap (λ day. nat_lt k (period_from 1 (days tables) day))
      (sym (day-price (ruled tables) (row_record row) row.priced own.price))
      ∙ late_not k (own_period tables row)

  -- so what was charged at the end of a period is dated no later than a close that comes then or later
  pub charged_dated : (number k : ℕ) → number ≤ k → k ≤ length (days tables) → (bytes : List ℕ)
      → has (charged_at number) bytes ≡ true
      → is_dated_after (close_after k (days tables)) bytes ≡ false
  charged_dated number k later within bytes there =
      let its = row_of naming tables whole bytes (charged_held number bytes there) in
      let name : List ℕ = name_of naming bytes in
      let period : ℕ = own_period tables its.row in
      let early : nat_le period number ≡ true =
      first_of (nat_le period number)
      (charged_back tables name (length (days tables) + 1 - number) its.row.charged)
      (sym (has_charged number name its.row its.found) ∙ ap (has (charged_at number)) its.is ∙ there)
      in
      ap (is_dated_after (close_after k (days tables))) (sym its.is)
      ∙ late_row k name its.row its.found within
      ∙ ap not (still period number k early later)
    where
      still : (period number k : ℕ) → nat_le period number ≡ true → number ≤ k
          → nat_le period k ≡ true
      still period number k early later = grind (arith, nat_tests, early, later)

  -- A line of a record in a period comes after the period of its day,
  pub no_line : (k : ℕ) (name : List ℕ) (row : RecordRow) → get tables.records name ≡ Some row
      → nat_le (own_period tables row) k ≡ false → line_at tables name (suc k) ≡ None
  no_line k name row there late =
      elim (line_at tables name (suc k)) as
      (λ line. line_at tables name (suc k) ≡ line → line ≡ None) [
        | None ↦ λ none. refl
        | Some plus ↦ λ found.
            let own = whole.lines (suc k) name (ap is_some found) in
            let same = same_Some own.row row (sym own.held ∙ there) in
            let after : own_period tables row < suc k =
            subst (λ row. own_period tables row < suc k) same own.after in
            absurd (true≢false (sym (early (own_period tables row) after) ∙ late))
      ] refl
    where
      early : (period : ℕ) → period < suc k → nat_le period k ≡ true
      early period after = grind (arith, nat_tests, after)

  -- and says what its period ended with
  pub line_says : (k : ℕ) (name : List ℕ) (row : RecordRow) → get tables.records name ≡ Some row
      → k ≤ length (days tables) → nat_le (own_period tables row) k ≡ true
      → IfSome (line_at tables name (suc k))
      (λ plus. plus
      ≡ charged_back tables name (length (days tables) + 1 - suc k) row.charged)
  line_says k name row there within early =
      subst (λ n. IfSome (line_at tables name n)
      (λ plus. plus ≡ charged_back tables name (length (days tables) + 1 - suc k) row.charged))
      (its_number (length (days tables)) k within)
      (in_turn tables name row.charged (periods_after tables row) (length (days tables) + 1 - suc k)
      (whole.records name row there).turns
      (after_it (length (days tables)) (own_period tables row) k within early))
    where
      after_it : (last period k : ℕ) → k ≤ last → nat_le period k ≡ true
          → last + 1 - suc k < last + 1 - period
      after_it last period k within early =
          let less : period ≤ k = grind (arith, nat_tests, early) in
          omega (arith, within, less)

  -- what is posted was charged at the end of the last closed period
  pub posted_is : (book_in tables).posted ≡ charged_at (length (days tables))
  posted_is =
      same_held (records_of_rows (λ row. row.posted) tables.records)
      (charged_at (length (days tables))) (where_held (λ row. row.posted))
      (charged_held (length (days tables))) (λ name row there.
      has_where naming tables whole (λ row. row.posted) name row there
      ∙ (whole.records name row there).posted
      ∙ by_period (length (days tables)) (own_period tables row)
      (λ back. charged_back tables name back row.charged)
      ∙ sym (has_charged (length (days tables)) name row there))
    where
      and_not : (a b : Bool) → (if a then b else false) ≡ (a && b)
      and_not true b = refl
      and_not false b = refl

      is_closed : (last period : ℕ) → nat_lt 0 (last + 1 - period) ≡ nat_le period last
      is_closed last period = grind (arith, nat_tests)

      by_period : (last period : ℕ) (was : ℕ → Bool)
          → (if nat_lt 0 (last + 1 - period) then was 1 else false)
          ≡ (nat_le period last && was (last + 1 - last))
      by_period last period was =
          let one : 1 ≡ last + 1 - last = omega arith in
          and_not (nat_lt 0 (last + 1 - period)) (was 1)
          ∙ (λ i. is_closed last period i && was (one i))
