-- What a record's life has before a closed period stays.
use Rattle.std.proofs.Common.{◌≡◌, ℕ, suc, ◌+◌, ◌≤◌, List, [], ◌∷◌, ◌++◌, length, refl, sym, ap}
use Rattle.std.proofs.Common.{◌∙◌, true, false, Bool, cond, ◌&&◌, None, arith, filter, nat_lt}
use Rattle.std.proofs.Common.{option_map, le-ltb, length-append}
use Rattle.book_model.proofs.Std.{last_or, filter-append}
use Rattle.book_model.specs.declared.trail.Deed.{Deed}
use Rattle.book_model.specs.Words.{Book, Event, Period, PeriodClosed, after_all, charged_before}
use Rattle.book_model.specs.Words.{charged_through, has, is_charge, last_close, life_from, life_of}
use Rattle.book_model.specs.Words.{open_period, period_by, turn_if, turns_in}
use Rattle.book_laws.proofs.Words.{Added, Charged, Reversed, Turn}

-- a charge in a period before that of the number
abbrev pub is_before : ℕ → Turn → Bool
is_before number turn = is_charge turn.deed && nat_lt turn.period number

abbrev earlier_charges : ℕ → List Turn → List Turn
earlier_charges number turns = filter (is_before number) turns

-- what the earlier charges of a record are stays from one book to another
record KeepsTurns (number : ℕ) (bytes : List ℕ) (old new : Book) : Type 0 where
  long : number ≤ length new.past
  same : earlier_charges number (life_from 1 new.past bytes)
      ≡ earlier_charges number (life_from 1 old.past bytes)

module _ (number : ℕ) (bytes : List ℕ) where
  -- no turn of a period that is not before is one,
  none_of : (k : ℕ) → number ≤ k → (test : Bool) (deed : Deed)
      → earlier_charges number (turn_if test k deed) ≡ []
  none_of k late false deed = refl
  none_of k late true deed =
      let turn : Turn = record { period = k; deed = deed } in
      ap (λ b. cond (is_charge deed && b) (turn ∷ []) []) (le-ltb k number late)
      ∙ by_deed turn (is_charge deed)
    where
      by_deed : (turn : Turn) (b : Bool) → cond (b && false) (turn ∷ []) [] ≡ []
      by_deed turn true = refl
      by_deed turn false = refl

  none_in : (k : ℕ) → number ≤ k → (period : Period)
      → earlier_charges number (turns_in k period bytes) ≡ []
  none_in k late period =
      let counted = turn_if (has period.counted bytes) k Charged in
      let added = turn_if (has period.added bytes) k Added in
      let taken = turn_if (has period.taken bytes) k Reversed in
      filter-append (is_before number) (counted ++ added) taken
      ∙ ap (λ turns. turns ++ earlier_charges number taken)
      (filter-append (is_before number) counted added)
      ∙ (λ i. none_of k late (has period.counted bytes) Charged i
      ++ none_of k late (has period.added bytes) Added i
      ++ none_of k late (has period.taken bytes) Reversed i)

  -- so one more period after those before it has none
  one_later : (k : ℕ) (periods : List Period) (last : Period) → number ≤ k + length periods
      → earlier_charges number (life_from k (periods ++ last ∷ []) bytes)
      ≡ earlier_charges number (life_from k periods bytes)
  one_later k [] last late =
      filter-append (is_before number) (turns_in k last bytes) []
      ∙ ap (λ turns. turns ++ []) (none_in k (omega arith) last)
  one_later k (first ∷ later) last late =
      let own = turns_in k first bytes in
      filter-append (is_before number) own (life_from (suc k) (later ++ last ∷ []) bytes)
      ∙ ap (λ turns. earlier_charges number own ++ turns) (one_later (suc k) later last (omega arith))
      ∙ sym (filter-append (is_before number) own (life_from (suc k) later bytes))

  -- So the earlier charges stay, whatever follows.
  keeps_turns : (later : List Event) (start : Book) → number ≤ length start.past
      → KeepsTurns number bytes start (after_all later start)
  keeps_turns [] start long = record { long = long; same = refl }
  keeps_turns (PeriodClosed said day ∷ later) start long =
      let before = keeps_turns later start long in
      let book : Book = after_all later start in
      let ended : Period = period_by (last_close book.rulings) book.posted
      (charged_through book.rulings day book.held) in
      let more = length-append book.past (ended ∷ []) in
      let still = before.long in record {
        long = omega arith;
        same = one_later 1 book.past ended (omega arith) ∙ before.same;
      }
  keeps_turns (event ∷ later) start long =
      let before = keeps_turns later start long in
      record { long = before.long; same = before.same }

  pub charge_stays : (later : List Event) (old : Book) → number ≤ length old.past
      → charged_before number (life_of (after_all later old) bytes)
      ≡ charged_before number (life_of old bytes)
  charge_stays later old long =
      let new : Book = after_all later old in
      let kept = keeps_turns later old long in
      let still = kept.long in
      ap (λ turns. option_map (λ (turn : Turn). turn.period) (last_or None turns))
      (one_later 1 new.past (open_period new) (omega arith)
      ∙ kept.same
      ∙ sym (one_later 1 old.past (open_period old) (omega arith)))
