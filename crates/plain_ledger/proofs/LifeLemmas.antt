-- The life of a record of a plain ledger, by the shares that it has in the periods.
use Rattle.std.proofs.Common.{◌≡◌, ◌∙◌, ℕ, suc, ◌+◌, ◌<◌, List, [], ◌∷◌, ◌++◌, length, map, refl}
use Rattle.std.proofs.Common.{sym, ap, Bool, Option, None, Some, take, get_or, append-nil, arith}
use Rattle.std.proofs.Common.{length-take-le, append_assoc}
use Rattle.std.specs.BTreeMap.{is_at, get}
use Rattle.std.specs.Map.{keys_of}
use Rattle.book_model.proofs.Std.{IsStrictlySortedBy, length-map, map-append, take_more}
use Rattle.book_model.proofs.Std.{exact_bytes, tells_apart}
use Rattle.book_model.specs.declared.trail.Turn.{Turn}
use Rattle.book_model.specs.Words.{Naming, Period, Rulings, by_bytes, has, life_from, life_of}
use Rattle.book_model.specs.Words.{turn_if, turns_in}
use Rattle.plain_ledger.specs.declared.treatment.ClosedPeriod.{ClosedPeriod}
use Rattle.plain_ledger.specs.declared.held.HeldRecord.{HeldRecord}
use Rattle.plain_ledger.specs.declared.period_end.PeriodEnd.{PeriodEnd}
use Rattle.plain_ledger.specs.declared.treatment.Treatment.{Treatment}
use Rattle.plain_ledger.specs.declared.treatment.Treatment.TheVariants.{Counted, Added, Taken}
use Rattle.plain_ledger.specs.Plain.{AreBooked, Entry, record_of}
use Rattle.plain_ledger.specs.PlainBook.{book_with}
use Rattle.plain_ledger.specs.PlainLives.{closed_shares, turn_at, turns_at}
use Rattle.plain_ledger.specs.Treatments.{IsPeriodEnd, Names, has_name_in, is_added, is_counted}
use Rattle.plain_ledger.specs.Treatments.{is_taken, period_with, records_where, treatment_at}
use Rattle.plain_ledger.specs.Treatments.{treatment_closed, under_name}
use Rattle.plain_ledger.proofs.ChosenLemmas.{found_holds}
use Rattle.plain_ledger.proofs.HeldLemmas.{bytes_of}
use Rattle.plain_ledger.proofs.TreatmentLemmas.{has-where, period-ends}
use Rattle.book_model.specs.declared.trail.Deed.TheVariants as deed

-- what a period did with a record, by the share that the record has in it
by_share : (number : ℕ) (share : Option Treatment)
    → turn_if (is_counted share) number deed.Charged ++ turn_if (is_added share) number deed.Added
    ++ turn_if (is_taken share) number deed.Reversed
    ≡ turn_at number share
by_share number None = refl
by_share number (Some Counted) = refl
by_share number (Some Added) = refl
by_share number (Some Taken) = refl

-- one period more comes after the others
pub turns-more : (number : ℕ) (shares : List (Option Treatment)) (share : Option Treatment)
    → turns_at number (shares ++ share ∷ [])
    ≡ turns_at number shares ++ turn_at (number + length shares) share
turns-more number [] share =
    let same : number ≡ number + 0 = omega arith in
    append-nil (turn_at number share) ∙ ap (λ (n : ℕ). turn_at n share) same
turns-more number (first ∷ shares) share =
    let same : suc number + length shares ≡ number + suc (length shares) = omega arith in
    ap (λ turns. turn_at number first ++ turns) (turns-more (suc number) shares share)
    ∙ sym (append_assoc (turn_at number first) (turns_at (suc number) shares)
    (turn_at (suc number + length shares) share))
    ∙ ap (λ (n : ℕ). turn_at number first ++ turns_at (suc number) shares ++ turn_at n share) same

-- so it is with one closed period more
pub closed-more : (name : List ℕ) (closed : List ClosedPeriod) (at : ℕ) (one : ClosedPeriod)
    → at < length closed → one ≡ get_or closed at one
    → turns_at 1 (closed_shares name (take (at + 1) closed))
    ≡ turns_at 1 (closed_shares name (take at closed))
    ++ turn_at (at + 1) (get by_bytes one.treatments name)
closed-more name closed at one within is =
    let so_far : List ClosedPeriod = take at closed in
    let share : Option Treatment = get by_bytes one.treatments name in
    let mapped = length-map so_far
    (λ (period : ClosedPeriod). get by_bytes period.treatments name) in
    let taken : length so_far ≡ at = length-take-le at closed (omega (arith, within)) in
    let many : 1 + length (closed_shares name so_far) ≡ at + 1 = omega (arith, mapped, taken) in
    ap (λ some. turns_at 1 (closed_shares name some))
    (take_more closed at one within ∙ ap (λ last. so_far ++ last ∷ []) (sym is))
    ∙ ap (turns_at 1)
    (map-append (λ (period : ClosedPeriod). get by_bytes period.treatments name) so_far (one ∷ []))
    ∙ turns-more 1 (closed_shares name so_far) share
    ∙ ap (λ (n : ℕ). turns_at 1 (closed_shares name so_far) ++ turn_at n share) many

module _ {naming : Naming} {rulings : Rulings} {entries : List Entry} {total : ℕ}
    (kept : AreBooked naming rulings entries total)
    (rising : IsStrictlySortedBy by_bytes (keys_of entries)) (name : List ℕ) (held : HeldRecord)
    (found : under_name name entries ≡ Some held) where
  -- what a period did with the record of an entry
  own_turns : (number : ℕ) (treatment : Entry → Option Treatment)
      → turns_in number (period_with treatment entries) (record_of held)
      ≡ turn_at number (treatment (name, held))
  own_turns number treatment =
      let own : (p : Entry → Bool) → has (records_where p entries) (record_of held) ≡ p (name, held) =
      λ p. found_holds (λ entry. has (records_where p entries) (bytes_of entry) ≡ p entry)
      (is_at (by_bytes name)) name (tells_apart exact_bytes name) entries held
      (has-where kept rising p) found in
      (λ i. turn_if (own (λ entry. is_counted (treatment entry)) i) number deed.Charged
      ++ turn_if (own (λ entry. is_added (treatment entry)) i) number deed.Added
      ++ turn_if (own (λ entry. is_taken (treatment entry)) i) number deed.Reversed)
      ∙ by_share number (treatment (name, held))

  -- what closed periods did, and one after them
  all_turns : (number : ℕ) (closed : List ClosedPeriod) (treatment : Entry → Option Treatment)
      → life_from number (map (λ period. period_with (treatment_closed period) entries) closed
      ++ period_with treatment entries ∷ []) (record_of held)
      ≡ turns_at number (closed_shares name closed ++ treatment (name, held) ∷ [])
  all_turns number [] treatment = ap (λ turns. turns ++ []) (own_turns number treatment)
  all_turns number (one ∷ closed) treatment =
      let first = own_turns number (treatment_closed one) in
      let rest = all_turns (suc number) closed treatment in
      λ i. first i ++ rest i

  -- So its life is told by its shares.
  pub life-held : (posted : Names) (closed : List ClosedPeriod) (period_end : PeriodEnd)
      → IsPeriodEnd entries rulings None period_end
      → life_of (book_with rulings entries posted closed) (record_of held)
      ≡ turns_at 1 (closed_shares name closed
      ++ treatment_at period_end (has_name_in posted (name, held)) held ∷ [])
  life-held posted closed period_end ends =
      let treatment : Entry → Option Treatment =
      λ entry. treatment_at period_end (has_name_in posted entry) entry.1 in
      ap (λ (last : Period). life_from 1
      (map (λ period. period_with (treatment_closed period) entries) closed ++ last ∷ [])
      (record_of held))
      (sym (period-ends kept rising (has_name_in posted) None period_end ends))
      ∙ all_turns 1 closed treatment

  -- and by what the closed periods did, and the open one
  pub life-told : (posted : Names) (closed : List ClosedPeriod) (period_end : PeriodEnd)
      (turns life : List Turn) (share : Option Treatment) (number : ℕ)
      → IsPeriodEnd entries rulings None period_end
      → turns ≡ turns_at 1 (closed_shares name closed) → number ≡ length closed + 1
      → share ≡ treatment_at period_end (has_name_in posted (name, held)) held
      → life ≡ turns ++ turn_at number share
      → life ≡ life_of (book_with rulings entries posted closed) (record_of held)
  life-told posted closed period_end turns life share number ends so_far is_open is_share adds =
      let shares : List (Option Treatment) = closed_shares name closed in
      let many = length-map closed
      (λ (period : ClosedPeriod). get by_bytes period.treatments name) in
      let same : number ≡ 1 + length shares = omega (arith, is_open, many) in
      adds
      ∙ (λ i. so_far i ++ turn_at (same i) (is_share i))
      ∙ sym (turns-more 1 shares
      (treatment_at period_end (has_name_in posted (name, held)) held))
      ∙ sym (life-held posted closed period_end ends)
