-- The details of a ledger come in turn.
use Rattle.std.specs.Prelude.{◌≡◌, ℕ, List, [], ◌∷◌, refl, take, Option, Some, None, Result, Ok}
use Rattle.std.specs.Prelude.{Err, slice_get, ok_or, option_map}
use Rattle.std.proofs.Common.{◌∙◌, ap, subst}
use Rattle.book_model.specs.Std.{IsStrictlySortedBy}
use Rattle.book_model.specs.declared.detail.Detail.{Detail}
use Rattle.book_model.specs.declared.fault.LedgerFault.{LedgerFault}
use Rattle.book_model.specs.declared.fault.LedgerFault.TheVariants.{NoSuchPeriod}
use Rattle.book_model.specs.Words.{Book, Naming, Period, by_detail, details_asked, details_of}
use Rattle.book_model.specs.Words.{details_outcome, next_after, next_detail_outcome, period_of}
use Rattle.book_model.proofs.DetailLemmas.{asked_rise, details_rise}
use Rattle.book_model.proofs.DetailOrder.{walked}
use Rattle.book_lists.specs.Cursors.{IsNext, last_of}
use Rattle.book_lists.specs.Shown.{shown_by}
use Rattle.book_model.proofs.DetailOrder as order

-- an answer has one value
same_value : {A : Type 0} {one other : A}
    → ◌≡◌ {A = Result A LedgerFault} (Ok one) (Ok other) → one ≡ other
same_value is = cc

same_last : (details : List Detail) → last_of details ≡ order.last_of details
same_last [] = refl
same_last (detail ∷ []) = refl
same_last (detail ∷ next ∷ more) = same_last (next ∷ more)

module _ (period : ℕ) (centre : Option (List ℕ)) (naming : Naming) (book : Book) where
  -- the details that a book answers
  abbrev all_details : Result (List Detail) LedgerFault
  all_details = (details_outcome naming period centre book).answer

  abbrev its : Period → List Detail
  its found = details_asked centre (details_of naming book.rulings found)

  -- the next one is one of them
  next_shown : (last : Option Detail)
      → (next_detail_outcome naming period centre last book).answer
      ≡ shown_by (next_after last) all_details
  next_shown last = by_period (period_of book period)
    where
      by_period : (found : Option Period)
          → ok_or (option_map (λ period. next_after last (its period)) found) NoSuchPeriod
          ≡ shown_by (next_after last) (ok_or (option_map its found) NoSuchPeriod)
      by_period None = refl
      by_period (Some period) = refl

  -- they rise
  all_rise : (details : List Detail) → all_details ≡ Ok details → IsStrictlySortedBy by_detail details
  all_rise details answered = by_period (period_of book period) answered
    where
      by_period : (found : Option Period) → ok_or (option_map its found) NoSuchPeriod ≡ Ok details
          → IsStrictlySortedBy by_detail details
      by_period None is = cc
      by_period (Some period) is =
          subst (IsStrictlySortedBy by_detail) (same_value is)
          (asked_rise centre (details_of naming book.rulings period)
          (details_rise naming book.rulings period.counted))

  next_of : (answer : Result (List Detail) LedgerFault) (count : ℕ) (last : Option Detail)
      → ((details : List Detail) → answer ≡ Ok details → IsStrictlySortedBy by_detail details)
      → ((details : List Detail) → answer ≡ Ok details → last ≡ last_of (take count details))
      → shown_by (next_after last) answer ≡ shown_by (λ details. slice_get details count) answer
  next_of (Err fault) count last rise known = refl
  next_of (Ok details) count last rise known =
      ap Ok
      (ap (λ last. next_after last details)
      (known details refl ∙ same_last (take count details))
      ∙ walked details count (rise details refl))

  -- so they come in turn
  pub details_in_turn : (count : ℕ) (last : Option Detail)
      → IsNext all_details count last (next_detail_outcome naming period centre last book).answer
  details_in_turn count last known = next_shown last ∙ next_of all_details count last all_rise known
