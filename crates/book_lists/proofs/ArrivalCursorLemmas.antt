-- The calls that read records in turn.
use Rattle.std.proofs.Common.{◌≡◌, ℕ, zero, suc, List, [], refl, arith, Option, Result, option_map}
use Rattle.book_model.specs.declared.entry.Arrival.{Arrival}
use Rattle.book_model.specs.Words.{arrival_outcome}
use Rattle.book_core.specs.Words.{Seen, IsCall}
use Rattle.book_lists.specs.ArrivalsInTurn.{name_behind, name_from}
use Rattle.book_lists.proofs.CursorLemmas.{as_found}
use Rattle.book_lists.proofs.Words.{LedgerFault}

-- the call that reads the record from some bytes on,
abbrev From : Seen → Seen → Result (Option Arrival) LedgerFault → List ℕ → Type 0
From old new result bytes =
    IsCall (λ (found : Option Arrival). found) old new result (arrival_outcome old.naming bytes)

-- and the one after so many records
abbrev Next : Seen → Seen → Result (Option Arrival) LedgerFault → ℕ → Option Arrival → Type 0
Next old new result count last =
    IsCall (option_map (λ (arrival : Arrival). arrival)) old new result
    (arrival_outcome old.naming (name_from count (option_map (λ (arrival : Arrival). arrival) last)))

module _ {old new : Seen} {result : Result (Option Arrival) LedgerFault} where
  -- at first it is from no bytes on,
  pub first_arrival : (count : ℕ) (last : Option Arrival) → count ≡ 0 → From old new result []
      → Next old new result count last
  first_arrival zero last first call =
      as_found last (λ last. arrival_outcome old.naming (name_from 0 last)) call
  first_arrival (suc before) last first call = absurd (omega (arith, first))

  -- and later from those behind the last
  pub later_arrival : (count : ℕ) (last : Option Arrival) → (count ≡ 0 → ⊥)
      → From old new result (name_behind last) → Next old new result count last
  later_arrival zero last later call = absurd (later refl)
  later_arrival (suc before) last later call =
      as_found last (λ last. arrival_outcome old.naming (name_behind last)) call
