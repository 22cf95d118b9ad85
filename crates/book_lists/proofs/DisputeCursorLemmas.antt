-- The calls that read disputes in turn.
use Rattle.std.proofs.Common.{◌≡◌, ◌∙◌, ◌<◌, ℕ, zero, suc, List, [], ◌∷◌, ◌++◌, refl, sym, ap}
use Rattle.std.proofs.Common.{subst, arith, Option, Some, Result, option_map}
use Rattle.book_model.specs.declared.dispute.Dispute.{Dispute}
use Rattle.book_model.specs.Words.{Disputed, dispute_outcome, dispute_shown}
use Rattle.book_core.specs.Words.{Seen, IsCall}
use Rattle.book_lists.specs.DisputesInTurn.{bytes_behind, bytes_from}
use Rattle.book_lists.proofs.Words.{LedgerFault}

-- a number that is not 0 is above it
pub above_zero : (count : ℕ) → (count ≡ 0 → ⊥) → 0 < count
above_zero zero later = absurd (later refl)
above_zero (suc before) later = omega arith

-- the call that reads the dispute from some bytes on
abbrev From : Seen → Seen → Result (Option Dispute) LedgerFault → List ℕ → Type 0
From old new result bytes =
    IsCall (option_map dispute_shown) old new result (dispute_outcome old.naming bytes)

module _ {old new : Seen} {result : Result (Option Dispute) LedgerFault} where
  -- at first it is from no bytes on,
  pub first_asked : (count : ℕ) (last : Option Disputed) → count ≡ 0 → From old new result []
      → From old new result (bytes_from count last)
  first_asked zero last first call = call
  first_asked (suc before) last first call = absurd (omega (arith, first))

  -- and later from those behind the last
  pub later_asked : (count : ℕ) (last : Option Disputed) → (count ≡ 0 → ⊥)
      → From old new result (bytes_behind last) → From old new result (bytes_from count last)
  later_asked zero last later call = absurd (later refl)
  later_asked (suc before) last later call = call

  pub behind_asked : (last : Option Dispute) (dispute : Dispute) (bytes : List ℕ)
      → last ≡ Some dispute → bytes ≡ dispute.identity.items ++ 0 ∷ [] → From old new result bytes
      → From old new result (bytes_behind (option_map dispute_shown last))
  behind_asked last dispute bytes is behind call =
      subst (λ bytes. From old new result bytes)
      (behind ∙ sym (ap (λ last. bytes_behind (option_map dispute_shown last)) is)) call
