-- The identity of a record that measures work has the length that its parts need, by each rule.
use Rattle.std.proofs.Common.{◌≡◌, ℕ, List, Option, Some, None, length, inl, inr, ◌⊎◌}
use Rattle.std.specs.Option.{option_map_or}
use Rattle.smf_type30.proofs.IdentityLength.{identity-long, identity2-long}
use Rattle.book_model.specs.Words.{IsUsage, identity_of, identity2_of, identity_length}
use Rattle.book_model.specs.Words.{identity2_length, Rulings, identity_by}

-- by the rule in force
pub identity_by-long : (rulings : Rulings) (bytes : List ℕ) → IsUsage bytes
    → (length (identity_by rulings bytes) ≡ identity_length)
    ⊎ (length (identity_by rulings bytes) ≡ identity2_length)
identity_by-long rulings bytes usage =
    elim rulings.adopted as (λ (adopted : Option ℕ).
    (length (option_map_or (λ period. identity2_of bytes) adopted (identity_of bytes))
    ≡ identity_length)
    ⊎ (length (option_map_or (λ period. identity2_of bytes) adopted (identity_of bytes))
    ≡ identity2_length)) [
      | None ↦ inl (identity-long bytes usage)
      | Some period ↦ inr (identity2-long bytes usage)
    ]
