-- The identity in force, of work with a known identity by the second rule.
use Rattle.std.proofs.Common.{◌≡◌, ◌∙◌, ℕ, List, ◌++◌, length, take, sym, ap, Option, Some, None}
use Rattle.std.proofs.Math.Seq.{take-append_seam}
use Rattle.smf_type30.specs.Usage.{identity_of, identity2_of, initiation_of}
use Rattle.book_model.specs.Words.{Rulings, identity_by, identity_length}
use Rattle.book_core.specs.Identities.{identity_in}

-- by the first rule a prefix of the second rule's bytes is taken
pub first_in_second : (bytes second : List ℕ) → second ≡ identity2_of bytes
    → length (identity_of bytes) ≡ identity_length
    → take identity_length second ≡ identity_of bytes
unfolding identity2_of
first_in_second bytes second is long =
    ap (take identity_length) is
    ∙ ap (λ n. take n (identity_of bytes ++ initiation_of bytes)) (sym long)
    ∙ take-append_seam (identity_of bytes) _

-- so the identity in force is that of the record
pub in_force_is : (rulings : Rulings) (bytes second : List ℕ)
    → take identity_length second ≡ identity_of bytes → second ≡ identity2_of bytes
    → identity_in rulings.adopted second ≡ identity_by rulings bytes
in_force_is rulings bytes second first is = by rulings.adopted
  where
    by : (adopted : Option ℕ)
        → identity_in adopted second ≡ identity_by (record rulings { adopted = adopted }) bytes
    by None = first
    by (Some period) = is
