-- What is in an option.
use Rattle.std.proofs.Common.{◌≡◌, refl, sym, true≢false, Option, Some, None, IsSome}

-- what is there
pub what_is : {X : Type 0} (o : Option X) → IsSome o → (x : X) × (o ≡ Some x)
what_is None there = absurd (true≢false (sym there))
what_is (Some x) there = (x, refl)
