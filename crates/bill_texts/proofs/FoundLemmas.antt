-- What is found in a list is as all of it are.
use Rattle.std.proofs.Common.{◌≡◌, ℕ, All, List, Some, slice_get, subst}
use Rattle.book_model.proofs.Std.{get_or_from_slice_get, slice_get_within}

pub found_as_all : {X : Type 0} (P : X → Type 0) (xs : List X) → All P xs → (i : ℕ) (x : X)
    → slice_get xs i ≡ Some x → P x
found_as_all P xs all i x is =
    subst P (get_or_from_slice_get xs i x x is) (all i x (slice_get_within xs i x is))
