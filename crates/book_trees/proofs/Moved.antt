-- A store was rolled back, and the pages of its log were moved into the file, or not.
use Rattle.std.proofs.Common.{Result, Ok, Err}
use Rattle.std.specs.Prelude.{OnOk}

-- what is so unless pages spilled is so where none did
pub moved_if_open : {T E : Type 0} (P Q R : Type 0) (result : Result T E) → OnOk result (P → R)
    → (Q → P) → OnOk result (Q → R)
moved_if_open P Q R (Ok value) moved logged = λ is_open. moved (logged is_open)
moved_if_open P Q R (Err error) moved logged = moved
