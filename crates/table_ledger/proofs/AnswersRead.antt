-- What an import has read, with the answers to its records counted one after another.
use Rattle.std.proofs.Common.{◌≡◌, ◌∙◌, ◌+◌, ◌<◌, ◌++◌, ℕ, List, [], ◌∷◌, ap, get_or, length}
use Rattle.std.proofs.Common.{refl, sym, take}
use Rattle.book_model.proofs.Std.{take_more}
use Rattle.book_model.specs.declared.answer.Accepted.{Accepted}
use Rattle.book_model.specs.declared.answer.Accepted.TheVariants.{Kept, Known, Unpriced}
use Rattle.book_model.specs.Words.{Reading, read_with}

-- one after others
read_behind : (answers : List Accepted) (answer : Accepted) (reading : Reading)
    → read_with (answer ∷ []) (read_with answers reading)
    ≡ read_with (answers ++ answer ∷ []) reading
read_behind [] answer reading = refl
read_behind (Kept ∷ later) answer reading = read_behind later answer reading
read_behind (Known ∷ later) answer reading =
    read_behind later answer (record reading { known = reading.known + 1 })
read_behind (Unpriced ∷ later) answer reading =
    read_behind later answer (record reading { unpriced = reading.unpriced + 1 })

-- the next of some
pub read_more : (answers : List Accepted) (i : ℕ) (any : Accepted) (reading : Reading)
    → i < length answers
    → read_with (get_or answers i any ∷ []) (read_with (take i answers) reading)
    ≡ read_with (take (i + 1) answers) reading
read_more answers i any reading within =
    read_behind (take i answers) (get_or answers i any) reading
    ∙ ap (λ some. read_with some reading) (sym (take_more answers i any within))
