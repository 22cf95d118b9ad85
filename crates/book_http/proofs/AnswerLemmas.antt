-- What is answered, by what the books did.
use Rattle.std.proofs.Common.{ℕ, ◌+◌, ◌<◌, List, ◌++◌, length, take, Option, arith, length-append}
use Rattle.book_http.proofs.Words.{take-append-add, Appends-trans, Appends}

-- the whole of one text and a prefix of the next are a prefix of both
pub front_behind : (held between holds : Option (List ℕ)) (first next : List ℕ) (count : ℕ)
    → count < length next → Appends held between first → Appends between holds (take count next)
    → (n : ℕ) × (n < length (first ++ next)) × Appends held holds (take n (first ++ next))
front_behind held between holds first next count few whole front = (
  length first + count,
  rw length-append (omega arith),
  rw (take-append-add first next count) (Appends-trans held between holds _ _ whole front),
)
