-- What one more read into the rest of a buffer adds to its filled part.
use Rattle.std.proofs.Common.{◌≡◌, ℕ, ◌+◌, ◌≤◌, List, ◌++◌, length, take}
use Rattle.std.proofs.Common.{length-append, length-take-le, refl}
use Rattle.std.proofs.Math.Seq.{take-append-add}
use Rattle.std.proofs.lemmas.List.{take-append-le}
use borrow.Rule.Slice.PartMut.{put_mid, post_of}

-- the filled part of the buffer after one more read into the rest
pub grown_front : (at room count : ℕ) (buffer given : List ℕ)
    → at ≤ length buffer → count ≤ length given
    → take (at + count) (put_mid at room buffer given) ≡ take at buffer ++ take count given
grown_front at room count buffer given within few =
    let front = take at buffer in
    let behind = post_of at room buffer in
    let long : length front ≡ at = length-take-le at buffer within in
    let whole : take (length front + count) (front ++ (given ++ behind))
    ≡ front ++ take count (given ++ behind) =
    take-append-add front (given ++ behind) count in
    let moved : take (at + count) (front ++ (given ++ behind))
    ≡ front ++ take count (given ++ behind) = rw long at whole in
    rw (take-append-le count given behind few) at moved

-- how many bytes it is
pub grown_length : (at room count : ℕ) (buffer given : List ℕ)
    → at ≤ length buffer → count ≤ length given
    → length (take (at + count) (put_mid at room buffer given)) ≡ at + count
grown_length at room count buffer given within few =
    rw (
      grown_front at room count buffer given within few,
      length-append,
      length-take-le at buffer within,
      length-take-le count given few,
    ) refl
