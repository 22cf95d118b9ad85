-- Bytes that are read ahead of a dump, and are given with the rest.
use Rattle.std.proofs.Common.{◌≡◌, ◌∙◌, ◌+◌, ◌-◌, ◌≤◌, ℕ, List, ◌++◌, true, true≢false, Option}
use Rattle.std.proofs.Common.{Some, None, length, length-take-le, take, take_all, append-nil, ap}
use Rattle.std.proofs.Common.{subst, sym, refl, Bool, false, ◌&&◌, Result, Ok, Err, inl, inr, IfOk}
use Rattle.std.proofs.Math.Seq.{take-append-add}
use Rattle.std.specs.Io.KnownBytes.{Consumes}
use Rattle.std.specs.Result.{result_unwrap_or}
use Rattle.std.proofs.KnownBytes.{Consumes-trans}
use lib.Seq.{take-append_seam}
use borrow.Rule.Slice.PartMut.{put_mid, post_of}
use Rattle.book_model.proofs.Std.{take-append-le}
use Rattle.book_model.specs.Words.{Layout}
use Rattle.program_output.specs.Layouts.{is_misread}
use Rattle.without_books.specs.declared.first_bytes.FirstEnd.{FirstEnd}
use Rattle.without_books.specs.declared.first_bytes.FirstEnd.TheVariants.{Full, AtEnd, Failed}
use Rattle.without_books.specs.FirstBytes.{AreFirst, IsFilled, IsLookedAt, is_whole, looks_misread}
use Rattle.without_books.specs.FirstBytes.{most_first}

-- the filled part of a room after one more read into the rest
grown_front : (at room count : ℕ) (buffer given : List ℕ)
    → at ≤ length buffer → count ≤ length given
    → take (at + count) (put_mid at room buffer given) ≡ take at buffer ++ take count given
grown_front at room count buffer given within few =
    let front = take at buffer in
    let behind = post_of at room buffer in
    let long : length front ≡ at = length-take-le at buffer within in
    let whole : take (length front + count) (front ++ (given ++ behind))
    ≡ front ++ take count (given ++ behind) =
    take-append-add front (given ++ behind) count in
    let moved : take (at + count) (front ++ (given ++ behind))
    ≡ front ++ take count (given ++ behind) = rw long at whole in
    rw (take-append-le count given behind few) at moved

-- what a read gave follows what was there
pub more_taken : (had has left : Option (List ℕ)) (room given : List ℕ) (count came : ℕ)
    → count ≤ length room → came ≤ length given → Consumes had has (take count room)
    → Consumes has left (take came given)
    → Consumes had left (take (count + came) (put_mid count (length room - count) room given))
more_taken had has left room given count came within few before more =
    subst (Consumes had left) (sym (grown_front count (length room - count) came room given within few))
    (Consumes-trans had has left (take count room) (take came given) before more)

-- the first bytes that were read are those of the dump
pub are_first : (end : FirstEnd) (had left : Option (List ℕ)) (first : List ℕ) → is_whole end ≡ true
    → length first ≤ most_first → IsFilled end (length first) most_first left
    → Consumes had left first → AreFirst had first
are_first end None left first whole few filled taken = tt
are_first end (Some bytes) None first whole few filled taken = absurd taken
are_first Full (Some bytes) (Some rest) first whole few filled taken =
    sym (ap (take most_first) taken
    ∙ subst (λ n. take n (first ++ rest) ≡ first) filled (take-append_seam first rest))
are_first AtEnd (Some bytes) (Some rest) first whole few filled taken =
    sym (ap (take most_first) (taken ∙ ap (λ more. first ++ more) filled ∙ append-nil first)
    ∙ take_all most_first first few)
are_first (Failed error) (Some bytes) (Some rest) first whole few filled taken =
    absurd (true≢false (sym whole))

-- first bytes that are all that are to come look as they are
pub whole_seen : {E : Type 0} (layout : Layout) (end : FirstEnd) (first : List ℕ)
    (seen : Result Bool E) → is_whole end ≡ true → IfOk seen (λ is. is ≡ is_misread layout first)
    → IfOk seen (λ looks. looks ≡ looks_misread layout end first)
whole_seen layout end first (Ok seen) whole is =
    is ∙ ap (λ b. b && is_misread layout first) (sym whole)
whole_seen layout end first (Err none) whole is = tt

-- What is seen of the first bytes of a dump is how it looks. Where nothing is seen, it does not
-- look misread.
pub looked_at : {E : Type 0} (layout : Layout) (end : FirstEnd) (had left : Option (List ℕ))
    (first : List ℕ) (seen : Result Bool E) (looked : Bool) → length first ≤ most_first
    → IsFilled end (length first) most_first left → Consumes had left first
    → IfOk seen (λ looks. looks ≡ looks_misread layout end first)
    → looked ≡ result_unwrap_or seen false → IsLookedAt layout had looked
looked_at layout end had left first (Err none) looked few filled taken is given = inr given
looked_at layout end had left first (Ok seen) looked few filled taken is given =
    elim (is_whole end) as (λ b. is_whole end ≡ b → looked ≡ (b && is_misread layout first)
    → IsLookedAt layout had looked) [
      | true ↦ λ whole own.
          inl (first, are_first end had left first whole few filled taken, own)
      | false ↦ λ cut none. inr none
    ] refl (given ∙ is)
