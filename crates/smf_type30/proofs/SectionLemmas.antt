-- What a part of a record has of it.
use Rattle.std.proofs.Common.{◌≡◌, ◌≢◌, inl, inr, true, ℕ, zero, suc, ◌+◌, ◌-◌, ◌≤◌, ◌<◌, List}
use Rattle.std.proofs.Common.{length, take, drop, get_or, Option, Some, None, MatchOption}
use Rattle.std.proofs.Common.{option_copied, Bor, refl, ap, ◌∙◌, arith}
use Rattle.std.proofs.lemmas.Bool.{or_cases, and_parts, eqb-true, leb-true}
use Rattle.std.proofs.lemmas.List.{get_or-take, get_or-drop, take-take, length-take, length-drop}
use Rattle.std.proofs.lemmas.List.{drop-take, drop-drop}
use Rattle.std.specs.Array.{IsFirstChunk}
use Rattle.smf_frames.specs.Number.{number, part}
use Rattle.smf_type30.specs.declared.layout.Section.{Section}
use Rattle.smf_type30.specs.Section.{fits, offset_of, length_of, count_of}
use Rattle.smf_type30.specs.SectionBytes.{HasFields}

-- a byte of a part is a byte of the whole
get_or-part : (bytes : List ℕ) (offset len at : ℕ) → at < len
    → get_or (part bytes offset len) at 0 ≡ get_or bytes (offset + at) 0
get_or-part bytes offset len at below =
    get_or-take len (drop offset bytes) at 0 below ∙ get_or-drop offset bytes at 0

-- a number in a part is a number in the whole
pub number-part : (bytes : List ℕ) (offset len at n : ℕ) → at + n ≤ len
    → number (part bytes offset len) at n ≡ number bytes (offset + at) n
number-part bytes offset len at zero le = refl
number-part bytes offset len at (suc n) le =
    let e : suc (offset + at) ≡ offset + suc at = omega arith in
    let first = get_or-part bytes offset len at (omega arith) in
    rw (first, number-part bytes offset len (suc at) n (omega arith), e)

-- a part of a part is a part of the whole
pub part-part : (bytes : List ℕ) (offset len at n : ℕ) → at + n ≤ len
    → part (part bytes offset len) at n ≡ part bytes (offset + at) n
part-part bytes offset len at n le =
    let whole : len ≡ at + (len - at) = omega arith in
    let from_offset = drop offset bytes in
    let front = take-take n (len - at) (drop at from_offset) (omega arith) in
    rw (whole, drop-take at (len - at) from_offset, front, drop-drop at offset bytes)

-- a section that is there and fits
pub record Fits (bytes : List ℕ) (section : Section) : Type 0 where
  pub least : section.least ≤ length_of bytes section
  pub inside : offset_of bytes section + length_of bytes section ≤ length bytes

-- what the test of a section means where the section is there
pub fits_there : (bytes : List ℕ) (section : Section) → count_of bytes section ≢ 0
    → fits bytes section ≡ true → Fits bytes section
fits_there bytes section there fit = elim (or_cases _ _ fit) [
  | inl absent ↦ absurd (there (eqb-true _ _ absent))
  | inr present ↦
      let parts = and_parts _ _ present in
      record { least = leb-true _ _ parts.0; inside = leb-true _ _ parts.1 }
]

-- the part of a record at a section's offset, of the section's length, lends the section
pub lends : (bytes : List ℕ) (section : Section) (offset len : ℕ) → Fits bytes section
    → offset ≡ offset_of bytes section → len ≡ length_of bytes section
    → HasFields bytes section (part bytes offset len)
lends bytes section offset len fit at all =
    let least = fit.least in
    let inside = fit.inside in
    record {
      long = simp (length-take, length-drop) (omega arith);
      numbers = λ field le.
          number-part bytes offset len field.offset field.len (omega arith)
          ∙ ap (λ start. number bytes (start + field.offset) field.len) at;
      parts = λ field le.
          part-part bytes offset len field.offset field.len (omega arith)
          ∙ ap (λ start. part bytes (start + field.offset) field.len) at;
    }

-- the first chunk of a list that is long enough
pub option_copied-first_chunk : (chunk : Option (Bor (List ℕ))) (xs : List ℕ) (n : ℕ)
    → n ≤ length xs → MatchOption chunk (length xs < n) (λ y. IsFirstChunk xs y.now n)
    → option_copied chunk ≡ Some (take n xs)
option_copied-first_chunk None xs n long short = absurd (omega arith)
option_copied-first_chunk (Some y) xs n long is = ap Some is.same
