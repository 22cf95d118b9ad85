-- The first bytes of a dump, which a command reads ahead and looks at: they tell whether the dump looks
-- like one in the other layout.
use Rattle.std.specs.Prelude.{◌≡◌, ◌⊎◌, ◌&&◌, ⊤, Bool, true, false, ℕ, List, []}
use Rattle.std.specs.Prelude.{take, Option, Some, None, Vec}
use Rattle.std.specs.Global.{Global}
use Rattle.std.specs.Io.Chain.{chain_remaining}
use Rattle.std.specs.Io.Cursor.{cursor_remaining}
use Rattle.std.specs.Io.KnownBytes.{IsAtEnd}
use Rattle.std.specs.declared.io.impls.Cursor.{Cursor}
use Rattle.std.specs.declared.io.traits.Chain.{Chain}
use Rattle.smf_frames.specs.declared.dump.Layout.{Layout}
use Rattle.program_output.specs.Layouts.{is_misread}
use Rattle.without_books.specs.declared.first_bytes.FirstEnd.{FirstEnd}
use Rattle.without_books.specs.declared.first_bytes.FirstEnd.TheVariants.{Full, AtEnd, Failed}
use Rattle.without_books.specs.declared.first_bytes.Rest.{Rest}

-- how many bytes are looked at: the longest segment has as many
abbrev pub most_first : ℕ
most_first = 65535

-- How the reading of so many bytes ended: they all came, or the reader is at its end, or it failed.
abbrev pub IsFilled : FirstEnd → ℕ → ℕ → Option (List ℕ) → Type 0
IsFilled Full count most left = count ≡ most
IsFilled AtEnd count most left = IsAtEnd left
IsFilled (Failed error) count most left = ⊤

-- no more of the first bytes is to come
abbrev pub is_whole : FirstEnd → Bool
is_whole Full = true
is_whole AtEnd = true
is_whole (Failed error) = false

-- A dump looks misread by its first bytes, where they are all that are to come.
abbrev pub looks_misread : Layout → FirstEnd → List ℕ → Bool
looks_misread layout end first = is_whole end && is_misread layout first

-- what a reader has left, if it has not come to its end
abbrev pub left_of : {R : Type 0} → (R → Option (List ℕ)) → Option R → Option (List ℕ)
left_of remaining None = Some []
left_of remaining (Some reader) = remaining reader

-- so has a reader after its first bytes
abbrev pub rest_remaining : {R : Type 0} → (R → Option (List ℕ)) → Rest R → Option (List ℕ)
rest_remaining remaining rest = left_of remaining rest.inner

-- the first bytes, and what the reader has left after them
abbrev pub whole_remaining : {R : Type 0} → (R → Option (List ℕ))
    → Chain (Cursor (Vec ℕ Global)) (Rest R) → Option (List ℕ)
whole_remaining remaining dump =
    chain_remaining (cursor_remaining (λ bytes. Some bytes.items)) (rest_remaining remaining) dump

-- these are the first bytes of a dump, where its reader shows them
abbrev pub AreFirst : Option (List ℕ) → List ℕ → Type 0
AreFirst None first = ⊤
AreFirst (Some bytes) first = first ≡ take most_first bytes

-- Whether a dump looks misread, by its first bytes. Where a read of them failed, or there was no memory
-- to look at them, it does not.
abbrev pub IsLookedAt : Layout → Option (List ℕ) → Bool → Type 0
IsLookedAt layout had looked =
    ((first : List ℕ) × AreFirst had first × (looked ≡ is_misread layout first)) ⊎ (looked ≡ false)
