-- The bytes that an import has read, where it has a note.
use Rattle.std.proofs.Common.{◌≡◌, false, is_some, true≢false, Option, Some, None}
use Rattle.std.specs.Prelude.{IfSome}

-- what holds of them holds where there is a note,
pub some_read : {A Read : Type 0} (share : Option A) → Read → IfSome share (λ one. Read)
some_read None read = tt
some_read (Some share) read = read

-- and anything holds where there is none
pub none_read : {A : Type 0} (Read : Type 0) (share : Option A) → is_some share ≡ false
    → IfSome share (λ one. Read)
none_read Read None none = tt
none_read Read (Some share) none = absurd (true≢false none)

-- more were read
pub all_read : {A Read More : Type 0} (share : Option A) → (Read → More)
    → IfSome share (λ one. Read) → IfSome share (λ one. More)
all_read None more read = tt
all_read (Some share) more read = more read
