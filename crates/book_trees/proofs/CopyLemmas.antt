-- Pieces of a file that are copied over another.
use Rattle.std.proofs.Common.{◌≡◌, ◌<◌, ◌≤◌, ◌+◌, ◌-◌, ℕ, List, length, arith, sym, subst, inl, inr}
use Rattle.std.proofs.Common.{◌∙◌, ap₂, ext_get_or, IsTrue, Result, Ok, Err}
use Rattle.std.proofs.lemmas.Bool.{cases_lt}
use Rattle.std.specs.Prelude.{slice_index, OnOk}
use Rattle.sqlite_disk.specs.Disk.{Holds, Only, Torn}
use Rattle.sqlite_disk.specs.declared.Disk.{Ghosts}
use Rattle.sqlite_disk.specs.declared.files.Files.{Files}
use Rattle.sqlite_wal.specs.Reads.{AreClean}
use Rattle.sqlite_wal.specs.Recovery.{Image}
use Rattle.book_trees.proofs.ClosedFiles.{first_true, second_true}
use Rattle.book_trees.specs.Copies.{AreCopiesOf, AreOnlyRead, BeginsAs, IsCopyOf, IsOnlyRead}
use Rattle.book_trees.specs.LedgerFiles.{image_of}

-- what a file holds at a place is the byte of the piece there
held_at : (at i : ℕ) (file bytes : List ℕ) → Holds file at bytes → at ≤ i → i < at + length bytes
    → slice_index file i ≡ slice_index bytes (i - at)
held_at at i file bytes holds from below =
    let place : at + (i - at) ≡ i = omega arith in
    let within : i - at < length bytes = omega arith in
    subst (λ (j : ℕ). slice_index file j ≡ slice_index bytes (i - at)) place
    (holds.each (i - at) within)

-- a write inside a file leaves its length
pub same_length : (at size : ℕ) (old new bytes : List ℕ) → Torn at (length bytes) old new
    → at + length bytes ≤ size → length old ≡ size → length new ≡ size
same_length at size old new bytes torn within long =
    let shorter = torn.no_shorter in
    let longer = torn.no_longer in
    omega arith

-- a piece was read at a place, and written there: so many bytes more are the same
pub copied_more : (at size : ℕ) (original old new bytes : List ℕ) → Holds original at bytes
    → Holds new at bytes → Torn at (length bytes) old new → at + length bytes ≤ size
    → BeginsAs at size original old → BeginsAs (at + length bytes) size original new
copied_more at size original old new bytes read written torn within begins = record {
  length = same_length at size old new bytes torn within begins.length;
  each = λ i below. elim (cases_lt i at) [
    | inl early ↦
        let long = begins.length in
        torn.below i (omega arith) early ∙ begins.each i early
    | inr late ↦
        held_at at i new bytes written late below ∙ sym (held_at at i original bytes read late below)
  ];
}

-- all bytes are the same, and so the files are
pub copied_whole : (size : ℕ) (original copy : List ℕ) → size ≡ length original
    → BeginsAs size size original copy → copy ≡ original
copied_whole size original copy long begins =
    ext_get_or 0 copy original (begins.length ∙ long)
    (λ i below. begins.each i (let same = begins.length in omega arith))

-- a file was read, and then read again
pub read_twice : {D : Type 0} {g : Ghosts D} (one two three : D) → IsOnlyRead g one two
    → IsOnlyRead g two three → IsOnlyRead g one three
read_twice one two three first next = record {
  seen = next.seen ∙ first.seen;
  clean = λ clean. first.clean (next.clean clean);
  crash = λ left may. first.crash left (next.crash left may);
}

-- a copy that was synced: a crash leaves nothing else of it
pub copy_synced : {A B T E : Type 0} (one : Ghosts A) (two : Ghosts B) (original : A)
    (before after : B) (result : Result T E)
    → OnOk result (Only (two.seen before) (two.may_leave after)) → two.seen after ≡ two.seen before
    → (IsTrue (one.is_clean original) → two.seen before ≡ one.seen original)
    → OnOk result (IsCopyOf one two original after)
copy_synced one two original before after (Ok value) only same copied = record {
  seen = λ clean. same ∙ copied clean;
  left = subst (λ (file : List ℕ). Only file (two.may_leave after)) (sym same) only;
}
copy_synced one two original before after (Err error) only same copied = only

-- what is read of a copy is what was read of the two at first
pub copied_image : {A B : Type 0} {one : Ghosts A} {two : Ghosts B} (first from : Files A)
    (to : Files B) → AreOnlyRead one first from → AreCopiesOf one two from to
    → AreClean one from.log from.db → image_of two to ≡ image_of one first
copied_image first from to read copied clean =
    ap₂ (λ (log db : List ℕ). let it : Image = record { log = log; db = db } in it)
    (copied.log.seen (first_true _ _ clean) ∙ read.log.seen)
    (copied.db.seen (second_true _ _ clean) ∙ read.db.seen)
