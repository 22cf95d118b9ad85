-- How far a request is read: the reads that were made of a reader, and for each of them why it was
-- due. The reads are in a list, newest first.
use Rattle.std.specs.Prelude.{◌≡◌, ℕ, ◌+◌, ◌<◌, ◌≤◌, List, [], ◌∷◌, ◌++◌, length, take, ⊤}
use Rattle.std.specs.Prelude.{Option, Result, Ok, Err, Bool, false}
use Rattle.std.specs.Io.KnownBytes.{Consumes}
use Rattle.std.specs.declared.io.Error.{Error}
use Rattle.httparse.specs.Grammar.{RequestHead, HasNoRequest, MayBecomeRequest}
use Rattle.streams.specs.declared.source.Source.{Source}
use Rattle.streams.specs.AnswerFlags.{is_failed_read, is_end}
use Rattle.streams.specs.Sources.{reader_of, reads_of, has_failed, has_ended}
use Rattle.book_http.specs.declared.asked.Asked.{Asked}
use Rattle.book_http.specs.declared.asked.Asked.TheVariants as asks
use Rattle.book_http.specs.Asked.{asked}
use Rattle.book_http.specs.Head.{HasHead, most_head_bytes}

-- one read: the room that the reader was given, its answer, and the reader and the room then
pub record ReadCall (R : Type 0) : Type 0 where
  pub room : List ℕ
  pub answer : Result ℕ Error
  pub after : R
  pub given : List ℕ

-- what a read of a reader with this room may answer, with the reader and the room then
abbrev pub ReadOutcome : Type 0 → Type 1
ReadOutcome R = R → List ℕ → Result ℕ Error → R → List ℕ → Type 0

-- the bytes that a read gave
abbrev pub bytes_given : Result ℕ Error → List ℕ → List ℕ
bytes_given (Ok count) given = take count given
bytes_given (Err error) given = []

-- the bytes that reads gave
abbrev pub bytes_read : {R : Type 0} → List (ReadCall R) → List ℕ
bytes_read [] = []
bytes_read (read ∷ before) = bytes_read before ++ bytes_given read.answer read.given

-- the reader after reads of this one
abbrev pub reader_after : {R : Type 0} → R → List (ReadCall R) → R
reader_after first [] = first
reader_after first (read ∷ before) = read.after

-- Reading has failed after these reads if the newest of them answered an error; where there are none,
-- if it had failed before.
abbrev pub failed_after : {R : Type 0} → Bool → List (ReadCall R) → Bool
failed_after failed [] = failed
failed_after failed (read ∷ before) = is_failed_read read.answer

-- So the end was met if the newest gave no byte where there was room for one; where there are none, if
-- it was met before.
abbrev pub ended_after : {R : Type 0} → Bool → List (ReadCall R) → Bool
ended_after ended [] = ended
ended_after ended (read ∷ before) = is_end read.answer (length read.room)

-- Reading may go on after these reads: none of them failed, and none met the end.
abbrev pub MayGoOn : {R : Type 0} → List (ReadCall R) → Type 0
MayGoOn before = (failed_after false before ≡ false) × (ended_after false before ≡ false)

-- Each of these reads is what the reader answered, and was due after the bytes of those before it,
-- for as many bytes as it had room for. None came after one that failed or met the end.
abbrev pub AreDue : {R : Type 0} → ReadOutcome R → (List ℕ → ℕ → Type 0) → R → List (ReadCall R)
    → Type 0
AreDue MayAnswer IsDue first [] = ⊤
AreDue MayAnswer IsDue first (read ∷ before) =
    AreDue MayAnswer IsDue first before × MayGoOn before
    × IsDue (bytes_read before) (length read.room)
    × MayAnswer (reader_after first before) read.room read.answer read.after read.given

-- From one source to the other by these reads and no others: what they gave is what was taken.
pub record AreReadsBetween {R : Type 0} {answers : _} {bytes : _} (remaining : R → Option (List ℕ))
    (MayAnswer : ReadOutcome R) (IsDue : List ℕ → ℕ → Type 0) (old new : Source R answers bytes)
    (reads : List (ReadCall R)) : Type 0 where
  pub due : AreDue MayAnswer IsDue (reader_of old) reads
  pub reader : reader_of new ≡ reader_after (reader_of old) reads
  pub count : reads_of new ≡ reads_of old + length reads
  pub taken : Consumes (remaining (reader_of old)) (remaining (reader_of new)) (bytes_read reads)
  pub failed : has_failed new ≡ failed_after (has_failed old) reads
  pub ended : has_ended new ≡ ended_after (has_ended old) reads

-- A source was read on by reads that were each due, and by no others; and this is so of the bytes that
-- they gave.
pub record ReadsOn {R : Type 0} {answers : _} {bytes : _} (remaining : R → Option (List ℕ))
    (MayAnswer : ReadOutcome R) (IsDue : List ℕ → ℕ → Type 0) (old new : Source R answers bytes)
    (Gave : List ℕ → Type 0) : Type 0 where
  pub reads : List (ReadCall R)
  pub between : AreReadsBetween remaining MayAnswer IsDue old new reads
  pub gave : Gave (bytes_read reads)

-- A read is due for the head, for some bytes within its limit: there is no whole head in what came,
-- and one may still come.
pub record IsDueForHead (came : List ℕ) (room : ℕ) : Type 0 where
  pub some : 0 < room
  pub within : length came + room ≤ most_head_bytes
  pub none : 0 < length came → HasNoRequest came
  pub may_come : 0 < length came → MayBecomeRequest came

-- A read is due for a body of which this many bytes came: it is not whole yet, and some bytes of
-- it, but none after it, are asked for.
pub record IsDueForBody (size came room : ℕ) : Type 0 where
  pub some : 0 < room
  pub short : came < size
  pub within : came + room ≤ size

-- so is one where this many bytes of the body were there before
abbrev pub IsDueForRest : ℕ → ℕ → List ℕ → ℕ → Type 0
IsDueForRest had size came room = IsDueForBody size (had + length came) room

-- and where its first bytes, or all of it, came with the head
abbrev pub IsDueBehind : List ℕ → ℕ → List ℕ → ℕ → Type 0
IsDueBehind front size came room = IsDueForBody size (length (front ++ came)) room

-- After a head that asks this, and these bytes, a read is due only for the body of an import or of a
-- tariff.
abbrev pub IsDueAfterHead : Asked ℕ → List ℕ → ℕ → Type 0
IsDueAfterHead (asks.Import layout size) behind room = IsDueForBody size (length behind) room
IsDueAfterHead (asks.WhatIf what_if size) behind room = IsDueForBody size (length behind) room
IsDueAfterHead asked behind room = ⊥

-- so is one where the first of them came with the head
abbrev pub IsDueOn : Asked ℕ → List ℕ → List ℕ → ℕ → Type 0
IsDueOn asked front came room = IsDueAfterHead asked (front ++ came) room

-- a read is due for a request of which these bytes came
pub data IsDue (bytes : List ℕ) (room : ℕ) : Type 0 where
  for_head : IsDueForHead bytes room → IsDue bytes room
  for_body : (head : RequestHead) (behind : List ℕ) → HasHead bytes head behind
      → IsDueAfterHead (asked head) behind room → IsDue bytes room

-- A source was read on for a request: each read was due for one. And this is so of whether the input has
-- ended then, and of the bytes that came.
abbrev pub ReadsRequest : {R : Type 0} {answers : _} {bytes : _} → (R → Option (List ℕ))
    → ReadOutcome R → Source R answers bytes → Source R answers bytes → (Bool → List ℕ → Type 0)
    → Type 0
ReadsRequest remaining MayAnswer old new Gave =
    ReadsOn remaining MayAnswer IsDue old new (Gave (has_ended new))
