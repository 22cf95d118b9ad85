-- One more read, and reads after reads.
use Rattle.std.proofs.Common.{◌≡◌, ◌∙◌, ℕ, ◌+◌, List, [], ◌∷◌, ◌++◌, length, Option, refl, ◌<◌, ◌≤◌}
use Rattle.std.proofs.Common.{◌-◌, take, drop, ap, Ok, Err, arith, append-nil, false, sym, subst}
use Rattle.std.proofs.Common.{length-take-le, length-append, append_assoc, Bool, Result}
use Rattle.std.proofs.Common.{length-take, length-drop}
use Rattle.std.proofs.lemmas.List.{drop-append-le}
use Rattle.std.proofs.KnownBytes.{Consumes-kept, Consumes-nil, Consumes-trans}
use Rattle.std.specs.Io.KnownBytes.{Consumes, ReadConsumes}
use Rattle.std.specs.declared.io.Error.{Error}
use Rattle.streams.specs.declared.source.Source.{Source}
use Rattle.streams.specs.AnswerFlags.{is_end, is_failed_read}
use Rattle.streams.specs.Sources.{reader_of}
use Rattle.book_http.proofs.PieceLemmas.{grown_front}
use Rattle.book_http.proofs.HeadLemmas.{head_before}
use Rattle.book_http.proofs.Words.{RequestHead, HasNoRequest, MayBecomeRequest, has_ended}
use Rattle.book_http.proofs.Words.{has_failed, reads_of, asked, HasHead, for_head, IsDueForBody}
use Rattle.book_http.proofs.Words.{IsDueForHead, ReadsOn, put_mid}
use Rattle.book_http.specs.Reads.{ReadOutcome, ReadCall, bytes_given, bytes_read, reader_after}
use Rattle.book_http.specs.Reads.{ended_after, failed_after, MayGoOn, AreDue, AreReadsBetween}
use Rattle.book_http.specs.Reads.{IsDue, for_body, IsDueOn}

-- what one read took
read_taken : (had left : Option (List ℕ)) (answer : Result ℕ Error) (given : List ℕ)
    → ReadConsumes had left answer given → Consumes had left (bytes_given answer given)
read_taken had left (Ok count) given it = it.0
read_taken had left (Err error) given it =
    Consumes-kept had had left [] (Consumes-nil had) it

-- a source that may be read on
abbrev pub IsOpen : {R : Type 0} {answers : _} {bytes : _} → Source R answers bytes → Type 0
IsOpen source = (has_failed source ≡ false) × (has_ended source ≡ false)

-- from one such source to another by these reads: then reading may go on after them
may_go_on : {R : Type 0} {answers : _} {bytes : _} {remaining : R → Option (List ℕ)}
    {MayAnswer : ReadOutcome R} {IsDue : List ℕ → ℕ → Type 0} {old new : Source R answers bytes}
    (reads : List (ReadCall R)) → AreReadsBetween remaining MayAnswer IsDue old new reads
    → IsOpen old → IsOpen new → MayGoOn reads
may_go_on reads it first now = (
  sym (ap (λ failed. failed_after failed reads) first.0) ∙ sym it.failed ∙ now.0,
  sym (ap (λ ended. ended_after ended reads) first.1) ∙ sym it.ended ∙ now.1,
)

-- one more read
pub read_on : {R : Type 0} {answers : _} {bytes : _} {remaining : R → Option (List ℕ)}
    {MayAnswer : ReadOutcome R} {IsDue : List ℕ → ℕ → Type 0}
    {old between new : Source R answers bytes} {Gave Gives : List ℕ → Type 0}
    {room : List ℕ} {answer : Result ℕ Error} {given : List ℕ}
    → ReadsOn remaining MayAnswer IsDue old between Gave → IsOpen old → IsOpen between
    → MayAnswer (reader_of between) room answer (reader_of new) given
    → ReadConsumes (remaining (reader_of between)) (remaining (reader_of new)) answer given
    → reads_of new ≡ reads_of between + 1
    → has_failed new ≡ is_failed_read answer → has_ended new ≡ is_end answer (length room)
    → ((came : List ℕ) → Gave came → IsDue came (length room))
    → ((came : List ℕ) → Gave came → Gives (came ++ bytes_given answer given))
    → ReadsOn remaining MayAnswer IsDue old new Gives
read_on {remaining} {MayAnswer} {between} {new} {room} {answer} {given} so_far first now is consumes
    more failed ended due gives =
    let before = so_far.between in
    let count = before.count in
    let taken = read_taken (remaining (reader_of between)) (remaining (reader_of new)) answer given
    consumes in
    record {
      reads = record { room = room; answer = answer; after = reader_of new; given = given }
          ∷ so_far.reads;
      between = record {
        due = (
          before.due,
          may_go_on so_far.reads before first now,
          due (bytes_read so_far.reads) so_far.gave,
          subst (λ reader. MayAnswer reader room answer (reader_of new) given) before.reader is,
        );
        reader = refl;
        count = omega arith;
        taken = Consumes-trans _ _ _ _ _ before.taken taken;
        failed = failed;
        ended = ended;
      };
      gave = gives (bytes_read so_far.reads) so_far.gave;
    }

-- there is room behind what is filled of a buffer
room_behind : (filled : ℕ) (buffer : List ℕ) → filled < length buffer
    → 0 < length (take (length buffer - filled) (drop filled buffer))
room_behind filled buffer low =
    let all : length (take (length buffer - filled) (drop filled buffer)) ≡ length buffer - filled =
    length-take-le (length buffer - filled) (drop filled buffer) (rw length-drop (omega arith)) in
    rw all (omega arith)

-- a read into the rest of the buffer for a head is due where there is none in its filled part
pub due_for_head : (came buffer : List ℕ) (filled : ℕ) → came ≡ take filled buffer
    → filled < length buffer → length buffer ≡ 16384
    → (0 < filled → HasNoRequest (take filled buffer))
    → (0 < filled → MayBecomeRequest (take filled buffer))
    → IsDueForHead came (length (take (length buffer - filled) (drop filled buffer)))
due_for_head came buffer filled is low size none may_come =
    let long : length (take filled buffer) ≡ filled = length-take-le filled buffer (omega arith) in
    rw is (record {
      some = room_behind filled buffer low;
      within = rw (long, length-take) (omega arith);
      none = λ some. none (rw long at some);
      may_come = λ some. may_come (rw long at some);
    })

-- what a read gave follows what was in the filled part of the buffer
pub more_came : (came buffer given : List ℕ) (filled room count : ℕ) → came ≡ take filled buffer
    → filled ≤ length buffer → count ≤ length given
    → came ++ take count given ≡ take (filled + count) (put_mid filled room buffer given)
more_came came buffer given filled room count is within few =
    ap (λ bytes. bytes ++ take count given) is
    ∙ sym (grown_front filled room count buffer given within few)

-- a read that gave nothing
pub none_came : (came given : List ℕ) (count : ℕ) → count ≡ 0 → came ++ take count given ≡ came
none_came came given count none = rw none (append-nil came)

-- a read into the rest of a body is due where it is not filled yet
pub due_for_body : (came body : List ℕ) (had filled size : ℕ) → came ≡ drop had (take filled body)
    → had ≤ filled → filled < length body → length body ≡ size
    → IsDueForBody size (had + length came)
    (length (take (length body - filled) (drop filled body)))
due_for_body came body had filled size is low within whole =
    let long : length (take filled body) ≡ filled = length-take-le filled body (omega arith) in
    let size_is : had + length came ≡ filled = rw (is, length-drop, long) (omega arith) in
    rw size_is (record {
      some = room_behind filled body within;
      short = omega arith;
      within = rw length-take (omega arith);
    })

-- what a read gave follows what was filled from a place on
pub more_filled : (came body given : List ℕ) (had filled room count : ℕ)
    → came ≡ drop had (take filled body) → had ≤ filled → filled ≤ length body
    → count ≤ length given
    → came ++ take count given ≡ drop had (take (filled + count) (put_mid filled room body given))
more_filled came body given had filled room count is low within few =
    let long : length (take filled body) ≡ filled = length-take-le filled body within in
    let inside : had ≤ length (take filled body) = rw long low in
    ap (λ bytes. bytes ++ take count given) is
    ∙ sym (drop-append-le had (take filled body) (take count given) inside)
    ∙ ap (drop had) (sym (grown_front filled room count body given within few))

-- reads that were due for one reason were due for a weaker one, and what is so of the bytes that they
-- gave may be said otherwise
due_as : {R : Type 0} (MayAnswer : ReadOutcome R)
    (IsDue IsDueToo : List ℕ → ℕ → Type 0) (first : R) (reads : List (ReadCall R))
    → ((came : List ℕ) (room : ℕ) → IsDue came room → IsDueToo came room)
    → AreDue MayAnswer IsDue first reads → AreDue MayAnswer IsDueToo first reads
due_as MayAnswer IsDue IsDueToo first [] weaker due = tt
due_as MayAnswer IsDue IsDueToo first (read ∷ before) weaker due = (
  due_as MayAnswer IsDue IsDueToo first before weaker due.0,
  due.1,
  weaker (bytes_read before) (length read.room) due.2,
  due.3,
)

pub read_as : {R : Type 0} {answers : _} {bytes : _} {remaining : R → Option (List ℕ)}
    {MayAnswer : ReadOutcome R} {IsDue IsDueToo : List ℕ → ℕ → Type 0}
    {old new : Source R answers bytes} {Gave Gives : List ℕ → Type 0}
    → ReadsOn remaining MayAnswer IsDue old new Gave
    → ((came : List ℕ) (room : ℕ) → IsDue came room → IsDueToo came room)
    → ((came : List ℕ) → Gave came → Gives came)
    → ReadsOn remaining MayAnswer IsDueToo old new Gives
read_as {MayAnswer} {IsDue} {IsDueToo} {old} it weaker so =
    let before = it.between in
    record {
      reads = it.reads;
      between = record {
        due = due_as MayAnswer IsDue IsDueToo (reader_of old) it.reads weaker before.due;
        reader = before.reader;
        count = before.count;
        taken = before.taken;
        failed = before.failed;
        ended = before.ended;
      };
      gave = so (bytes_read it.reads) it.gave;
    }

pub gave_as : {R : Type 0} {answers : _} {bytes : _} {remaining : R → Option (List ℕ)}
    {MayAnswer : ReadOutcome R} {IsDue : List ℕ → ℕ → Type 0}
    {old new : Source R answers bytes} {Gave Gives : List ℕ → Type 0}
    → ReadsOn remaining MayAnswer IsDue old new Gave
    → ((came : List ℕ) → Gave came → Gives came)
    → ReadsOn remaining MayAnswer IsDue old new Gives
gave_as it so =
    record { reads = it.reads; between = it.between; gave = so (bytes_read it.reads) it.gave }

-- reads after reads
bytes_behind : {R : Type 0} (later before : List (ReadCall R))
    → bytes_read (later ++ before) ≡ bytes_read before ++ bytes_read later
bytes_behind [] before = sym (append-nil (bytes_read before))
bytes_behind (read ∷ later) before =
    let bytes = bytes_given read.answer read.given in
    ap (λ all. all ++ bytes) (bytes_behind later before)
    ∙ append_assoc (bytes_read before) (bytes_read later) bytes

reader_behind_both : {R : Type 0} (first : R) (later before : List (ReadCall R))
    → reader_after first (later ++ before) ≡ reader_after (reader_after first before) later
reader_behind_both first [] before = refl
reader_behind_both first (read ∷ later) before = refl

failed_behind_both : {R : Type 0} (failed : Bool) (later before : List (ReadCall R))
    → failed_after failed (later ++ before) ≡ failed_after (failed_after failed before) later
failed_behind_both failed [] before = refl
failed_behind_both failed (read ∷ later) before = refl

ended_behind_both : {R : Type 0} (ended : Bool) (later before : List (ReadCall R))
    → ended_after ended (later ++ before) ≡ ended_after (ended_after ended before) later
ended_behind_both ended [] before = refl
ended_behind_both ended (read ∷ later) before = refl

go_on_behind_both : {R : Type 0} (later before : List (ReadCall R)) → MayGoOn before → MayGoOn later
    → MayGoOn (later ++ before)
go_on_behind_both [] before here there = here
go_on_behind_both (read ∷ later) before here there = there

due_behind : {R : Type 0} (MayAnswer : ReadOutcome R)
    (IsDue IsDueThen : List ℕ → ℕ → Type 0) (first : R) (later before : List (ReadCall R))
    → ((came : List ℕ) (room : ℕ) → IsDueThen came room → IsDue (bytes_read before ++ came) room)
    → MayGoOn before → AreDue MayAnswer IsDue first before
    → AreDue MayAnswer IsDueThen (reader_after first before) later
    → AreDue MayAnswer IsDue first (later ++ before)
due_behind MayAnswer IsDue IsDueThen first [] before so goes_on due due_later = due
due_behind MayAnswer IsDue IsDueThen first (read ∷ later) before so goes_on due due_later = (
  due_behind MayAnswer IsDue IsDueThen first later before so goes_on due due_later.0,
  go_on_behind_both later before goes_on due_later.1,
  subst (λ bytes. IsDue bytes (length read.room)) (sym (bytes_behind later before))
      (so (bytes_read later) (length read.room) due_later.2),
  subst (λ reader. MayAnswer reader read.room read.answer read.after read.given)
      (sym (reader_behind_both first later before)) due_later.3,
)

read_behind : {R : Type 0} {answers : _} {bytes : _} (remaining : R → Option (List ℕ))
    (MayAnswer : ReadOutcome R)
    (IsDue IsDueThen : List ℕ → ℕ → Type 0) (old between new : Source R answers bytes)
    (later before : List (ReadCall R))
    → ((came : List ℕ) (room : ℕ) → IsDueThen came room → IsDue (bytes_read before ++ came) room)
    → IsOpen old → IsOpen between
    → AreReadsBetween remaining MayAnswer IsDue old between before
    → AreReadsBetween remaining MayAnswer IsDueThen between new later
    → AreReadsBetween remaining MayAnswer IsDue old new (later ++ before)
read_behind remaining MayAnswer IsDue IsDueThen old between new later before so first then one two =
    let counts : reads_of new ≡ reads_of old + length (later ++ before) =
    rw length-append (omega (arith, one.count, two.count)) in
    let both = Consumes-trans _ _ _ (bytes_read before) (bytes_read later) one.taken two.taken in
    record {
      due = due_behind MayAnswer IsDue IsDueThen (reader_of old) later before so
          (may_go_on before one first then) one.due
          (subst (λ reader. AreDue MayAnswer IsDueThen reader later) one.reader two.due);
      reader = two.reader ∙ ap (λ reader. reader_after reader later) one.reader
          ∙ sym (reader_behind_both (reader_of old) later before);
      count = counts;
      taken = rw (bytes_behind later before) both;
      failed = two.failed ∙ ap (λ failed. failed_after failed later) one.failed
          ∙ sym (failed_behind_both (has_failed old) later before);
      ended = two.ended ∙ ap (λ ended. ended_after ended later) one.ended
          ∙ sym (ended_behind_both (has_ended old) later before);
    }

-- after a head, a read that was due for what the head asks was due
behind_head : (bytes front behind : List ℕ) (head : RequestHead) → bytes ≡ front
    → HasHead front head behind → (came : List ℕ) (room : ℕ)
    → IsDueOn (asked head) behind came room → IsDue (bytes ++ came) room
behind_head bytes front behind head is stands came room due =
    rw is (for_body head (behind ++ came) (head_before front head behind came stands) due)

-- a head was read, and then on for what it asks
pub head_then : {R : Type 0} {answers : _} {bytes : _} {remaining : R → Option (List ℕ)}
    {MayAnswer : ReadOutcome R} {old between new : Source R answers bytes} {front behind : List ℕ}
    {head : RequestHead} {Gave Gives : List ℕ → Type 0} → HasHead front head behind
    → IsOpen old → IsOpen between
    → ReadsOn remaining MayAnswer IsDueForHead old between (λ came. came ≡ front)
    → ReadsOn remaining MayAnswer (IsDueOn (asked head) behind) between new Gave
    → ((came : List ℕ) → Gave came → Gives (front ++ came))
    → ReadsOn remaining MayAnswer IsDue old new Gives
head_then {remaining} {MayAnswer} {old} {between} {new} {front} {behind} {head} {Gives} stands first then
    begun two gives =
    let one : ReadsOn remaining MayAnswer IsDue old between (λ came. came ≡ front) =
    read_as begun (λ came room due. for_head due) (λ came is. is) in
    let late = bytes_read two.reads in
    let came : bytes_read (two.reads ++ one.reads) ≡ front ++ late =
    bytes_behind two.reads one.reads ∙ ap (λ bytes. bytes ++ late) one.gave in
    record {
      reads = two.reads ++ one.reads;
      between = read_behind remaining MayAnswer IsDue (IsDueOn (asked head) behind) old between new
          two.reads one.reads
          (behind_head (bytes_read one.reads) front behind head one.gave stands) first then
          one.between two.between;
      gave = subst Gives (sym came) (gives late two.gave);
    }
