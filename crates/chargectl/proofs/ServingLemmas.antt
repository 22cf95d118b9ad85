-- How connections are served.
use Rattle.std.proofs.Common.{◌≡◌, ◌∙◌, ◌<◌, Bool, true, false, List, [], ◌∷◌, ◌++◌, ℕ, ◌+◌, refl, sym}
use Rattle.std.proofs.Common.{ap, append-nil, append_assoc, get_or, length, length-append, reverse, suc}
use Rattle.std.proofs.Common.{take, Option, Some, None, Result, Ok, Err, arith, inl, inr, subst}
use Rattle.std.proofs.Common.{unwrap_or, IfErr}
use Rattle.std.specs.Prelude.{⊤}
use Rattle.std.proofs.lemmas.List.{length-reverse, reverse-append, take_more}
use Rattle.streams.specs.InputOutput.{WriterSeen}
use Rattle.book_model.specs.Words.{AreMadeOf, Book, Event, Naming}
use Rattle.book_core.specs.Words.{MakesAnswered, Transition, NoEvent}
use Rattle.book_core.proofs.FollowLemmas.{none_answered, then_answered}
use Rattle.book_http.specs.declared.served.Served.{Served}
use Rattle.book_http.proofs.LawLemmas.{request_answered}
use Rattle.named_books.specs.Shelves.{IsUntouched, OpenedAnew}
use Rattle.named_books.proofs.ShelfLemmas.{done_after, done_then, opened_refused, opened_untouched}
use Rattle.without_books.specs.declared.ended.Ended.{Ended}
use Rattle.without_books.specs.Faults.{IsFileFault}
use Rattle.without_books.specs.ServedLines.{Gains, GainsBy, unfailed}
use Rattle.without_books.proofs.ServedLineLemmas.{gains_then}
use Rattle.chargectl.specs.declared.client_requests.Attended.{Attended}
use Rattle.chargectl.specs.ClientRequests.{LeavesLog, all_behind, later_of, told_behind, told_of}
use Rattle.chargectl.specs.CommandLaws.{AnswersOrNot, OpenedSo, ServesAny, ServesEach}
use Rattle.chargectl.specs.Requests.{IsServiceFault, Serves, WritesEarly, WritesLines}
use Rattle.chargectl.specs.Serving.{AllCame, AnswersSome, Attends, CameInTurn, CameTogether, Coming}
use Rattle.chargectl.specs.Serving.{IsServing, IsToldOf, Replies, ServesBehind, ServesInTurn, ServesOne}
use Rattle.chargectl.specs.Serving.{due_after, due_from, first_due, line_of, lines_of, most_beside}
use Rattle.chargectl.specs.Serving.{ready, service_end}
use Rattle.chargectl.specs.declared.due.Due.{Due}
use Rattle.chargectl.proofs.CommandLemmas.{either_as}
use Rattle.chargectl.proofs.Words.{RepositoryFault, Unseen, Shelf, IsDoneTo, IsOpened, done_as}
use Rattle.chargectl.proofs.Words.{CommandFault}
use Rattle.book_http.specs.declared.served.Served.TheVariants as served

-- ---- connections make events that the books answered

some_answered : (naming : Naming) (what : Served)
    → MakesAnswered naming (AnswersSome naming None what)
some_answered naming what book was events is it =
    request_answered naming it.bytes it.due book was events it.left it.made

none_made : (naming : Naming) (book : Book) (events : List Event) → events ≡ []
    → AreMadeOf naming book events
none_made naming book events none = subst (AreMadeOf naming book) (sym none) tt

came_answered : (naming : Naming) (came : Result Served RepositoryFault) (book : Book)
    (was is : Bool) (events : List Event)
    → OpenedSo (λ why. Unit {0}) (λ so made. AnswersSome naming None so was book made is) came events
    → AreMadeOf naming book events
came_answered naming (Ok so) book was is events it = some_answered naming so book was events is it
came_answered naming (Err Unseen) book was is events (refused, inl seen) =
    some_answered naming seen.0 book was events is seen.1
came_answered naming (Err Unseen) book was is events (refused, inr none) =
    none_made naming book events none
came_answered naming (Err why) book was is events (refused, none) =
    none_made naming book events none

replied : (naming : Naming) (what : Served) → MakesAnswered naming (AnswersOrNot naming what)
replied naming what book was events is it =
    came_answered naming it.came book was is events it.made

one_answered : (naming : Naming) (what : Served) → MakesAnswered naming (ServesAny naming what)
one_answered naming served.Closed = none_answered naming
one_answered naming served.ReadFault = none_answered naming
one_answered naming what = replied naming what

opened_answered : (naming : Naming) (Made : Transition) → MakesAnswered naming Made
    → MakesAnswered naming (OpenedAnew Made)
opened_answered naming Made makes book was events is it = makes book false events it.left it.made

pub each_answered : (naming : Naming) (told : List Served)
    → MakesAnswered naming (ServesEach naming told)
each_answered naming [] = none_answered naming
each_answered naming (what ∷ before) =
    then_answered naming (ServesEach naming before) (OpenedAnew (ServesAny naming what))
    (each_answered naming before)
    (opened_answered naming (ServesAny naming what) (one_answered naming what))

-- a client that was replied to is such work
any_done : (book : List ℕ) (what : Served) (old new : Shelf) (came : Result Served RepositoryFault)
    → IsOpened (AnswersSome old.naming None) book old new came → IsToldOf came what
    → IsDoneTo book (AnswersOrNot old.naming what) old new
any_done book what old new (Ok so) done told =
    done_as book (AnswersSome old.naming None so) (AnswersOrNot old.naming what) old new
    (λ before events is made. record { came = Ok so; made = made; told = told }) done
any_done book what old new (Err Unseen) (refused, inl seen) told =
    done_as book (AnswersSome old.naming None seen.0) (AnswersOrNot old.naming what) old new
    (λ before events is made. record { came = Err Unseen; made = (tt, inl (seen.0, made)); told = told })
    seen.1
any_done book what old new (Err Unseen) (refused, inr none) told =
    done_as book NoEvent (AnswersOrNot old.naming what) old new
    (λ before events is same. record { came = Err Unseen; made = (tt, inr same.none); told = told })
    none
any_done book what old new (Err why) (refused, none) told =
    done_as book NoEvent (AnswersOrNot old.naming what) old new
    (λ before events is same. record { came = Err why; made = (tt, same.none); told = told }) none

one_done : (book : List ℕ) (what : Served) (old new : Shelf) → ServesOne book None what old new
    → IsDoneTo book (ServesAny old.naming what) old new
one_done book served.Closed old new none = none
one_done book served.ReadFault old new none = none
one_done book what old new it = any_done book what old new it.came it.done it.told

-- so are connections in turn
pub turn_done : {S : Type 0} (shelf : S → Shelf) (book : List ℕ) (old new : S) (told : List Served)
    → ServesInTurn shelf book old new told
    → IsDoneTo book (ServesEach (shelf old).naming told) (shelf old) (shelf new)
turn_done shelf book old new [] none = none
turn_done shelf book old new (what ∷ before) (between, turn, served) =
    done_then book (ServesEach (shelf old).naming before) (λ naming. ServesAny naming what) (shelf old)
    (shelf between) (shelf new) (turn_done shelf book old between before turn)
    (one_done book what (shelf between) (shelf new) served)

-- where nothing was done before the first of them
turn_after : {S : Type 0} (shelf : S → Shelf) (book : List ℕ) (one two three : S) (told : List Served)
    → IsUntouched book (shelf one) (shelf two) → ServesInTurn shelf book two three told
    → ServesInTurn shelf book one three told
turn_after shelf book one two three [] none later =
    done_after book (λ naming. NoEvent) (shelf one) (shelf two) (shelf three) none later
turn_after shelf book one two three (what ∷ before) none (between, turn, served) =
    (between, turn_after shelf book one two between before none turn, served)

-- ---- whatever clients sent, they sent some bytes

some_bytes : (naming : Naming) (sent : Option (List ℕ)) (what : Served) (before : Book)
    (events : List Event) (is : Bool) → AnswersSome naming sent what false before events is
    → AnswersSome naming None what false before events is
some_bytes naming sent what before events is it = record {
  bytes = it.bytes;
  front = tt;
  due = it.due;
  left = it.left;
  made = it.made;
  fits = it.fits;
}

opened_some : (book : List ℕ) (sent : Option (List ℕ)) (old new : Shelf)
    (came : Result Served RepositoryFault)
    → IsOpened (AnswersSome old.naming sent) book old new came
    → IsOpened (AnswersSome old.naming None) book old new came
opened_some book sent old new (Ok so) done =
    done_as book (AnswersSome old.naming sent so) (AnswersSome old.naming None so) old new
    (some_bytes old.naming sent so) done
opened_some book sent old new (Err Unseen) (refused, inl seen) = (
  refused,
  inl (
    seen.0,
    done_as book (AnswersSome old.naming sent seen.0) (AnswersSome old.naming None seen.0) old new
        (some_bytes old.naming sent seen.0) seen.1,
  ),
)
opened_some book sent old new (Err Unseen) (refused, inr none) = (refused, inr none)
opened_some book sent old new (Err why) (refused, none) = (refused, none)

replies_some : (book : List ℕ) (sent : Option (List ℕ)) (what : Served) (old new : Shelf)
    → Replies book sent what old new → Replies book None what old new
replies_some book sent what old new it = record {
  came = it.came;
  done = opened_some book sent old new it.came it.done;
  told = it.told;
}

one_some : (book : List ℕ) (sent : Option (List ℕ)) (what : Served) (old new : Shelf)
    → ServesOne book sent what old new → ServesOne book None what old new
one_some book sent served.Closed old new none = none
one_some book sent served.ReadFault old new none = none
one_some book sent what old new it = replies_some book sent what old new it

turn_some : {S C : Type 0} (shelf : S → Shelf) (sent : C → Option (List ℕ)) (may_come : Coming C)
    (book : List ℕ) (first last : C) (old new : S) (told : List Served)
    → CameInTurn shelf sent may_come book first last old new told
    → ServesInTurn shelf book old new told
turn_some shelf sent may_come book first last old new [] it = it.1
turn_some shelf sent may_come book first last old new (what ∷ before)
    (middle, between, earlier, came, served) = (
      between,
      turn_some shelf sent may_come book first middle old between before earlier,
      one_some book (sent middle) what (shelf between) (shelf new) served,
    )

-- connections that came in turn were served in turn
turn_of : {S C : Type 0} {sent : C → Option (List ℕ)} {may_come : Coming C} {left : C → ℕ}
    {first last : C} (shelf : S → Shelf) (book : List ℕ) (old new : S) (held holds : WriterSeen)
    (it : IsServing shelf sent may_come left first last book old new held holds)
    → ServesInTurn shelf book old new it.told
turn_of {sent} {may_come} {first} {last} shelf book old new held holds it =
    turn_some shelf sent may_come book first last old new it.told it.came

-- ---- one after the other

-- some came, and then those of one opening
came_then : {S C : Type 0} (shelf : S → Shelf) (sent : C → Option (List ℕ)) (may_come : Coming C)
    (book : List ℕ) (first middle last : C) (old between new : S) (before told : List Served)
    → CameInTurn shelf sent may_come book first middle old between before
    → CameTogether shelf sent may_come book middle last between new told
    → CameInTurn shelf sent may_come book first last old new (told ++ before)
came_then {S} {C} shelf sent may_come book first middle last old between new before [] earlier
    (same, still) =
    subst (λ (end : C). CameInTurn shelf sent may_come book first end old new before) (sym same)
    (subst (λ (place : S). CameInTurn shelf sent may_come book first middle old place before) (sym still)
    earlier)
came_then shelf sent may_come book first middle last old between new before (what ∷ told) earlier
    (from, place, together, came, served) = (
      from,
      place,
      came_then shelf sent may_come book first middle from old between place before told earlier together,
      came,
      served,
    )

-- lines of some, and then of others
lines_then : (told before : List Served)
    → lines_of (told ++ before) ≡ lines_of before ++ lines_of told
lines_then [] before = sym (append-nil (lines_of before))
lines_then (what ∷ told) before =
    ap (λ lines. lines ++ line_of what) (lines_then told before)
    ∙ append_assoc (lines_of before) (lines_of told) (line_of what)

-- those of one more opening were served
pub serving_more : {S C : Type 0} (shelf : S → Shelf) (sent : C → Option (List ℕ))
    (may_come : Coming C) (left : C → ℕ) (first middle last : C) (book : List ℕ)
    (old between new : S) (held has holds : WriterSeen) (told : List Served)
    → IsServing shelf sent may_come left first middle book old between held has
    → CameTogether shelf sent may_come book middle last between new told
    → Gains has holds (lines_of told) → left last + length told ≡ left middle
    → IsServing shelf sent may_come left first last book old new held holds
serving_more shelf sent may_come left first middle last book old between new held has holds told before
    came lines count =
    record {
      told = told ++ before.told;
      came = came_then shelf sent may_come book first middle last old between new before.told told
          before.came came;
      count = let counted = before.count in
          let both = length-append told before.told in omega (arith, counted, count, both);
      lines = subst (λ (lines : List ℕ). Gains held holds lines) (sym (lines_then told before.told))
          (gains_then held has holds (lines_of before.told) (lines_of told) before.lines lines);
    }

-- how many are told of
pub told_count : (attended : Attended) → length (told_of attended) ≡ length (later_of attended) + 1
told_count attended = length-append (later_of attended) (attended.served ∷ [])

-- where none is to come, none came
pub no_later : (later : List Served) → 0 + length later ≡ 0 → later ≡ []
no_later [] count = refl
no_later (what ∷ later) count = absurd (omega (arith, count))

-- of connections of which nothing is known any may come, whatever they send
pub any_together : {S C : Type 0} (shelf : S → Shelf) (book : List ℕ) (first last : C)
    (old between new : S) (what : Served) (later : List Served)
    → ServesOne book None what (shelf old) (shelf between) → ServesBehind shelf book between new later
    → CameTogether shelf (λ (one : C). None) (λ (one : C) (so : Served) (other : C). ⊤) book first last old
    new (later ++ what ∷ [])
any_together shelf book first last old between new what [] done same = (
  first,
  old,
  (refl, refl),
  tt,
  subst (λ place. ServesOne book None what (shelf old) (shelf place)) (sym same) done,
)
any_together shelf book first last old between new what (so ∷ before) done (place, earlier, served) = (
  last,
  place,
  any_together shelf book first last old between place what before done earlier,
  tt,
  served,
)

-- one came alone
pub alone_together : {S C : Type 0} (shelf : S → Shelf) (sent : C → Option (List ℕ))
    (may_come : Coming C) (book : List ℕ) (first last : C) (old new : S) (attended : Attended)
    → Attends shelf book (sent first) old new attended → later_of attended ≡ []
    → may_come first attended.served last
    → CameTogether shelf sent may_come book first last old new (told_of attended)
alone_together shelf sent may_come book first last old new attended it none came =
    let same = subst (λ (later : List Served). ServesBehind shelf book it.between new later) none
    it.behind in
    subst (λ (later : List Served). CameTogether shelf sent may_come book first last old new
    (later ++ attended.served ∷ [])) (sym none) (
      first,
      old,
      (refl, refl),
      came,
      subst (λ place. ServesOne book (sent first) attended.served (shelf old) (shelf place)) (sym same)
          it.done,
    )

-- no line was written
gains_none : (failed : Bool) (holds : Option (List ℕ)) → GainsBy failed failed holds holds []
gains_none true None = tt
gains_none true (Some bytes) = refl
gains_none false None = tt
gains_none false (Some bytes) = sym (append-nil bytes)

pub no_lines : (seen : WriterSeen) → Gains seen seen []
no_lines seen = gains_none seen.has_failed seen.holds

-- one more line was written of those behind a client
pub line_more : (held has holds : WriterSeen) (first said : Served) (items : List Served) (count : ℕ)
    (other : Served) → count < length items
    → Gains held has (lines_of (all_behind first (reverse (take count items))))
    → said ≡ told_behind first (get_or items count other) → Gains has holds (line_of said)
    → Gains held holds (lines_of (all_behind first (reverse (take (count + 1) items))))
line_more held has holds first said items count other short before is line =
    let what = get_or items count other in
    subst (λ (told : List Served). Gains held holds (lines_of (all_behind first told)))
    (sym (ap reverse (take_more items count other short)
    ∙ reverse-append (take count items) (what ∷ [])))
    (gains_then held has holds (lines_of (all_behind first (reverse (take count items))))
    (line_of (told_behind first what)) before
    (subst (λ (said : Served). Gains has holds (line_of said)) is line))

-- the line of a client was written, and then those of the clients behind it
pub lines_behind : (held has holds : WriterSeen) (first : Served) (later : List Served)
    → Gains held has (line_of first) → Gains has holds (lines_of later)
    → Gains held holds (lines_of (later ++ first ∷ []))
lines_behind held has holds first later line lines =
    subst (λ (lines : List ℕ). Gains held holds lines) (sym (lines_then later (first ∷ [])))
    (gains_then held has holds (line_of first) (lines_of later) line lines)

-- those behind a client are as many as were answered behind it
behind_count : (first : Served) (told : List Served) → length (all_behind first told) ≡ length told
behind_count first [] = refl
behind_count first (what ∷ before) = ap suc (behind_count first before)

pub later_count : (attended : Attended) → length (later_of attended) ≡ length attended.later.items
later_count attended =
    behind_count attended.served (reverse attended.later.items)
    ∙ length-reverse attended.later.items

-- one more of them
pub one_more : (items : List Served) (count : ℕ) → count < length items
    → length (take (count + 1) items) ≡ length (take count items) + 1
one_more items count within =
    let what = get_or items count served.Closed in
    ap length (take_more items count served.Closed within)
    ∙ length-append (take count items) (what ∷ [])

-- ---- how many are due

-- what is due after connections that came in turn, each of which was due
pub due_in_turn : {S C : Type 0} (shelf : S → Shelf) (sent : C → Option (List ℕ)) (due : C → Due)
    (book : List ℕ) (first last : C) (old new : S) (told : List Served)
    → CameInTurn shelf sent (λ before what after. due after ≡ due_after what (due before)) book first
    last old new told
    → due last ≡ due_from (due first) told
due_in_turn shelf sent due book first last old new [] it = ap due it.0
due_in_turn shelf sent due book first last old new (what ∷ before)
    (middle, between, earlier, came, served) =
    came
    ∙ ap (due_after what)
    (due_in_turn shelf sent due book first middle old between before earlier)

-- what is due after one more of those behind a client
pub due_more : (start due next : Due) (first said : Served) (items : List Served) (count : ℕ)
    (other : Served) → count < length items
    → due ≡ due_from start (all_behind first (reverse (take count items)) ++ first ∷ [])
    → said ≡ told_behind first (get_or items count other) → next ≡ due_after said due
    → next ≡ due_from start (all_behind first (reverse (take (count + 1) items)) ++ first ∷ [])
due_more start due next first said items count other short before is counted =
    let what = get_or items count other in
    subst (λ (told : List Served). next ≡ due_from start (all_behind first told ++ first ∷ []))
    (sym (ap reverse (take_more items count other short)
    ∙ reverse-append (take count items) (what ∷ [])))
    (counted ∙ ap (λ (said : Served). due_after said due) is
    ∙ ap (due_after (told_behind first what)) before)

-- connections of which nothing is known but how many are due may come together, whatever they send
pub due_together : {S C : Type 0} (shelf : S → Shelf) (due : C → Due) (at : Due → C)
    → ((left : Due) → due (at left) ≡ left) → (book : List ℕ) (first last : C) (old between new : S)
    (what : Served) (later : List Served)
    → ServesOne book None what (shelf old) (shelf between) → ServesBehind shelf book between new later
    → due last ≡ due_from (due first) (later ++ what ∷ [])
    → CameTogether shelf (λ (one : C). None)
    (λ (before : C) (so : Served) (after : C). due after ≡ due_after so (due before)) book first last old
    new (later ++ what ∷ [])
due_together shelf due at same book first last old between new what [] done still ends = (
  first,
  old,
  (refl, refl),
  ends,
  subst (λ place. ServesOne book None what (shelf old) (shelf place)) (sym still) done,
)
due_together shelf due at same book first last old between new what (so ∷ before) done
    (place, earlier, served) ends =
    let left = due_from (due first) (before ++ what ∷ []) in (
      at left,
      place,
      due_together shelf due at same book first (at left) old between place what before done earlier
          (same left),
      ends ∙ ap (due_after so) (sym (same left)),
      served,
    )

-- where none is left of those that were due at first, all came
pub all_came : (requests : ℕ) (told : List Served) (first last : Due) → first ≡ first_due requests
    → last ≡ due_from first told → last.left ≡ 0
    → (last.left + last.beside) + length told ≡ first.left + first.beside → AllCame requests told
all_came requests told first last begun ends none count =
    let at = first_due requests in
    let same : last ≡ due_from at told = ends ∙ ap (λ due. due_from due told) begun in
    let counted : (last.left + last.beside) + length told ≡ requests + most_beside =
    subst (λ (due : Due). (last.left + last.beside) + length told ≡ due.left + due.beside) begun count in
    let each : last.beside + length told ≡ requests + most_beside = omega (arith, counted, none) in
    record {
      none = ap (λ (due : Due). due.left) (sym same) ∙ none;
      each = subst (λ (due : Due). due.beside + length told ≡ requests + most_beside) same each;
    }

-- a log is as the last client left it, or as it was before
pub log_left : {S : Type 0} (shelf : S → Shelf) (book : List ℕ) (old new : S) (was : Bool)
    (left : Option Bool) → (shelf old).has_log book was → LeavesLog shelf book old new left
    → (shelf new).has_log book (unwrap_or left was)
log_left shelf book old new was (Some is) before log = log
log_left shelf book old new was None before same =
    subst (λ place. (shelf place).has_log book was) (sym same) before

-- ---- a whole service

-- the first line was written, or lost, and then those of the connections
lines_written : (held holds : Option (List ℕ)) (first before after : WriterSeen) (told : List Served)
    → first ≡ unfailed held → Gains first before ready → Gains before after (lines_of told)
    → holds ≡ after.holds → WritesLines told held holds after.has_failed
lines_written held holds first before after told begun said lines bytes =
    subst (λ holds. WritesLines told held holds after.has_failed) (sym bytes)
    (gains_then (unfailed held) before after ready (lines_of told)
    (subst (λ first. Gains first before ready) begun said) lines)

-- a service that ended with a fault
cut_by : {S : Type 0} (shelf : S → Shelf) (Refuses : RepositoryFault → Type 0) (book : List ℕ)
    (old new : S) (requests : ℕ) (held holds : Option (List ℕ)) (Failed : Type 0) (ended : Ended)
    (why : CommandFault) (has_log : Bool) (told : List Served)
    → ended ≡ record { came = Err why; has_log = has_log; is_change = true; notice = None }
    → IsServiceFault Refuses why → ServesInTurn shelf book old new told
    → WritesEarly told held holds → (shelf new).has_log book has_log
    → Serves shelf Refuses requests book old new held holds Failed ended
cut_by shelf Refuses book old new requests held holds Failed ended why has_log told is known turn wrote
    log =
    subst (λ ended. Serves shelf Refuses requests book old new held holds Failed ended) (sym is)
    (record {
      told = told;
      turn = turn;
      served = Err why;
      all = tt;
      early = wrote;
      cause = known;
      ends = refl;
      log = log;
      change = refl;
      notice = refl;
    })

-- a connection did not come
pub serves_cut : {S C : Type 0} {sent : C → Option (List ℕ)} {may_come : Coming C} {left : C → ℕ}
    {from to : C} (shelf : S → Shelf) (Refuses : RepositoryFault → Type 0) (book : List ℕ) (old new : S)
    (requests : ℕ) (held holds : Option (List ℕ)) (Failed : Type 0) (first before after : WriterSeen)
    (ended : Ended) (why : CommandFault) (has_log : Bool)
    → first ≡ unfailed held → Gains first before ready → holds ≡ after.holds
    → ended ≡ record { came = Err why; has_log = has_log; is_change = true; notice = None }
    → IsServiceFault Refuses why
    → IsServing shelf sent may_come left from to book old new before after
    → (shelf new).has_log book has_log
    → Serves shelf Refuses requests book old new held holds Failed ended
serves_cut shelf Refuses book old new requests held holds Failed first before after ended why has_log
    begun said bytes is known it log =
    cut_by shelf Refuses book old new requests held holds Failed ended why has_log it.told is known
    (turn_of shelf book old new before after it)
    (inl (
      after.has_failed,
      lines_written held holds first before after it.told begun said it.lines bytes,
    ))
    log

-- or the books were refused, or the port was in the way
pub serves_none : {S : Type 0} (shelf : S → Shelf) (book : List ℕ) (old new : S) (requests : ℕ)
    (held : Option (List ℕ)) (Failed : Type 0) (ended : Ended) (why : CommandFault) (has_log : Bool)
    (opened : Result (Unit {0}) RepositoryFault)
    → ended ≡ record { came = Err why; has_log = has_log; is_change = true; notice = None }
    → IsServiceFault (λ fault. opened ≡ Err fault) why
    → IsOpened (λ told. NoEvent) book (shelf old) (shelf new) opened
    → (shelf new).has_log book has_log
    → Serves shelf ((shelf old).refuses book) requests book old new held held Failed ended
serves_none shelf book old new requests held Failed ended why has_log opened is known none log =
    let Refuses = (shelf old).refuses book in
    cut_by shelf Refuses book old new requests held held Failed ended why has_log [] is
    (either_as (λ fault. opened ≡ Err fault) Refuses
    (λ fault told. opened_refused (λ told. NoEvent) book (shelf old) (shelf new) opened fault none told)
    (IsFileFault why) why known)
    (opened_untouched book (shelf old) (shelf new) opened none) (inr (refl, refl)) log

-- a service of all connections, whose lines were written, or lost from one on
pub serves_all : {S C : Type 0} {sent : C → Option (List ℕ)} {may_come : Coming C} {left : C → ℕ}
    {from to : C} (shelf : S → Shelf) (book : List ℕ) (old new : S) (requests : ℕ)
    (held holds : Option (List ℕ)) (Failed : Type 0) (first before after : WriterSeen)
    (failed : Bool) (ended : Ended) (has_log : Bool)
    → first ≡ unfailed held → Gains first before ready
    → (it : IsServing shelf sent may_come left from to book old new before after)
    → AllCame requests it.told
    → holds ≡ after.holds → failed ≡ after.has_failed → (after.has_failed ≡ true → Failed)
    → ended ≡ record {
      came = service_end (Ok failed);
      has_log = has_log;
      is_change = true;
      notice = None;
    }
    → (shelf new).has_log book has_log
    → Serves shelf (λ _. ⊥) requests book old new held holds Failed ended
serves_all shelf book old new requests held holds Failed first before after failed ended has_log begun
    said it all bytes flag lost is log =
    subst (λ ended. Serves shelf (λ _. ⊥) requests book old new held holds Failed ended) (sym is)
    (record {
      told = it.told;
      turn = turn_of shelf book old new before after it;
      served = Ok failed;
      all = (
        all,
        subst (λ failed. WritesLines it.told held holds failed) (sym flag)
            (lines_written held holds first before after it.told begun said it.lines bytes),
        λ told. lost (sym flag ∙ told),
      );
      early = tt;
      cause = tt;
      ends = refl;
      log = log;
      change = refl;
      notice = refl;
    })

-- a service that began where the books were only looked at: there they were not in the way
cause_after : (Refuses : RepositoryFault → Type 0) (served : Result Bool CommandFault)
    → IfErr served (IsServiceFault (λ _. ⊥)) → IfErr served (IsServiceFault Refuses)
cause_after Refuses (Ok failed) cause = tt
cause_after Refuses (Err why) cause =
    either_as (λ _. ⊥) Refuses (λ fault none. absurd none) (IsFileFault why) why cause

pub serves_after : {S : Type 0} (shelf : S → Shelf) (book : List ℕ) (one two three : S)
    (requests : ℕ) (held holds : Option (List ℕ)) (Failed : Type 0) (ended : Ended)
    → IsUntouched book (shelf one) (shelf two)
    → Serves shelf (λ _. ⊥) requests book two three held holds Failed ended
    → Serves shelf ((shelf one).refuses book) requests book one three held holds Failed ended
serves_after shelf book one two three requests held holds Failed ended none it = record {
  told = it.told;
  turn = turn_after shelf book one two three it.told none it.turn;
  served = it.served;
  all = it.all;
  early = it.early;
  cause = cause_after ((shelf one).refuses book) it.served it.cause;
  ends = it.ends;
  log = it.log;
  change = it.change;
  notice = it.notice;
}
