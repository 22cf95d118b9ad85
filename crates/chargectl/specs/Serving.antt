-- How connections are served: each in turn, with one line for each. A line that can't be written is
-- lost, and so are those after it; the connections are served all the same.
use Rattle.std.specs.Prelude.{◌≡◌, ◌+◌, ◌-◌, ◌==◌, ◌&&◌, nat_lt, if◌then◌else◌, Bool, true, false, ℕ}
use Rattle.std.specs.Prelude.{List, [], ◌∷◌, ◌++◌, codes, length, Option, Result, Ok, Err, decimal}
use Rattle.std.specs.declared.io.Error.{Error}
use Rattle.streams.specs.InputOutput.{WriterSeen}
use Rattle.book_http.specs.declared.served.Served.{Served}
use Rattle.book_http.specs.Statuses.{status_code}
use Rattle.book_http.specs.declared.status.Status.TheVariants.{Forbidden}
use Rattle.book_lists.specs.declared.fault.ReportFault.TheVariants.{Write}
use Rattle.named_books.specs.Shelves.{Shelf, IsUntouched}
use Rattle.without_books.specs.declared.command_fault.CommandFault.{CommandFault}
use Rattle.without_books.specs.ServedLines.{Gains}
use Rattle.chargectl.specs.declared.client_requests.Attended.{Attended}
use Rattle.chargectl.specs.declared.due.Due.{Due}
use Rattle.chargectl.specs.ClientRequests.{LeavesLog, later_of}
pub use Rattle.chargectl.specs.ServedClients.{AnswersSome, IsToldOf, Replies, ServesBehind}
pub use Rattle.chargectl.specs.ServedClients.{ServesInTurn, ServesOne}
use Rattle.book_http.specs.declared.served.Served.TheVariants as served
use Rattle.without_books.specs.declared.command_fault.CommandFault.TheVariants as fault

-- So it is with one client, and with those that were answered behind it; and whether it left a log beside
-- the books.
pub record Attends {S : Type 0} (shelf : S → Shelf) (book : List ℕ) (sent : Option (List ℕ))
    (old new : S) (attended : Attended) : Type 0 where
  pub between : S
  pub done : ServesOne book sent attended.served (shelf old) (shelf between)
  pub behind : ServesBehind shelf book between new (later_of attended)
  pub log : LeavesLog shelf book old new attended.log

-- an answer was sent whole
abbrev pub is_answered : Served → Bool
is_answered (served.Answered status) = true
is_answered what = false

-- a client was turned away: it asked for another host, or a page elsewhere sent it
abbrev pub is_turned_away : Served → Bool
is_turned_away (served.Answered status) = status == status_code Forbidden
is_turned_away what = false

-- A client that is turned away is not counted among the requests, so that a page elsewhere can end no
-- service; but for these many (the office's rule), since a service has to end.
abbrev pub most_beside : ℕ
most_beside = 1000000000

-- what is due at first,
abbrev pub first_due : ℕ → Due
first_due requests = record { left = requests; beside = most_beside }

-- what is due after a connection of which this became,
abbrev pub due_after : Served → Due → Due
due_after what due =
    if is_turned_away what && nat_lt 0 due.beside then record due { beside = due.beside - 1 }
    else record due { left = due.left - 1 }

-- and after these, the newest first
abbrev pub due_from : Due → List Served → Due
due_from first [] = first
due_from first (what ∷ before) = due_after what (due_from first before)

-- As many connections as were requested came, and those beside them that were turned away: none is left,
-- and each was one of those that were due.
pub record AllCame (requests : ℕ) (told : List Served) : Type 0 where
  pub none : (due_from (first_due requests) told).left ≡ 0
  pub each : (due_from (first_due requests) told).beside + length told ≡ requests + most_beside

-- the line of a connection
abbrev pub line_of : Served → List ℕ
line_of served.Closed = codes "CLOSED\n"
line_of served.ReadFault = codes "READ\n"
line_of served.WriteFault = codes "WRITE\n"
line_of served.Cut = codes "CUT\n"
line_of (served.Answered status) = codes "SERVED " ++ decimal status ++ codes "\n"

-- their lines in order, the newest last
abbrev pub lines_of : List Served → List ℕ
lines_of [] = []
lines_of (what ∷ before) = lines_of before ++ line_of what

-- What is written before the first line.
abbrev pub ready : List ℕ
ready = codes "READY\n"

-- what may become of the next of some connections, which leaves such others
abbrev pub Coming : Type 0 → Type 1
Coming C = C → Served → C → Type 0

-- From the first of these connections to the last they came one after the other, and this became of
-- each, the newest first, by what it sends: each found the books where the one before it left them.
abbrev pub CameInTurn : {S C : Type 0} → (S → Shelf) → (C → Option (List ℕ)) → Coming C → List ℕ
    → C → C → S → S → List Served → Type 0
CameInTurn shelf sent may_come book first last old new [] =
    (last ≡ first) × IsUntouched book (shelf old) (shelf new)
CameInTurn {S} {C} shelf sent may_come book first last old new (what ∷ before) =
    (middle : C) × (between : S)
    × CameInTurn shelf sent may_come book first middle old between before
    × may_come middle what last × ServesOne book (sent middle) what (shelf between) (shelf new)

-- so it is with those of one opening: the place was left alone before the first of them
abbrev pub CameTogether : {S C : Type 0} → (S → Shelf) → (C → Option (List ℕ)) → Coming C → List ℕ
    → C → C → S → S → List Served → Type 0
CameTogether shelf sent may_come book first last old new [] = (last ≡ first) × (new ≡ old)
CameTogether {S} {C} shelf sent may_come book first last old new (what ∷ before) =
    (middle : C) × (between : S)
    × CameTogether shelf sent may_come book first middle old between before
    × may_come middle what last × ServesOne book (sent middle) what (shelf between) (shelf new)

-- Of the connections that were due these are left last. The others came and were served one after the other,
-- whatever is known of the books, and each has the line of what became of it, up to a write that failed, if
-- one did.
pub record IsServing {S C : Type 0} (shelf : S → Shelf) (sent : C → Option (List ℕ))
    (may_come : Coming C) (left : C → ℕ) (first last : C) (book : List ℕ) (old new : S)
    (held holds : WriterSeen) : Type 0 where
  pub told : List Served
  pub came : CameInTurn shelf sent may_come book first last old new told
  pub count : left last + length told ≡ left first
  pub lines : Gains held holds (lines_of told)

-- one that did not come is among those that are left
abbrev pub left_by : Result (Unit {0}) Error → ℕ → ℕ
left_by (Ok done) left = left
left_by (Err error) left = left + 1

-- why the next of some connections may not come, which leaves such others
abbrev pub NotComing : Type 0 → Type 1
NotComing C = C → Error → C → Type 0

-- These are left after all that came; or they are left by one that did not, for this reason.
abbrev pub EndsWith : {C : Type 0} → NotComing C → C → C → Result (Unit {0}) Error → Type 0
EndsWith may_fail last new (Ok done) = new ≡ last
EndsWith may_fail last new (Err error) = may_fail last error new

-- Connections were served until none was left; nothing but one that did not come ended that early.
pub record ServesUntil {S C : Type 0} (shelf : S → Shelf) (sent : C → Option (List ℕ))
    (may_come : Coming C) (may_fail : NotComing C) (left : C → ℕ) (first new : C) (book : List ℕ)
    (old after : S) (held holds : WriterSeen) (result : Result (Unit {0}) Error) : Type 0 where
  pub last : C
  pub serving : IsServing shelf sent may_come left first last book old after held holds
  pub ends : EndsWith may_fail last new result
  pub count : left_by result (left new) ≡ left last

-- How a service ends: all connections were answered, and it is told whether a write of their lines failed
-- meanwhile; or why no more were answered.
abbrev pub service_end : Result Bool CommandFault → Result (Unit {0}) CommandFault
service_end (Ok false) = Ok tt
service_end (Ok true) = Err (fault.Report Write)
service_end (Err why) = Err why
