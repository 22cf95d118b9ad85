-- One request of a client. The books are open only while they are asked.
use Rattle.std.specs.Prelude.{◌≡◌, ◌+◌, ◌<◌, ℕ, Bool, true, false, List, [], ◌∷◌, ◌++◌, length}
use Rattle.std.specs.Prelude.{reverse, Option, Some, None, Result, Ok, Err}
use Rattle.book_model.specs.Words.{Book, Event, Naming}
use Rattle.book_core.specs.Words.{Seen, IsTransition, Transition, MakesAnswered}
use Rattle.book_reports.specs.declared.streamed_details.DetailReport.{DetailReport}
use Rattle.book_http.specs.declared.answer.Answer.{Answer}
use Rattle.book_http.specs.declared.served.Served.{Served}
use Rattle.book_http.specs.declared.status.Status.TheVariants.{Unavailable}
use Rattle.book_http.specs.Answer.{most_gathered}
use Rattle.book_http.specs.Reads.{AreDue, IsDue, ReadCall, ReadOutcome, bytes_read, ended_after}
use Rattle.book_http.specs.Reads.{failed_after}
use Rattle.book_http.specs.Replies.{Reply, refusal, reply_of}
use Rattle.book_http.specs.Requested.{AnswersRequest, IsAsking, WholeRequest, request_seen}
use Rattle.book_http.specs.Served.{IsSent, IsSentAsRead, SendsSome, is_read_fault, is_unanswered}
use Rattle.book_http.specs.Served.{is_write_fault}
use Rattle.book_http.proofs.LawLemmas.{wanted_answered}
use Rattle.named_books.specs.declared.repository.RepositoryFault.{RepositoryFault}
use Rattle.named_books.specs.Shelves.{Shelf, ComesBy, IsOpened, IsThere}
use Rattle.request_bursts.specs.Bursts.{AnswersMore, AreDueBy, IsShort}
use Rattle.chargectl.specs.declared.client_requests.Attended.{Attended}
use Rattle.chargectl.specs.ServedClients.{ServesBehind, away_reply}
use Rattle.book_http.specs.declared.asked.Asked.TheVariants as wants
use Rattle.book_http.specs.declared.served.Served.TheVariants as served
use Rattle.named_books.specs.declared.repository.RepositoryFault.TheVariants as shelf

-- something is asked of the books: a request that is settled asks nothing of them
abbrev pub asks_books : WholeRequest → Bool
asks_books (wants.Settled answer) = false
asks_books request = true

-- It may be sent while the books are open: long details, and the short text of a report.
abbrev pub may_be_early : WholeRequest → Bool
may_be_early (wants.Details details) = true
may_be_early (wants.Report report kind) = true
may_be_early request = false

-- How an answer is sent while the books are open: details while they are read, where they are longer than
-- what is gathered; a report where its text is short.
abbrev pub IsSentOpen : WholeRequest → Reply → Option (List ℕ) → Option (List ℕ) → Served → Type 0
IsSentOpen (wants.Details details) reply held holds what =
    (most_gathered < length reply.body) × IsSentAsRead reply held holds what
IsSentOpen (wants.Report report kind) reply held holds what =
    IsShort reply × IsSent reply held holds what
IsSentOpen request reply held holds what = ⊥

-- a request was answered, and the answer was sent so
pub record SendsAnswer (naming : Naming) (request : WholeRequest) (held holds : Option (List ℕ))
    (served : Served) (was : Bool) (before : Book) (events : List Event) (is : Bool) : Type 0 where
  pub reply : Reply
  pub left : Bool
  pub answer : AnswersRequest naming (request_seen request) reply was before events left
  pub sent : IsSentOpen request reply held holds served

-- What is done while the books are open: they are asked once. The answer was sent then, or it is due, once
-- they are closed.
abbrev pub AsksOpen : Naming → WholeRequest → Option (List ℕ) → Option (List ℕ)
    → Result Served Answer → Transition
AsksOpen naming request held holds (Err answer) =
    AnswersRequest naming (request_seen request) (reply_of answer)
AsksOpen naming request held holds (Ok what) = SendsAnswer naming request held holds what

-- a report is asked for
abbrev pub is_report : WholeRequest → Bool
is_report (wants.Report report kind) = true
is_report request = false

-- others may be answered behind a report that was sent
abbrev pub may_lead : Bool → Result Served Answer → Bool
may_lead reports (Ok what) = reports
may_lead reports (Err answer) = false

-- Others were answered behind such a report; behind anything else nobody was, and the books were left
-- alone.
abbrev pub AsksBehind : {L : Type 0} → (L → Seen) → Bool → L → L → List Served → Type 0
AsksBehind seen true old new later =
    IsTransition (seen old) (seen new) (AnswersMore (seen old).naming later)
AsksBehind seen false old new later = (new ≡ old) × (later ≡ [])

-- where others were answered no event was made, and they were answered by the same book
abbrev pub AreAsked : Naming → Book → List Event → List Served → Type 0
AreAsked naming before events [] = Unit {0}
AreAsked naming before events (what ∷ later) =
    (events ≡ []) × AreDueBy naming before (what ∷ later)

-- all that is done while they are open
pub record AsksAll (naming : Naming) (request : WholeRequest) (held holds : Option (List ℕ))
    (told : Result Served Answer) (later : List Served) (was : Bool) (before : Book)
    (events : List Event) (is : Bool) : Type 0 where
  pub first : AsksOpen naming request held holds told was before events is
  pub behind : AreAsked naming before events later

-- such details were sent, behind a head that announces more bytes than are gathered
pub record SendsLong (details : DetailReport) (held holds : Option (List ℕ)) (what : Served) : Type 0
  where
    pub size : ℕ
    pub long : most_gathered < size
    pub some : SendsSome details size held holds what
    pub begun : is_unanswered what ≡ false

-- a short text was sent
pub record SendsShort (held holds : Option (List ℕ)) (what : Served) : Type 0 where
  pub reply : Reply
  pub short : IsShort reply
  pub sent : IsSent reply held holds what
  pub begun : is_unanswered what ≡ false

-- Nothing but long details and short reports is sent while they are open, whatever the books are.
abbrev pub SendsOpen : WholeRequest → Option (List ℕ) → Option (List ℕ) → Result Served Answer
    → Type 0
SendsOpen request held holds (Err answer) = holds ≡ held
SendsOpen (wants.Details details) held holds (Ok what) =
    SendsLong details held holds what
SendsOpen (wants.Report report kind) held holds (Ok what) = SendsShort held holds what
SendsOpen request held holds (Ok what) = ⊥

-- that a write of that failed is told where one did
abbrev pub FailsOpen : Type 0 → Result Served Answer → Type 0
FailsOpen Failed (Err answer) = Unit {0}
FailsOpen Failed (Ok what) = is_write_fault what ≡ true → Failed

-- so it is with what came of the books, which are closed again
abbrev pub FailsBefore : Type 0 → Result (Result Served Answer) RepositoryFault → Type 0
FailsBefore Failed (Ok told) = FailsOpen Failed told
FailsBefore Failed (Err why) = Unit {0}

-- what was sent while they were open, and where that failed
pub record ComesOpen (request : WholeRequest) (held holds : Option (List ℕ)) (Failed : Type 0)
    (told : Result Served Answer) : Type 0 where
  pub sends : SendsOpen request held holds told
  pub failed : FailsOpen Failed told

-- nobody is answered behind a client that leads none
abbrev pub AreLed : Bool → List Served → Type 0
AreLed true later = Unit {0}
AreLed false later = later ≡ []

-- and how many of those that may come were answered behind it
pub record ComesAll {C : Type 0} (left : C → ℕ) (before after : C) (request : WholeRequest)
    (held holds : Option (List ℕ)) (Failed : Type 0) (told : Result Served Answer)
    (later : List Served) : Type 0 where
  pub first : ComesOpen request held holds Failed told
  pub led : AreLed (may_lead (is_report request) told) later
  pub count : left after + length later ≡ left before

-- it makes events that the books answered
pub open_answered : (naming : Naming) (request : WholeRequest) (held holds : Option (List ℕ))
    (told : Result Served Answer) → MakesAnswered naming (AsksOpen naming request held holds told)
open_answered naming request held holds (Err answer) =
    wanted_answered naming (request_seen request) (reply_of answer)
open_answered naming request held holds (Ok what) = λ book was events is it.
    wanted_answered naming (request_seen request) it.reply book was events it.left it.answer

pub all_answered : (naming : Naming) (request : WholeRequest) (held holds : Option (List ℕ))
    (told : Result Served Answer) (later : List Served)
    → MakesAnswered naming (AsksAll naming request held holds told later)
all_answered naming request held holds told later = λ book was events is it.
    open_answered naming request held holds told book was events is it.first

-- where an answer may have been sent already, nothing more is
abbrev pub EndsUnseen : Bool → Option (List ℕ) → Option (List ℕ) → Served → Type 0
EndsUnseen true shown holds what = (what ≡ served.Cut) × (holds ≡ shown)
EndsUnseen false shown holds what = IsSent (refusal Unavailable) shown holds what

-- What is sent after the books were closed, by what came of them.
abbrev pub EndsBy : Bool → Result (Result Served Answer) RepositoryFault → Option (List ℕ)
    → Option (List ℕ) → Served → Type 0
EndsBy early (Ok (Err answer)) shown holds what = IsSent (reply_of answer) shown holds what
EndsBy early (Ok (Ok so)) shown holds what = (what ≡ so) × (holds ≡ shown)
EndsBy early (Err shelf.Unseen) shown holds what = EndsUnseen early shown holds what
EndsBy early (Err why) shown holds what = IsSent (away_reply why) shown holds what

-- The books were opened for a request that had come whole, asked once, and closed; or they were in the
-- way. One that asks them something is answered only of books that are there. So much was shown to the
-- client by then: nothing but long details or a short report. The answer followed.
pub record IsAnsweredFrom (book : List ℕ) (old new : Shelf) (request : WholeRequest)
    (held holds : Option (List ℕ)) (what : Served) : Type 0 where
  pub told : Result (Result Served Answer) RepositoryFault
  pub shown : Option (List ℕ)
  pub done : IsOpened (AsksOpen old.naming request held shown) book old new told
  pub there : asks_books request ≡ true → IsThere book old new told
  pub early : ComesBy (SendsOpen request held shown) (shown ≡ held) told
  pub ends : EndsBy (may_be_early request) told shown holds what

-- so it was with one client, and then with those behind it
pub record AreAnsweredFrom {S : Type 0} (shelf : S → Shelf) (book : List ℕ) (old new : S)
    (request : WholeRequest) (held holds : Option (List ℕ)) (what : Served) (later : List Served)
    : Type 0 where
  pub between : S
  pub first : IsAnsweredFrom book (shelf old) (shelf between) request held holds what
  pub behind : ServesBehind shelf book between new later

-- What is told of a client behind one of which this is told: where it was not seen that the closed files
-- hold the books from which both were answered, no answer is told.
abbrev pub told_behind : Served → Served → Served
told_behind served.Cut what = served.Cut
told_behind first what = what

abbrev pub all_behind : Served → List Served → List Served
all_behind first [] = []
all_behind first (what ∷ before) = told_behind first what ∷ all_behind first before

-- what is told of those that were answered behind a client, the newest first
abbrev pub later_of : Attended → List Served
later_of attended = all_behind attended.served (reverse attended.later.items)

-- and of the client too
abbrev pub told_of : Attended → List Served
told_of attended = later_of attended ++ attended.served ∷ []

-- the log that is left beside books that were opened; the place of those that were not is as it was
abbrev pub LeavesLog : {S : Type 0} → (S → Shelf) → List ℕ → S → S → Option Bool → Type 0
LeavesLog shelf book old new (Some is) = (shelf new).has_log book is
LeavesLog shelf book old new None = new ≡ old

-- A request came whole, by the bytes that were taken, and was answered; and others behind it. For one that
-- asks nothing of the books, their place was left alone.
pub record IsReplied {S : Type 0} (shelf : S → Shelf) (old new : S) (book taken : List ℕ) (ended : Bool)
    (held holds : Option (List ℕ)) (what : Served) (later : List Served) : Type 0 where
  pub request : WholeRequest
  pub asks : IsAsking ended taken request
  pub answered : AreAnsweredFrom shelf book old new request held holds what later
  pub alone : asks_books request ≡ false → new ≡ old

-- What was served of the bytes that were taken. Where the input ended before the first of them, or a
-- read failed, nothing is answered.
abbrev pub IsServedFrom : {S : Type 0} → (S → Shelf) → S → S → List ℕ → Bool → Option (List ℕ)
    → Option (List ℕ) → Served → List Served → List ℕ → Type 0
IsServedFrom shelf old new book ended held holds served.Closed later taken =
    (taken ≡ []) × (ended ≡ true)
IsServedFrom shelf old new book ended held holds served.ReadFault later taken = Unit {0}
IsServedFrom shelf old new book ended held holds what later taken =
    IsReplied shelf old new book taken ended held holds what later

-- A client was served by these reads of it, as it came: each was due, and what was served is the answer
-- to the bytes that they gave. That reading failed is said where the newest of them failed, and nowhere
-- else.
pub record IsServedByReads {P S : Type 0} (MayAnswer : ReadOutcome P) (shelf : S → Shelf) (old new : S)
    (book : List ℕ) (client : P) (held holds : Option (List ℕ)) (what : Served) (later : List Served)
    : Type 0 where
  pub reads : List (ReadCall P)
  pub due : AreDue MayAnswer IsDue client reads
  pub gave : IsServedFrom shelf old new book (ended_after false reads) held holds what later
      (bytes_read reads)
  pub failed : is_read_fault what ≡ failed_after false reads
