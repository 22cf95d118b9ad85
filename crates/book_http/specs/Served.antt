-- What became of one request, however its bytes came.
use Rattle.std.specs.Prelude.{◌≡◌, ◌⊎◌, ◌<◌, ◌≤◌, ℕ, Bool, true, false, List, [], ◌++◌, length}
use Rattle.std.specs.Prelude.{take, IfOk, Option, None, Result, Ok, Err}
use Rattle.std.specs.Io.KnownBytes.{Appends}
use Rattle.httparse.specs.Grammar.{RequestHead}
use Rattle.streams.specs.InputOutput.{Output}
use Rattle.book_model.specs.Words.{Book, Event, Naming}
use Rattle.book_core.specs.Words.{Calls, Seen, Books, Transition, IsTransition}
use Rattle.book_core.specs.Follow.{FollowsHistory}
use Rattle.book_lists.specs.declared.fault.ReportFault.{ReportFault}
use Rattle.book_lists.specs.declared.fault.ReportFault.TheVariants.{Write}
use Rattle.book_reports.specs.declared.streamed_details.DetailReport.{DetailReport}
use Rattle.book_reports.specs.StreamedDetails.{WritesSomeDetails, detail_answer}
use Rattle.book_reports.specs.StreamedDetails.{detail_length_outcome}
use Rattle.book_http.specs.declared.answer.Answer.{Answer}
use Rattle.book_http.specs.declared.served.Served.{Served}
use Rattle.book_http.specs.declared.served.Served.TheVariants.{Closed, ReadFault, WriteFault}
use Rattle.book_http.specs.declared.served.Served.TheVariants.{Answered, Cut}
use Rattle.book_http.specs.declared.served.Unanswered.{Unanswered}
use Rattle.book_http.specs.declared.served.Unanswered.TheVariants.{Failed}
use Rattle.book_http.specs.declared.status.Status.TheVariants.{Done}
use Rattle.book_http.specs.Answer.{Answers, AnswersDetails, form_kind, most_gathered}
use Rattle.book_http.specs.AnswerHead.{answer_head}
use Rattle.book_http.specs.Asked.{asked}
use Rattle.book_http.specs.Head.{HasHead}
use Rattle.book_http.specs.Replies.{Reply, reply_bytes, reply_of, success}
use Rattle.book_http.specs.Requested.{AnswersRequest, WholeRequest, request_seen}
use Rattle.book_http.specs.Statuses.{status_code}
use Rattle.book_http.specs.declared.asked.Asked.TheVariants as asks

-- Such work was done, and where the books were those of a history, they are those of that history
-- with the events of the work added.
pub record IsDone (old new : Seen) (Made : Transition) : Type 0 where
  pub work : IsTransition old new Made
  pub history : FollowsHistory old new Made

-- This is the answer to the bytes that were taken, whatever follows them; where the input ended,
-- nothing does.
abbrev pub IsAnswer : Seen → Seen → Bool → List ℕ → Reply → Type 0
IsAnswer old new ended taken reply =
    (more : List ℕ) → (ended ≡ true → more ≡ [])
    → IsDone old new (Answers old.naming (taken ++ more) reply)

-- a prefix of the reply was written that is not the whole
abbrev pub IsBegun : Reply → Option (List ℕ) → Option (List ℕ) → Type 0
IsBegun reply held holds =
    (count : ℕ) × (count < length (reply_bytes reply))
    × Appends held holds (take count (reply_bytes reply))

-- A reply was written to a writer, where what this holds is known: the whole; or, where a write
-- failed, a prefix that is not the whole.
abbrev pub IsSent : Reply → Option (List ℕ) → Option (List ℕ) → Served → Type 0
IsSent reply held holds (Answered status) =
    (status ≡ status_code reply.status) × Appends held holds (reply_bytes reply)
IsSent reply held holds WriteFault = IsBegun reply held holds
IsSent reply held holds served = ⊥

-- ---- details, whose text is sent while it is read

-- so many bytes the text of these details has, by a call of the ledger
abbrev pub IsMeasured : Seen → Seen → DetailReport → ℕ → Type 0
IsMeasured old new wanted size =
    IsTransition old new
    (Calls (λ size. size) (detail_length_outcome wanted old.naming) (Ok size))

-- so many bytes it has, or the ledger answered why there is none
abbrev pub Measures : Seen → Seen → DetailReport → Result ℕ Answer → Type 0
Measures old new wanted (Ok size) = IsMeasured old new wanted size
Measures old new wanted (Err answer) =
    IsTransition old new (AnswersDetails old.naming wanted (reply_of answer))

-- what was asked for is refused
abbrev pub IsRefused : Answer → Type 0
IsRefused answer = (reply_of answer).status ≡ Done → ⊥

-- the text of these details, if the books have one, has no more bytes than are gathered
abbrev pub AreShort : Naming → DetailReport → Transition
AreShort naming wanted = λ was before events is.
    IfOk (detail_answer wanted naming before) (λ text. length text ≤ most_gathered)

-- details that were gathered are such
abbrev pub IsGathered : Seen → Seen → DetailReport → Answer → Type 0
IsGathered old new wanted answer =
    (reply_of answer).status ≡ Done → IsTransition old new (AreShort old.naming wanted)

-- A reply was written while its text was read: the whole; or, where a write, the books or memory failed,
-- a prefix that is not the whole.
abbrev pub IsSentAsRead : Reply → Option (List ℕ) → Option (List ℕ) → Served → Type 0
IsSentAsRead reply held holds Cut = IsBegun reply held holds
IsSentAsRead reply held holds served = IsSent reply held holds served

-- the books or memory failed in the text
abbrev pub is_cut : Served → Bool
is_cut Cut = true
is_cut served = false

-- what became of a text, by what became of its writing
abbrev pub served_as : Result (Unit {0}) ReportFault → Served
served_as (Ok done) = Answered (status_code Done)
served_as (Err Write) = WriteFault
served_as (Err fault) = Cut

-- the head of details that announces so many bytes
abbrev pub sized_head : DetailReport → ℕ → List ℕ
sized_head wanted size = answer_head Done (form_kind wanted.form) None size

-- a write of a head failed: a prefix of it was written that is not the whole
pub record CutsHead (head : List ℕ) (held holds : Option (List ℕ)) (served : Served) : Type 0 where
  pub told : served ≡ WriteFault
  pub count : ℕ
  pub short : count < length head
  pub grown : Appends held holds (take count head)

-- behind a head the text of some details was written, or a prefix of one
pub record WritesBehind (wanted : DetailReport) (head : List ℕ) (held holds : Option (List ℕ))
    (served : Served) : Type 0 where
  pub between : Option (List ℕ)
  pub headed : Appends held between head
  pub came : Result (Unit {0}) ReportFault
  pub some : WritesSomeDetails wanted between holds came
  pub told : served ≡ served_as came

-- so it is, whatever the books are, and however long the text is
abbrev pub SendsSome : DetailReport → ℕ → Option (List ℕ) → Option (List ℕ) → Served → Type 0
SendsSome wanted size held holds served = CutsHead (sized_head wanted size) held holds served
    ⊎ WritesBehind wanted (sized_head wanted size) held holds served

-- The text of details was sent behind a head that announces so many bytes, if it has so many. That is
-- no event, and books that did not fail in it stay open.
pub record SendsDetails (wanted : DetailReport) (size : ℕ) (naming : Naming)
    (held holds : Option (List ℕ)) (served : Served) (was : Bool) (before : Book)
    (events : List Event) (is : Bool) : Type 0 where
  pub none : events ≡ []
  pub sent : (text : List ℕ) → detail_answer wanted naming before ≡ Ok text → length text ≡ size
      → IsSentAsRead (success (form_kind wanted.form) text) held holds served
  pub stands : is_cut served ≡ false → is ≡ was

-- Something was answered, and the answer was sent while it was read. Books that did not fail in it stay
-- as they were.
pub record SendsReplyAsRead (Answering : Reply → Transition) (held holds : Option (List ℕ))
    (served : Served) (was : Bool) (before : Book) (events : List Event) (is : Bool) : Type 0 where
  pub reply : Reply
  pub answer : Answering reply was before events was
  pub sent : IsSentAsRead reply held holds served
  pub stands : is_cut served ≡ false → is ≡ was

-- Something was answered, by more bytes than are gathered before they are sent: no fault of the books
-- cuts off a shorter text.
abbrev pub AnswersLong : (Reply → Transition) → Reply → Transition
AnswersLong Answering reply = λ was before events is.
    Answering reply was before events is × (most_gathered < length reply.body)

-- ---- a request as a whole

-- details are asked for, whose text has so many bytes, more than are gathered
pub record IsLong (old new : Seen) (asked : WholeRequest) (details : DetailReport) (size : ℕ) : Type 0
  where
    pub is : asked ≡ asks.Details details
    pub long : most_gathered < size
    pub measured : IsMeasured old new details size

-- what is asked was answered; or so many bytes of details are to be sent while they are read
abbrev pub AsksOffice : Seen → Seen → WholeRequest → Result Answer (DetailReport × ℕ) → Type 0
AsksOffice old new asked (Ok answer) =
    IsTransition old new (AnswersRequest old.naming (request_seen asked) (reply_of answer))
AsksOffice old new asked (Err long) = IsLong old new asked long.0 long.1

-- what is asked was answered, and the answer was sent; or it is long details, sent while they were read
abbrev pub ServesAsked : Books → WholeRequest → Output → Served → Type 0
ServesAsked books asked output served =
    ((reply : Reply)
    × IsTransition books.old books.new (AnswersRequest books.old.naming (request_seen asked) reply)
    × IsSent reply output.old.holds output.new.holds served)
    ⊎ ((details : DetailReport) × (asked ≡ asks.Details details)
    × IsTransition books.old books.new
    (SendsReplyAsRead (AnswersLong (AnswersDetails books.old.naming details))
    output.old.holds output.new.holds served))

-- the bytes begin with a head that asks for these details
pub record AsksDetails (bytes : List ℕ) (details : DetailReport) : Type 0 where
  pub head : RequestHead
  pub behind : List ℕ
  pub stands : HasHead bytes head behind
  pub asks_them : asked head ≡ asks.Details details

-- a request was answered, and the long answer was sent while it was read
abbrev pub SendsAsRead : Naming → List ℕ → Option (List ℕ) → Option (List ℕ) → Served → Transition
SendsAsRead naming bytes = SendsReplyAsRead (AnswersLong (Answers naming bytes))

-- a request was answered, by the bytes that were taken from the reader, and the answer was sent
pub record IsReplied (books : Books) (taken : List ℕ) (ended : Bool) (output : Output)
    (served : Served) : Type 0 where
  pub reply : Reply
  pub answer : IsAnswer books.old books.new ended taken reply
  pub sent : IsSent reply output.old.holds output.new.holds served

-- details were asked for, and sent while they were read, since they are long
pub record IsStreamed (books : Books) (taken : List ℕ) (ended : Bool) (output : Output)
    (served : Served) : Type 0 where
  pub details : DetailReport
  pub begins : AsksDetails taken details
  pub done : (more : List ℕ) → (ended ≡ true → more ≡ [])
      → IsDone books.old books.new (SendsAsRead books.old.naming (taken ++ more)
      output.old.holds output.new.holds served)

-- What was served. Where the input ended before its first byte, or a read failed, nothing is
-- answered.
abbrev pub IsServed : Books → List ℕ → Bool → Output → Served → Type 0
IsServed books taken ended output Closed = (taken ≡ []) × (ended ≡ true)
IsServed books taken ended output ReadFault = Unit {0}
IsServed books taken ended output served =
    IsReplied books taken ended output served ⊎ IsStreamed books taken ended output served

-- nothing was answered
abbrev pub is_unanswered : Served → Bool
is_unanswered Closed = true
is_unanswered ReadFault = true
is_unanswered served = false

abbrev pub is_read_fault : Served → Bool
is_read_fault ReadFault = true
is_read_fault served = false

abbrev pub is_write_fault : Served → Bool
is_write_fault WriteFault = true
is_write_fault served = false

-- a read failed before the request was whole
abbrev pub is_failed : {V : Type 0} → Result V Unanswered → Bool
is_failed (Err Failed) = true
is_failed answer = false
