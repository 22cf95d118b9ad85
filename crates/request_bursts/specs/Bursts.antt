-- Clients that are answered while the books are open for others.
use Rattle.std.specs.Prelude.{◌≡◌, ◌≤◌, ℕ, Bool, false, List, [], ◌∷◌, ◌++◌, length, Option}
use Rattle.book_model.specs.Words.{Book, Event, Naming}
use Rattle.book_reports.specs.declared.report.Report.{Report}
use Rattle.report_rows.specs.declared.report_row.BodyKind.{BodyKind}
use Rattle.book_http.specs.declared.served.Served.{Served}
use Rattle.book_http.specs.declared.served.Served.TheVariants as served
use Rattle.book_http.specs.declared.status.Status.TheVariants.{Done}
use Rattle.book_http.specs.Answer.{Answers, AnswersReport}
use Rattle.book_http.specs.Replies.{Reply}
use Rattle.book_http.specs.Requested.{AreAsking, WantsReport}
use Rattle.book_http.specs.Served.{IsSent, is_unanswered}
use Rattle.book_http.specs.Statuses.{status_code}

-- ---- one client

-- the most bytes of a text that is sent while the books are open: any connection has room for them,
-- so nobody is waited for (the office's rule)
abbrev pub most_early : ℕ
most_early = 65536

-- A text that may be sent while the books are open. A refusal is none: where the books failed they are
-- to be opened again first.
pub record IsShort (reply : Reply) : Type 0 where
  pub text : reply.status ≡ Done
  pub few : length reply.body ≤ most_early

-- These bytes ask for a report, by a prefix of them, whatever may follow.
pub record AskReport (sent : List ℕ) (report : Report) (kind : BodyKind) : Type 0 where
  pub taken : List ℕ
  pub rest : List ℕ
  pub parts : sent ≡ taken ++ rest
  pub asks : (more : List ℕ) → AreAsking (taken ++ more) (WantsReport report kind)

-- By the bytes that a client is seen to have sent it was answered this report, which is short, and that
-- was written to it.
pub record AnswersSeen (naming : Naming) (sent : List ℕ) (held holds : Option (List ℕ)) (what : Served)
    (was : Bool) (before : Book) (events : List Event) (is : Bool) : Type 0 where
  pub report : Report
  pub kind : BodyKind
  pub asks : AskReport sent report kind
  pub due : Reply
  pub short : IsShort due
  pub answer : AnswersReport naming report kind due was before events is
  pub written : IsSent due held holds what

-- the books were looked at, and made no event
pub record LooksOnly (was : Bool) (before : Book) (events : List Event) (is : Bool) : Type 0 where
  pub none : events ≡ []

-- ---- one after the other

-- the status that is told of a client is that of its reply
abbrev pub Fits : Served → Reply → Type 0
Fits (served.Answered status) reply = status ≡ status_code reply.status
Fits what reply = Unit {0}

-- By this book, which was just opened, something is due to some bytes that makes no event and fits what
-- is told.
pub record IsDueBy (naming : Naming) (book : Book) (what : Served) : Type 0 where
  pub bytes : List ℕ
  pub due : Reply
  pub left : Bool
  pub made : Answers naming bytes due false book [] left
  pub fits : Fits what due
  pub begun : is_unanswered what ≡ false

-- so it is with each of them
abbrev pub AreDueBy : Naming → Book → List Served → Type 0
AreDueBy naming book [] = Unit {0}
AreDueBy naming book (what ∷ before) = AreDueBy naming book before × IsDueBy naming book what

-- a client was answered so, and the book is as it was
pub record AnswersOne (naming : Naming) (what : Served) (was : Bool) (before : Book)
    (events : List Event) (is : Bool) : Type 0 where
  pub none : events ≡ []
  pub due : IsDueBy naming before what

-- clients were, one after the other, and whatever was looked at after that
pub record AnswersMore (naming : Naming) (told : List Served) (was : Bool) (before : Book)
    (events : List Event) (is : Bool) : Type 0 where
  pub none : events ≡ []
  pub due : AreDueBy naming before told
