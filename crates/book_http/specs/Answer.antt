-- What a request is answered, and what it does to the books: by the book before it, and by the
-- bytes of the request.
use Rattle.std.specs.Prelude.{◌≡◌, ◌<◌, ℕ, Bool, true, false, not, List, length, take, nat_lt}
use Rattle.std.specs.Prelude.{if◌then◌else◌, Option, Result, Ok, Err}
use Rattle.std.specs.Str.{is_utf8}
use Rattle.httparse.specs.Grammar.{RequestHead}
use Rattle.book_model.specs.declared.fault.LedgerFault.{LedgerFault}
use Rattle.book_model.specs.declared.fault.LedgerFault.TheVariants.{Full, NoSuchCentre}
use Rattle.book_model.specs.declared.fault.LedgerFault.TheVariants.{NoSuchPeriod, NoSuchRecord}
use Rattle.book_model.specs.declared.fault.LedgerFault.TheVariants.{NoSuchTariff}
use Rattle.book_model.specs.declared.fault.LedgerFault.TheVariants.{TariffRefused}
use Rattle.book_model.specs.Words.{Layout, Naming, Note, Book, Event}
use Rattle.book_core.specs.Words.{Calls, Transition, NoEvent}
use Rattle.book_lists.specs.declared.fault.ReportFault.{ReportFault}
use Rattle.book_lists.specs.declared.fault.ReportFault.TheVariants.{Write, Memory, Ledger}
use Rattle.book_reports.specs.declared.report.Report.{Report}
use Rattle.book_reports.specs.declared.streamed_details.DetailReport.{DetailReport}
use Rattle.book_reports.specs.declared.what_if.StatementForm.{StatementForm}
use Rattle.book_reports.specs.declared.what_if.WhatIf.{WhatIf}
use Rattle.book_reports.specs.StreamedDetails.{detail_text_outcome}
use Rattle.book_reports.specs.WhatIfTexts.{what_if_report}
use Rattle.office.specs.Requests.{Response, Asks, Receives, response_outcome, whole_dump, no_dump}
use Rattle.report_rows.specs.declared.report_row.BodyKind.{BodyKind}
use Rattle.report_rows.specs.declared.report_row.BodyKind.TheVariants.{Text, Csv}
use Rattle.book_http.specs.declared.asked.Asked.{Asked}
use Rattle.book_http.specs.declared.status.Status.TheVariants.{BadRequest, NotFound, Unavailable}
use Rattle.book_http.specs.Asked.{asked}
use Rattle.book_http.specs.Head.{HasHead, HasNoHead}
use Rattle.book_http.specs.Replies.{Reply, success, refusal, receipt_reply, reply_of}
use Rattle.book_model.specs.declared.fault.LedgerFault.TheVariants as fault
use Rattle.book_reports.specs.declared.what_if.StatementForm.TheVariants as shown_as
use Rattle.office.specs.declared.request.Asked.TheVariants as requests
use Rattle.office.specs.Requests as tells
use Rattle.book_http.specs.declared.asked.Asked.TheVariants as asks

-- the kind of body of details, and of what a period would have cost
abbrev pub form_kind : StatementForm → BodyKind
form_kind shown_as.Text = Text
form_kind shown_as.Table = Csv

-- What the office answered, as a reply. No ruling is asked over HTTP. A tariff that is refused, or by
-- which records cost more than books hold, is the request's fault.
abbrev pub office_reply : BodyKind → Result Response LedgerFault → Reply
office_reply kind (Ok (tells.Text text)) = success kind text
office_reply kind (Ok (tells.Count receipt)) = receipt_reply receipt
office_reply kind (Err NoSuchPeriod) = refusal NotFound
office_reply kind (Err NoSuchTariff) = refusal NotFound
office_reply kind (Err NoSuchRecord) = refusal NotFound
office_reply kind (Err NoSuchCentre) = refusal NotFound
office_reply kind (Err (TariffRefused why)) = refusal BadRequest
office_reply kind (Err Full) = refusal BadRequest
office_reply kind told = refusal Unavailable

-- the office was asked, and its answer is the reply
pub record AnswersOffice (kind : BodyKind) (Making : Result Response LedgerFault
    → Transition) (reply : Reply)
    (was : Bool) (before : Book) (events : List Event) (is : Bool) : Type 0 where
  pub told : Result Response LedgerFault
  pub made : Making told was before events is
  pub replied : reply ≡ office_reply kind told

-- a report of the books, as a body of this kind
abbrev pub AnswersReport : Naming → Report → BodyKind → Reply → Transition
AnswersReport naming report kind reply =
    AnswersOffice kind (Asks naming (requests.Report report) no_dump) reply

-- the text of the details that are wanted, as one call of the ledger
abbrev pub ReadsDetails : Naming → DetailReport → Result Response LedgerFault → Transition
ReadsDetails naming wanted =
    Calls (λ told. told) (response_outcome tells.Text (detail_text_outcome wanted naming))

-- the most bytes of details that are gathered before they are sent (the office's rule)
abbrev pub most_gathered : ℕ
most_gathered = 16777216

-- what the office answered to details that were written into memory: a write there fails for a lack of it
abbrev pub gathered : Result (Unit {0}) ReportFault → List ℕ → Result Response LedgerFault
gathered (Ok done) text = Ok (tells.Text text)
gathered (Err Write) text = Err fault.Memory
gathered (Err Memory) text = Err fault.Memory
gathered (Err (Ledger why)) text = Err why

abbrev pub AnswersDetails : Naming → DetailReport → Reply → Transition
AnswersDetails naming wanted reply =
    AnswersOffice (form_kind wanted.form) (ReadsDetails naming wanted) reply

-- the import of a body, which is a whole dump, with what it says of itself
pub record AnswersImport (naming : Naming) (layout : Layout) (body : List ℕ) (reply : Reply)
    (was : Bool) (before : Book) (events : List Event) (is : Bool) : Type 0 where
  pub said : Option Note
  pub made : AnswersOffice Text (Receives said naming (whole_dump layout body)) reply was before
      events is

-- nothing is done, and this is the reply
pub record RefusesRequest (refused reply : Reply) (was : Bool) (before : Book) (events : List Event)
    (is : Bool) : Type 0 where
  pub none : NoEvent was before events is
  pub replied : reply ≡ refused

-- a bad request is refused; with any other this is done
abbrev pub UnlessBad : Bool → Transition → Reply → Transition
UnlessBad true Made reply = RefusesRequest (refusal BadRequest) reply
UnlessBad false Made reply = Made

-- what a period would have cost by the tariff with this text
abbrev pub Prices : WhatIf → List ℕ → Result Response LedgerFault → Transition
Prices what_if tariff =
    Calls (λ told. told) (response_outcome tells.Text (what_if_report what_if tariff))

-- the same by a body, which is that text: bytes that are no UTF-8 are none
abbrev pub AnswersWhatIf : WhatIf → List ℕ → Reply → Transition
AnswersWhatIf what_if body reply =
    UnlessBad (not (is_utf8 body))
    (AnswersOffice (form_kind what_if.form) (Prices what_if body) reply) reply

-- what a request asks of the books; or the reply to it, where it asks nothing of them
pub data RequestSeen : Type 0 where
  Settles : Reply → RequestSeen
  WantsReport : Report → BodyKind → RequestSeen
  WantsDetails : DetailReport → RequestSeen
  WantsWhatIf : WhatIf → List ℕ → RequestSeen
  WantsImport : Layout → List ℕ → RequestSeen

-- a request is answered, and this is the reply
abbrev pub AnswersRequest : Naming → RequestSeen → Reply → Transition
AnswersRequest naming (Settles due) reply = RefusesRequest due reply
AnswersRequest naming (WantsReport report kind) reply = AnswersReport naming report kind reply
AnswersRequest naming (WantsDetails wanted) reply = AnswersDetails naming wanted reply
AnswersRequest naming (WantsWhatIf what_if body) reply = AnswersWhatIf what_if body reply
AnswersRequest naming (WantsImport layout body) reply = AnswersImport naming layout body reply

-- what is asked with a body of so many bytes, the first ones after the head; where the input ended
-- before the last of them, the request is bad
abbrev pub wanted_with : (List ℕ → RequestSeen) → ℕ → List ℕ → RequestSeen
wanted_with Wants size behind =
    if nat_lt (length behind) size then Settles (refusal BadRequest) else Wants (take size behind)

-- what a head asks, by the bytes after it
abbrev pub wanted_by : Asked ℕ → List ℕ → RequestSeen
wanted_by (asks.Settled due) behind = Settles (reply_of due)
wanted_by (asks.Report report kind) behind = WantsReport report kind
wanted_by (asks.Details details) behind = WantsDetails details
wanted_by (asks.WhatIf what_if size) behind = wanted_with (WantsWhatIf what_if) size behind
wanted_by (asks.Import layout size) behind = wanted_with (WantsImport layout) size behind

-- what is asked is answered, by the bytes after the head
abbrev pub AnswersAsked : Naming → Asked ℕ → List ℕ → Reply → Transition
AnswersAsked naming wanted behind reply = AnswersRequest naming (wanted_by wanted behind) reply

-- This was done and replied; or memory ran out, nothing was done, and the reply says so.
pub data UnlessMemory (Made : Transition) (reply : Reply) (was : Bool) (before : Book)
    (events : List Event) (is : Bool) : Type 0 where
  done : Made was before events is → UnlessMemory Made reply was before events is
  no_memory : RefusesRequest (refusal Unavailable) reply was before events is
      → UnlessMemory Made reply was before events is

-- The answer to the bytes of a request: to what its head asks, where they begin with one.
pub data Answers (naming : Naming) (bytes : List ℕ) (reply : Reply) (was : Bool) (before : Book)
    (events : List Event) (is : Bool) : Type 0 where
  no_head : 0 < length bytes → HasNoHead bytes
      → RefusesRequest (refusal BadRequest) reply was before events is
      → Answers naming bytes reply was before events is
  a_head : (head : RequestHead) (behind : List ℕ) → HasHead bytes head behind
      → UnlessMemory (AnswersAsked naming (asked head) behind reply) reply was before events is
      → Answers naming bytes reply was before events is
