-- Answers as values, and the bytes that go out for them.
use Rattle.std.specs.Prelude.{List, ℕ, ◌++◌, length, Option, Some, None}
use Rattle.book_import.specs.declared.receipt.Receipt.{Receipt}
use Rattle.book_model.specs.declared.note.Stop.{Stop}
use Rattle.book_model.specs.declared.note.Stop.TheVariants.{End, Frame}
use Rattle.book_reports.specs.ReceiptLines.{receipt_line_text}
use Rattle.book_http.specs.declared.answer.Answer.{Answer}
use Rattle.book_http.specs.declared.answer.Answer.TheVariants as answer
use Rattle.report_rows.specs.declared.report_row.BodyKind.{BodyKind}
use Rattle.report_rows.specs.declared.report_row.BodyKind.TheVariants.{Text}
use Rattle.book_http.specs.declared.method.Method.{Method}
use Rattle.book_http.specs.declared.notice.Notice.{Notice}
use Rattle.book_http.specs.declared.notice.Notice.TheVariants.{Allow, RetryAfter}
use Rattle.book_http.specs.declared.status.Status.{Status}
use Rattle.book_http.specs.declared.status.Status.TheVariants.{Done, MethodNotAllowed}
use Rattle.book_http.specs.declared.status.Status.TheVariants.{Unprocessable, Unavailable}
use Rattle.book_http.specs.AnswerHead.{answer_head}
use Rattle.book_http.specs.Statuses.{status_body}

pub record Reply : Type 0 where
  pub status : Status
  pub kind : BodyKind
  pub notice : Option Notice
  pub body : List ℕ

-- the lines of the head, and the body
abbrev pub reply_bytes : Reply → List ℕ
reply_bytes reply =
    answer_head reply.status reply.kind reply.notice (length reply.body) ++ reply.body

-- a text that the books answered
abbrev pub success : BodyKind → List ℕ → Reply
success kind text = record { status = Done; kind = kind; notice = None; body = text }

-- a refusal, whose body is its own status, and what is said beside it
abbrev pub refusal_with : Option Notice → Status → Reply
refusal_with notice status =
    record { status = status; kind = Text; notice = notice; body = status_body status }

abbrev pub refusal : Status → Reply
refusal status = refusal_with None status

-- the path has another method, which the answer names
abbrev pub other_method : Method → Reply
other_method method = refusal_with (Some (Allow method)) MethodNotAllowed

-- others have the books in use, and the same request may soon be sent again
abbrev pub busy : Reply
busy = refusal_with (Some RetryAfter) Unavailable

-- The status that the stop of an import has. No reader can stop the import of a body.
abbrev pub import_status : Stop → Status
import_status End = Done
import_status (Frame fault) = Unprocessable
import_status stop = Unavailable

-- an import is answered by its receipt line, whatever its stop
abbrev pub receipt_reply : Receipt → Reply
receipt_reply receipt = record {
  status = import_status receipt.stop;
  kind = Text;
  notice = None;
  body = receipt_line_text receipt;
}

-- the reply that an answer stands for
abbrev pub reply_of : Answer → Reply
reply_of (answer.Report kind text) = success kind text.items
reply_of (answer.Receipt receipt) = receipt_reply receipt
reply_of (answer.Refusal status) = refusal status
reply_of (answer.OtherMethod method) = other_method method
reply_of answer.Busy = busy
