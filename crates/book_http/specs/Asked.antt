-- What the head of a request asks.
use Rattle.std.specs.Prelude.{ℕ, ◌≤◌, Bool, true, false, List, nat_lt, bytes_eq, if◌then◌else◌}
use Rattle.std.specs.Prelude.{Option, Some, None, Result, Ok, Err}
use Rattle.httparse.specs.Grammar.{RequestHead}
use Rattle.book_reports.specs.declared.report.Report.{Report}
use Rattle.book_reports.specs.declared.what_if.StatementForm.{StatementForm}
use Rattle.report_rows.specs.ReportRows.{report_about, kind_in, row_of}
use Rattle.report_rows.specs.declared.about.About.{About}
use Rattle.report_rows.specs.declared.report_row.BodyKind.{BodyKind}
use Rattle.report_rows.specs.declared.report_row.BodyKind.TheVariants.{Page}
use Rattle.report_rows.specs.declared.report_row.ReportName.{ReportName}
use Rattle.book_http.specs.declared.answer.Answer.TheVariants.{Refusal, OtherMethod}
use Rattle.book_http.specs.declared.asked.Asked.{Asked}
use Rattle.book_http.specs.declared.endpoint.Endpoint.{Endpoint}
use Rattle.book_http.specs.declared.framing.Framing.{Framing}
use Rattle.book_http.specs.declared.framing.Framing.TheVariants.{Unframed, Framed, Faulty}
use Rattle.book_http.specs.declared.method.Method.{Method}
use Rattle.book_http.specs.declared.method.Method.TheVariants.{Get, Post}
use Rattle.book_http.specs.declared.status.Status.{Status}
use Rattle.book_http.specs.declared.status.Status.TheVariants.{BadRequest, Forbidden, NotFound}
use Rattle.book_http.specs.declared.status.Status.TheVariants.{LengthRequired, TooLarge}
use Rattle.book_http.specs.Bodies.{most_body_bytes}
use Rattle.book_http.specs.Framing.{framing}
use Rattle.book_http.specs.Hosts.{is_foreign}
use Rattle.book_http.specs.Methods.{method_text}
use Rattle.book_http.specs.Requests.{has_origin}
use Rattle.book_http.specs.Routes.{path_of, route}
use Rattle.book_reports.specs.declared.report.Report.TheVariants as made
use Rattle.report_rows.specs.declared.about.About.TheVariants as about
use Rattle.report_rows.specs.declared.report_row.ReportName.TheVariants as report
use Rattle.book_http.specs.declared.asked.Asked.TheVariants as asks
use Rattle.book_http.specs.declared.endpoint.Endpoint.TheVariants as endpoint

-- the size of a body that is taken: the head gives it, and it keeps within the limit
abbrev pub body_size : Framing → Result ℕ Status
body_size Faulty = Err BadRequest
body_size Unframed = Err LengthRequired
body_size (Framed size) = if nat_lt most_body_bytes size then Err TooLarge else Ok size

-- a body of a size that is taken, or the refusal of another
abbrev pub asked_body : (ℕ → Asked ℕ) → Result ℕ Status → Asked ℕ
asked_body takes (Ok size) = takes size
asked_body takes (Err status) = asks.Settled (Refusal status)

-- To read a report no body is due; a dump and a tariff are submitted alike. What a page in a browser
-- submits is refused, whatever its body's length.
abbrev pub due_size : Method → Bool → Framing → Result ℕ Status
due_size Get origin body = Ok 0
due_size Post true body = Err Forbidden
due_size Post false body = body_size body

-- the details of a period, which are written while they are read
abbrev pub details_of : StatementForm → About → Asked ℕ
details_of form (about.OfCentre n centre) =
    asks.Details (record { form = form; period = n; centre = centre })
details_of form thing = asks.Settled (Refusal NotFound)

-- what a period would have cost, by a body of this size
abbrev pub what_if_of : StatementForm → About → ℕ → Asked ℕ
what_if_of form (about.OfCentre n centre) size =
    asks.WhatIf (record { form = form; period = n; centre = centre }) size
what_if_of form thing size = asks.Settled (Refusal NotFound)

-- any other report is made whole, as a body of this kind
abbrev pub whole_report : BodyKind → Option Report → Asked ℕ
whole_report kind None = asks.Settled (Refusal NotFound)
whole_report kind (Some found) = asks.Report found kind

abbrev pub report_of : ReportName → StatementForm → About → Asked ℕ
report_of report.Details form thing = details_of form thing
report_of name form thing =
    whole_report (kind_in (row_of name) form) (report_about name form thing)

-- what is asked at an endpoint about this, with a body of this size
abbrev pub asked_of : Endpoint → About → ℕ → Asked ℕ
asked_of (endpoint.Report name form) thing size = report_of name form thing
asked_of endpoint.Office thing size = asks.Report made.OfficePage Page
asked_of (endpoint.WhatIf form) thing size = what_if_of form thing size
asked_of (endpoint.Import layout) thing size = asks.Import layout size

-- each endpoint has one method
abbrev pub method_of : Endpoint → Method
method_of (endpoint.Report name form) = Get
method_of endpoint.Office = Get
method_of (endpoint.WhatIf form) = Post
method_of (endpoint.Import layout) = Post

abbrev pub asked_on : Endpoint → About → Bool → Framing → Asked ℕ
asked_on place thing origin body =
    asked_body (asked_of place thing) (due_size (method_of place) origin body)

-- any other is refused there
abbrev pub asked_by : Endpoint → About → List ℕ → Bool → Framing → Asked ℕ
asked_by place thing method origin body =
    if bytes_eq method (method_text (method_of place)) then asked_on place thing origin body
    else asks.Settled (OtherMethod (method_of place))

-- nothing is asked for by the name of another machine or from another site, or where a path leads nowhere
abbrev pub asked_here : Bool → Option (Endpoint × About) → List ℕ → Bool → Framing → Asked ℕ
asked_here true found method origin body = asks.Settled (Refusal Forbidden)
asked_here false None method origin body = asks.Settled (Refusal NotFound)
asked_here false (Some found) method origin body = asked_by found.0 found.1 method origin body

-- a faulty length is refused before anything else is looked at
abbrev pub asked_framed : Framing → Bool → Option (Endpoint × About) → List ℕ → Bool → Asked ℕ
asked_framed Faulty foreign found method origin = asks.Settled (Refusal BadRequest)
asked_framed framed foreign found method origin = asked_here foreign found method origin framed

abbrev pub asked : RequestHead → Asked ℕ
asked head =
    asked_framed (framing head) (is_foreign head) (route (path_of head.target)) head.method
    (has_origin head)

-- a body that is asked for keeps within the limit
abbrev pub IsServable : Asked ℕ → Type 0
IsServable (asks.Import layout size) = size ≤ most_body_bytes
IsServable (asks.WhatIf what_if size) = size ≤ most_body_bytes
IsServable other = Unit {0}
