-- What a head asks, by what was found in it.
use Rattle.std.proofs.Common.{◌≡◌, ◌∙◌, ℕ, ap, Option, refl}
use Rattle.report_rows.specs.ReportRows.{row_of}
use Rattle.book_http.specs.declared.asked.Asked.{Asked}
use Rattle.book_http.specs.declared.endpoint.Endpoint.{Endpoint}
use Rattle.book_http.specs.declared.request.Request.{Request}
use Rattle.book_http.proofs.Words.{RequestHead, StatementForm, report_about, kind_in, About}
use Rattle.book_http.proofs.Words.{ReportName, whole_report, route}
use Rattle.book_http.specs.Asked.{asked_framed, report_of}
use Rattle.book_http.specs.Framing.{framing}
use Rattle.book_http.specs.Hosts.{is_foreign}
use Rattle.book_http.specs.Requests.{DescribesHead}
use Rattle.book_http.specs.Routes.{path_of}
use Rattle.report_rows.specs.declared.report_row.ReportName.TheVariants as report
use Rattle.book_http.specs.Asked as spec

-- any report but details is made whole
pub made_whole : (name : ReportName) (form : StatementForm) (thing : About)
    → (name ≡ report.Details → ⊥)
    → report_of name form thing
    ≡ whole_report (kind_in (row_of name) form) (report_about name form thing)
made_whole report.Details form thing other = absurd (other refl)
made_whole name form thing other = refl

pub asked_by : (head : RequestHead) (request : Request) (found : Option (Endpoint × About))
    (asked : Asked ℕ)
    → DescribesHead head request → found ≡ route (path_of request.target.now)
    → asked
    ≡ asked_framed request.framing request.is_foreign found request.method.now request.has_origin
    → asked ≡ spec.asked head
asked_by head request found asked says at is =
    let place = route (path_of head.target) in
    let method = request.method.now in
    let origin = request.has_origin in
    is ∙ ap (λ framed. asked_framed framed request.is_foreign found method origin) says.body_is
    ∙ ap (λ foreign. asked_framed (framing head) foreign found method origin) says.foreign_is
    ∙ ap (λ place. asked_framed (framing head) (is_foreign head) place method origin)
    (at ∙ ap (λ words. route (path_of words)) says.target_is)
    ∙ ap (λ name. asked_framed (framing head) (is_foreign head) place name origin) says.method_is
    ∙ ap (asked_framed (framing head) (is_foreign head) place head.method) says.origin_is
