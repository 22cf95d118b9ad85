-- The lines of an answer before its body (RFC 9112, sections 4 and 5).
use Rattle.std.specs.Prelude.{ℕ, List, [], ◌++◌, codes, decimal, Option, Some, None}
use Rattle.report_rows.specs.declared.report_row.BodyKind.{BodyKind}
use Rattle.report_rows.specs.declared.report_row.BodyKind.TheVariants.{Text, Csv, Page, TariffFile}
use Rattle.book_http.specs.declared.method.Method.{Method}
use Rattle.book_http.specs.declared.notice.Notice.{Notice}
use Rattle.book_http.specs.declared.notice.Notice.TheVariants.{Allow, RetryAfter}
use Rattle.book_http.specs.declared.status.Status.{Status}
use Rattle.book_http.specs.Methods.{method_text}
use Rattle.book_http.specs.Statuses.{status_text}

-- the end of a line
abbrev pub crlf : List ℕ
crlf = codes "\r\n"

-- the media type of a body: all but a tariff file is written in ASCII alone
abbrev pub media_type : BodyKind → List ℕ
media_type Text = codes "text/plain; charset=us-ascii"
media_type Csv = codes "text/csv; charset=us-ascii"
media_type Page = codes "text/html; charset=us-ascii"
media_type TariffFile = codes "text/plain; charset=utf-8"

-- What a browser may do with a page: it runs no script and fetches nothing, takes its style from the page
-- itself, and shows it inside no other page (Content Security Policy Level 3). It takes the page for
-- nothing but HTML, and a tariff file, whose bytes somebody else wrote, for nothing but a text (Fetch
-- Standard, X-Content-Type-Options).
abbrev pub limit_lines : BodyKind → List ℕ
limit_lines Page =
    codes "Content-Security-Policy: default-src 'none'; "
    ++ codes "style-src 'unsafe-inline'; frame-ancestors 'none'\r\n"
    ++ codes "X-Content-Type-Options: nosniff\r\n"
limit_lines TariffFile = codes "X-Content-Type-Options: nosniff\r\n"
limit_lines kind = []

-- the line that names the method of a path
abbrev pub allow_line : Method → List ℕ
allow_line method = codes "Allow: " ++ method_text method ++ crlf

-- the line of what is said beside the status (RFC 9110, sections 10.2.1 and 10.2.3)
abbrev pub notice_line : Option Notice → List ℕ
notice_line None = []
notice_line (Some (Allow method)) = allow_line method
notice_line (Some RetryAfter) = codes "Retry-After: 1\r\n"

-- the line that gives the number of bytes of a body
unfoldable pub size_line : ℕ → List ℕ
size_line size = codes "Content-Length: " ++ decimal size ++ crlf

-- the lines, and the empty line after them
unfoldable pub answer_head : Status → BodyKind → Option Notice → ℕ → List ℕ
answer_head status kind notice size =
    codes "HTTP/1.1 " ++ status_text status ++ crlf
    ++ codes "Content-Type: " ++ media_type kind ++ crlf
    ++ limit_lines kind ++ notice_line notice ++ size_line size
    ++ codes "Connection: close" ++ crlf ++ crlf
