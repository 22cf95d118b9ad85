-- The statuses of answers (RFC 9110, section 15).
use Rattle.std.specs.Prelude.{ℕ, List, [], ◌++◌, codes, unwrap_or}
use Rattle.http.specs.StatusCode.{code_digits, reason_phrase}
use Rattle.book_http.specs.declared.status.Status.{Status}
use Rattle.book_http.specs.declared.status.Status.TheVariants as status

-- the code of a status
abbrev pub status_code : Status → ℕ
status_code status.Done = 200
status_code status.BadRequest = 400
status_code status.Forbidden = 403
status_code status.NotFound = 404
status_code status.MethodNotAllowed = 405
status_code status.LengthRequired = 411
status_code status.TooLarge = 413
status_code status.Unprocessable = 422
status_code status.Unavailable = 503

-- the phrase that http has for it, as Not Found
unfoldable pub phrase_of : Status → List ℕ
phrase_of status = unwrap_or (reason_phrase (status_code status)) []

-- the three digits of the code, a blank, and the phrase
unfoldable pub status_text : Status → List ℕ
status_text status = code_digits (status_code status) ++ codes " " ++ phrase_of status

-- the body of an answer that gives its status alone
unfoldable pub status_body : Status → List ℕ
status_body status = status_text status ++ codes "\n"
