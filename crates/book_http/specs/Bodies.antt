-- The body of a request.
use Rattle.std.specs.Prelude.{◌≡◌, ℕ, ◌+◌, ◌<◌, ◌≤◌, Bool, false, true, List, length, take, drop}
use Rattle.std.specs.Prelude.{Result, Ok, Err}
use Rattle.book_http.specs.declared.body.BodyFault.{BodyFault}
use Rattle.book_http.specs.declared.body.BodyFault.TheVariants.{Short, Read, Memory}
use Rattle.book_http.specs.declared.status.Status.{Status}
use Rattle.book_http.specs.declared.status.Status.TheVariants.{BadRequest, Unavailable}

-- the most bytes of a body (the office's rule)
abbrev pub most_body_bytes : ℕ
most_body_bytes = 16777216

-- the body is that many bytes, the first ones after the head; there are no fewer
pub record IsWholeBody (size : ℕ) (behind body : List ℕ) : Type 0 where
  pub enough : size ≤ length behind
  pub bytes : body ≡ take size behind

-- The result of reading a body, by the bytes after the head: it is whole, or they are too few.
abbrev pub BodyComes : {A : Type 0} → (A → List ℕ) → ℕ → List ℕ → Result A BodyFault → Type 0
BodyComes bytes size behind (Ok body) = IsWholeBody size behind (bytes body)
BodyComes bytes size behind (Err Short) = length behind < size
BodyComes bytes size behind (Err fault) = Unit {0}

-- What reads made of the rest of a body, this many bytes of which were there: the rest is what they
-- gave; or they gave too few.
abbrev pub Fills : ℕ → List ℕ → Result (Unit {0}) BodyFault → List ℕ → Type 0
Fills had body (Ok done) came = came ≡ drop had body
Fills had body (Err Short) came = had + length came < length body
Fills had body (Err fault) came = Unit {0}

-- a read failed
abbrev pub is_failed_read : BodyFault → Bool
is_failed_read Short = false
is_failed_read Read = true
is_failed_read Memory = false

abbrev pub is_failed_body : {A : Type 0} → Result A BodyFault → Bool
is_failed_body (Ok value) = false
is_failed_body (Err fault) = is_failed_read fault

-- the status that answers a request without its whole body
abbrev pub body_status : BodyFault → Status
body_status Short = BadRequest
body_status fault = Unavailable
