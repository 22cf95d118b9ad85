-- The head of a request, by the grammar of httparse (RFC 9112) and the office's limits.
use Rattle.std.specs.Prelude.{◌≡◌, ℕ, ◌<◌, ◌≤◌, Bool, false, true, List, [], ◌++◌, length}
use Rattle.std.specs.Prelude.{take, drop, ⊤}
use Rattle.httparse.specs.Grammar.{RequestHead, ReadsRequest, print_request}
use Rattle.httparse.specs.Spans.{IsRequestAt}
use Rattle.httparse.specs.declared.spans.HeaderSpan.{HeaderSpan}
use Rattle.httparse.specs.declared.spans.RequestSpans.{RequestSpans}
use Rattle.book_http.specs.declared.head.HeadRead.{HeadRead}
use Rattle.book_http.specs.declared.head.HeadRead.TheVariants.{Closed, Failed, Refused, Whole}
use Rattle.book_http.specs.declared.head.WholeHead.{WholeHead}

-- the most bytes of a head, its empty line among them (the office's rule)
abbrev pub most_head_bytes : ℕ
most_head_bytes = 16384

-- the most fields of a head (the office's rule)
abbrev pub most_fields : ℕ
most_fields = 64

-- the bytes begin with this head, which keeps within the limits, and the rest follows
pub record HasHead (bytes : List ℕ) (h : RequestHead) (rest : List ℕ) : Type 0 where
  pub reads : ReadsRequest bytes h rest
  pub size : length (print_request h) ≤ most_head_bytes
  pub fields : length h.fields ≤ most_fields

-- there is no head at the beginning
abbrev pub HasNoHead : List ℕ → Type 0
HasNoHead bytes = (h : RequestHead) (rest : List ℕ) → ¬ (HasHead bytes h rest)

-- whatever follows these bytes, and nothing follows where the input has ended, there is no head at
-- the beginning
abbrev pub NoHeadComes : Bool → List ℕ → Type 0
NoHeadComes ended bytes = (more : List ℕ) → (ended ≡ true → more ≡ []) → HasNoHead (bytes ++ more)

-- the bytes begin with this head, and its parts are where the spans say
pub record HoldsHead
    (bytes : List ℕ) (fields : List HeaderSpan) (spans : RequestSpans) (h : RequestHead)
    : Type 0 where
  pub is_head : HasHead bytes h (drop spans.len bytes)
  pub parts : IsRequestAt bytes fields spans h

-- a head came, and this holds of it
abbrev pub IfWhole : HeadRead → (WholeHead → Type 0) → Type 0
IfWhole Closed P = ⊤
IfWhole Failed P = ⊤
IfWhole Refused P = ⊤
IfWhole (Whole whole) P = P whole

-- The result of reading a head, by the bytes that were taken: the input ended before the first of
-- them, or no head can come after them, or they are in the buffer and begin with a head.
abbrev pub HeadComes : HeadRead → List ℕ → Bool → List ℕ → Type 0
HeadComes Closed buffer ended bytes = (ended ≡ true) × (bytes ≡ [])
HeadComes Failed buffer ended bytes = ⊤
HeadComes Refused buffer ended bytes = (0 < length bytes) × NoHeadComes ended bytes
HeadComes (Whole whole) buffer ended bytes = bytes ≡ take whole.filled buffer

-- a read failed
abbrev pub is_failed_head : HeadRead → Bool
is_failed_head Closed = false
is_failed_head Failed = true
is_failed_head Refused = false
is_failed_head (Whole whole) = false
