-- What the parser's answer on some bytes says of all that may follow them.
use Rattle.std.proofs.Common.{◌≡◌, ℕ, ◌+◌, ◌≤◌, Bool, true, List, ◌++◌, length, take, drop, arith}
use Rattle.std.proofs.Common.{sym, ap, ◌∙◌, subst, append-nil, append_assoc, take-append-drop}
use Rattle.std.proofs.Common.{length-append}
use Rattle.std.proofs.Math.Seq.{take-append_seam}
use Rattle.std.proofs.lemmas.List.{length-map, length-take, take-append-le}
use Rattle.httparse.proofs.GrammarLemmas.{request_unique}
use Rattle.httparse.specs.Grammar.{RequestHead, print_request, ReadsRequest, HasNoRequest}
use Rattle.httparse.specs.Spans.{RequestOverflows, IsRequestAt, header_bytes, name_and_value}
use Rattle.httparse.specs.declared.spans.HeaderSpan.{HeaderSpan}
use Rattle.httparse.specs.declared.spans.RequestSpans.{RequestSpans}
use Rattle.book_http.specs.Head.{HasHead, HoldsHead, NoHeadComes}

-- the bytes have one head at most
pub head_unique : (bytes : List ℕ) (h other : RequestHead) (rest others : List ℕ)
    → HasHead bytes h rest → HasHead bytes other others → (h ≡ other) × (rest ≡ others)
head_unique bytes h other rest others first second =
    request_unique bytes h other rest others first.reads second.reads

-- a head stays where more bytes follow
pub head_before : (bytes : List ℕ) (h : RequestHead) (rest more : List ℕ)
    → HasHead bytes h rest → HasHead (bytes ++ more) h (rest ++ more)
head_before bytes h rest more it = record {
  reads = (it.reads.0, ap (λ l. l ++ more) it.reads.1 ∙ append_assoc (print_request h) rest more);
  size = it.size;
  fields = it.fields;
}

-- bytes with which no head of few enough fields begins, whatever follows, are no prefix of one
pub overflow_refuses : (ended : Bool) (bytes : List ℕ) → RequestOverflows 64 bytes
    → NoHeadComes ended bytes
overflow_refuses ended bytes over more none h rest it =
    let many = over more h rest it.reads in let few = it.fields in absurd (omega arith)

-- a head that fits within the prefix is a head of the prefix
front_head : (bytes more : List ℕ) (h : RequestHead) (rest : List ℕ)
    → ReadsRequest (bytes ++ more) h rest → length (print_request h) ≤ length bytes
    → ReadsRequest bytes h (drop (length (print_request h)) bytes)
front_head bytes more h rest reads fits =
    let n = length (print_request h) in
    let same : take n bytes ≡ print_request h =
    sym (take-append-le n bytes more fits) ∙ ap (take n) reads.1
    ∙ take-append_seam (print_request h) rest in
    (reads.0, sym (take-append-drop n bytes) ∙ ap (λ l. l ++ drop n bytes) same)

-- as many bytes as a head may have, without a head at their beginning, are no prefix of one
pub full_refuses : (ended : Bool) (bytes : List ℕ) → 16384 ≤ length bytes → HasNoRequest bytes
    → NoHeadComes ended bytes
full_refuses ended bytes full no_head more none h rest it =
    let fits = it.size in
    no_head h (drop (length (print_request h)) bytes)
    (front_head bytes more h rest it.reads (omega arith))

-- at the input's end, bytes without a head at their beginning are no prefix of one
pub end_refuses : (ended : Bool) (bytes : List ℕ) → ended ≡ true → HasNoRequest bytes
    → NoHeadComes ended bytes
end_refuses ended bytes is_end no_head more none h rest it =
    let whole : bytes ++ more ≡ bytes = ap (λ l. bytes ++ l) (none is_end) ∙ append-nil bytes in
    no_head h rest (subst (λ l. ReadsRequest l h rest) whole it.reads)

-- a head that the parser found within the limits is one that the bytes hold
pub holds_head :
    (bytes : List ℕ) (fields : List HeaderSpan) (spans : RequestSpans) (h : RequestHead)
    → length bytes ≤ 16384 → length fields ≡ 64 → IsRequestAt bytes fields spans h
    → HoldsHead bytes fields spans h
holds_head bytes fields spans h few room parts =
    let shown : length bytes ≡ length (print_request h) + length (drop spans.len bytes) =
    ap length parts.reads.1 ∙ length-append (print_request h) (drop spans.len bytes) in
    let alike : length (take spans.headers fields) ≡ length h.fields =
    sym (length-map (take spans.headers fields) (header_bytes bytes))
    ∙ ap length parts.fields ∙ length-map h.fields name_and_value in
    let least : length (take spans.headers fields) ≤ length fields = rw length-take (omega arith) in
    record {
      is_head = record { reads = parts.reads; size = omega arith; fields = omega arith };
      parts = parts;
    }
