use Rattle.std.proofs.Common.{◌≡◌, map, take, false}
use Rattle.httparse.specs.Spans.{header_bytes}
use Rattle.book_http.specs.Framing as spec
use Rattle.book_http.proofs.framing.has_field.Given as goal

abbrev pub invariant-loop-field : goal.invariant-loop-field
invariant-loop-field l =
    spec.has_field l.wanted (map (header_bytes l.bytes) (take l.field-index l.fields)) ≡ false
