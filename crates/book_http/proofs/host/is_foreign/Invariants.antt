use Rattle.std.proofs.Common.{◌≡◌, map, take, false}
use Rattle.httparse.specs.Spans.{header_bytes}
use Rattle.book_http.specs.Hosts as spec
use Rattle.book_http.proofs.host.is_foreign.Given as goal

abbrev pub invariant-loop-field : goal.invariant-loop-field
invariant-loop-field l =
    spec.has_foreign_field (map (header_bytes l.bytes) (take l.field-index l.fields)) ≡ false
