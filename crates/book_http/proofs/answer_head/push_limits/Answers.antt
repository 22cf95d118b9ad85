use Rattle.std.proofs.Common.{append_assoc}
use Rattle.book_http.proofs.answer_head.push_limits.Goals as goal

pub returns-in-Page-clause-bytes : goal.returns-in-Page-clause-bytes
returns-in-Page-clause-bytes c =
    rw (
      c.push_str-in-Page-2.ensures.bytes,
      c.push_str-in-Page.ensures.bytes,
      c.push_str.ensures.bytes,
      c.in-Page.is,
    ) (simp append_assoc)
