use Rattle.std.proofs.Common.{append_assoc}
use Rattle.book_http.specs.AnswerHead as spec
use Rattle.book_http.proofs.answer_head.answer_head.Goals as goal

pub returns : goal.returns
unfolding spec.answer_head
returns c =
    rw (
      c.push_str-5.ensures.bytes,
      c.push_size.ensures.bytes,
      c.push_notice.ensures.bytes,
      c.push_limits.ensures.bytes,
      c.push_str-4.ensures.bytes,
      c.push_str-3.ensures.bytes,
      c.push_str-2.ensures.bytes,
      c.push_status.ensures.bytes,
      c.push_str.ensures.bytes,
      c.media_type.ensures,
      c.new-text.ensures,
    ) (simp append_assoc)
