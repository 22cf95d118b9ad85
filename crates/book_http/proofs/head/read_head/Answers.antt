use Rattle.std.proofs.Common.{rules, ◌≡◌, ◌∙◌, ◌<◌, ◌≤◌, true, length, take, ◌-◌, arith, take_all}
use Rattle.std.proofs.Common.{ap, length-take-le, ◌+◌}
use Rattle.book_http.proofs.HeadLemmas.{end_refuses, full_refuses, holds_head, overflow_refuses}
use Rattle.book_http.proofs.PieceLemmas.{grown_length}
use Rattle.book_http.proofs.ReadLemmas.{due_for_head, gave_as, more_came, none_came, read_on}
use Rattle.book_http.proofs.Words.{has_ended}
use Rattle.book_http.proofs.head.read_head.Goals as goal

pub returns-in_default-clause-reads : goal.returns-in_default-clause-reads
returns-in_default-clause-reads g c =
    let so_far = c.pieces.invariant in
    let low : c.pieces.filled < length c.pieces.buffer = omega arith in
    read_on so_far.reads (c.requires.failed, c.requires.ended) (so_far.failed, so_far.ended)
    c.in_default.ensures.answer
    c.in_default.ensures.bytes c.read.ensures.asked c.in_default.ensures.failed
    c.in_default.ensures.ended
    (λ came is. due_for_head _ _ _ is low so_far.size so_far.none so_far.may_come)
    (λ came is. tt)

pub returns-then-filled-eq0-clause-reads : goal.returns-then-filled-eq0-clause-reads
returns-then-filled-eq0-clause-reads g c =
    let so_far = c.pieces.invariant in
    let low : c.pieces.filled < length c.pieces.buffer = omega arith in
    let ended : has_ended c.read.new.self ≡ true = search rules in
    read_on so_far.reads (c.requires.failed, c.requires.ended) (so_far.failed, so_far.ended)
    c.in-Ok.ensures.answer c.in-Ok.ensures.bytes
    c.read.ensures.asked c.in-Ok.ensures.failed c.in-Ok.ensures.ended
    (λ came is. due_for_head _ _ _ is low so_far.size so_far.none so_far.may_come)
    (λ came is. (
      ended,
      none_came _ _ _ c.if-count-eq0.true ∙ is
          ∙ ap (λ n. take n c.pieces.buffer) c.if-filled-eq0.true,
    ))

pub returns-else-filled-eq0-clause-reads : goal.returns-else-filled-eq0-clause-reads
returns-else-filled-eq0-clause-reads g c =
    let so_far = c.pieces.invariant in
    let low : c.pieces.filled < length c.pieces.buffer = omega arith in
    let some : 0 < c.pieces.filled = omega arith in
    let ended : has_ended c.read.new.self ≡ true = search rules in
    read_on so_far.reads (c.requires.failed, c.requires.ended) (so_far.failed, so_far.ended)
    c.in-Ok.ensures.answer c.in-Ok.ensures.bytes
    c.read.ensures.asked c.in-Ok.ensures.failed c.in-Ok.ensures.ended
    (λ came is. due_for_head _ _ _ is low so_far.size so_far.none so_far.may_come)
    (λ came is.
    let same = none_came came c.read.new.buffer _ c.if-count-eq0.true ∙ is in (
      rw (same, length-take-le c.pieces.filled c.pieces.buffer so_far.within) some,
      rw same (end_refuses _ _ ended (so_far.none some)),
    ))

pub returns-in-Ok-Complete-clause-reads : goal.returns-in-Ok-Complete-clause-reads
returns-in-Ok-Complete-clause-reads g c =
    let so_far = c.pieces.invariant in
    let low : c.pieces.filled < length c.pieces.buffer = omega arith in
    let few : c.in-Ok.count ≤ length c.read.new.buffer = omega (arith, c.in-Ok.ensures.bound) in
    read_on so_far.reads (c.requires.failed, c.requires.ended) (so_far.failed, so_far.ended)
    c.in-Ok.ensures.answer c.in-Ok.ensures.bytes
    c.read.ensures.asked c.in-Ok.ensures.failed c.in-Ok.ensures.ended
    (λ came is. due_for_head _ _ _ is low so_far.size so_far.none so_far.may_come)
    (λ came is. more_came _ _ _ _ _ _ is so_far.within few)

pub returns-in-Ok-Complete-clause-head : goal.returns-in-Ok-Complete-clause-head
returns-in-Ok-Complete-clause-head g c =
    let found = (rw c.in-Ok-Complete.field-0-is at c.in-Ok-Complete.ensures).complete in
    (found.0, holds_head _ _ _ _ (search rules) (search rules) found.1)

pub pieces-preserved : goal.pieces-preserved
pieces-preserved g c =
    let so_far = c.pieces.invariant in
    let low : c.pieces.filled < length c.pieces.buffer = omega arith in
    let few : c.in-Ok.count ≤ length c.read.new.buffer = omega (arith, c.in-Ok.ensures.bound) in
    let parsed = rw c.in-Ok-Partial.field-0-is at c.in-Ok-Partial.ensures in
    record {
      within = search rules;
      size = search rules;
      fields = search rules;
      failed = search rules;
      ended = search rules;
      asked = omega (arith, c.read.ensures.asked, so_far.asked);
      reads = read_on so_far.reads (c.requires.failed, c.requires.ended) (so_far.failed, so_far.ended)
          c.in-Ok.ensures.answer
          c.in-Ok.ensures.bytes c.read.ensures.asked c.in-Ok.ensures.failed
          c.in-Ok.ensures.ended
          (λ came is. due_for_head _ _ _ is low so_far.size so_far.none so_far.may_come)
          (λ came is. more_came _ _ _ _ _ _ is so_far.within few);
      none = λ _. parsed.partial;
      may_come = λ _. parsed.unfinished;
    }

pub returns-in-Err-clause-reads : goal.returns-in-Err-clause-reads
returns-in-Err-clause-reads g c =
    let so_far = c.pieces.invariant in
    let low : c.pieces.filled < length c.pieces.buffer = omega arith in
    let room : length c.pieces.fields ≡ 64 = so_far.fields in
    let few : c.in-Ok.count ≤ length c.read.new.buffer = omega (arith, c.in-Ok.ensures.bound) in
    let given = length c.pieces.buffer - c.pieces.filled in
    let grown = grown_length c.pieces.filled given c.in-Ok.count c.pieces.buffer
    c.read.new.buffer so_far.within few in
    let some : 0 < c.pieces.filled + c.in-Ok.count = omega arith in
    read_on so_far.reads (c.requires.failed, c.requires.ended) (so_far.failed, so_far.ended)
    c.in-Ok.ensures.answer c.in-Ok.ensures.bytes
    c.read.ensures.asked c.in-Ok.ensures.failed c.in-Ok.ensures.ended
    (λ came is. due_for_head _ _ _ is low so_far.size so_far.none so_far.may_come)
    (λ came is.
    let more = more_came came c.pieces.buffer c.read.new.buffer c.pieces.filled given c.in-Ok.count
    is so_far.within few in (
      rw (more, grown) some,
      rw more (overflow_refuses _ _ (rw room at c.in-Err.ensures.no_room)),
    ))

pub returns-clause-reads : goal.returns-clause-reads
returns-clause-reads g c =
    let so_far = c.pieces.invariant in
    let all : take c.pieces.filled c.pieces.buffer ≡ c.pieces.buffer =
    take_all c.pieces.filled c.pieces.buffer (omega arith) in
    let full : 16384 ≤ length (take c.pieces.filled c.pieces.buffer) = rw all (omega arith) in
    let none = so_far.none (omega arith) in
    gave_as so_far.reads
    (λ came is. (rw is (omega (arith, full)), rw is (full_refuses _ _ full none)))
