use Rattle.std.proofs.Common.{rules, arith, ◌≤◌, length, ◌∙◌, length-take-le, length-drop}
use Rattle.std.proofs.lemmas.Slice.{take-put_mid_below}
use Rattle.book_http.proofs.ReadLemmas.{due_for_body, more_filled, none_came, read_on}
use Rattle.book_http.proofs.body.fill.Goals as goal

pub returns-in_default-clause-reads : goal.returns-in_default-clause-reads
returns-in_default-clause-reads g c =
    let so_far = c.pieces.invariant in
    read_on so_far.reads (c.requires.failed, c.requires.ended) (so_far.failed, so_far.ended)
    c.in_default.ensures.answer
    c.in_default.ensures.bytes c.read.ensures.asked c.in_default.ensures.failed
    c.in_default.ensures.ended
    (λ came is. due_for_body _ _ _ _ _ is so_far.low c.pieces-test.true so_far.size) (λ came is. tt)

pub returns-then-count-eq0-clause-reads : goal.returns-then-count-eq0-clause-reads
returns-then-count-eq0-clause-reads g c =
    let so_far = c.pieces.invariant in
    let long = length-take-le c.pieces.filled c.pieces.body so_far.within in
    read_on so_far.reads (c.requires.failed, c.requires.ended) (so_far.failed, so_far.ended)
    c.in-Ok.ensures.answer c.in-Ok.ensures.bytes
    c.read.ensures.asked c.in-Ok.ensures.failed c.in-Ok.ensures.ended
    (λ came is. due_for_body _ _ _ _ _ is so_far.low c.pieces-test.true so_far.size)
    (λ came is. rw
    (none_came came c.read.new.buffer _ c.if-count-eq0.true ∙ is, length-drop, long)
    (search (rules, so_far.low)))

pub pieces-preserved : goal.pieces-preserved
pieces-preserved g c =
    let so_far = c.pieces.invariant in
    let few : c.in-Ok.count ≤ length c.read.new.buffer = omega (arith, c.in-Ok.ensures.bound) in
    record {
      low = omega arith;
      within = search (rules, c.in-Ok.ensures.bound);
      size = search rules;
      failed = search rules;
      ended = search rules;
      asked = omega (arith, c.read.ensures.asked, so_far.asked);
      kept = take-put_mid_below _ _ _ _ _ so_far.low so_far.within ∙ so_far.kept;
      reads = read_on so_far.reads (c.requires.failed, c.requires.ended) (so_far.failed, so_far.ended)
          c.in-Ok.ensures.answer
          c.in-Ok.ensures.bytes c.read.ensures.asked c.in-Ok.ensures.failed
          c.in-Ok.ensures.ended
          (λ came is. due_for_body _ _ _ _ _ is so_far.low c.pieces-test.true so_far.size)
          (λ came is. more_filled _ _ _ _ _ _ _ is so_far.low so_far.within few);
    }
