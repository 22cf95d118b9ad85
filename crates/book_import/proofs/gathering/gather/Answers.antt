use Rattle.std.proofs.Common.{◌∙◌, arith, lit<}
use Rattle.book_import.specs.ReadLimits.{piece_length}
use Rattle.book_import.proofs.GatheringLemmas.{completes_more}
use Rattle.book_import.proofs.PartLemmas.{last_done, last_taken, no_longer, nothing_left}
use Rattle.book_import.proofs.PartLemmas.{part_breaks, part_broken_done, part_goes_on, part_passed}
use Rattle.book_import.proofs.PartLemmas.{part_shorter, part_within, passed_shorter}
use Rattle.book_import.proofs.gathering.gather.Goals as goal

pub split_at-requires : goal.split_at-requires
split_at-requires c = part_within piece_length _ c.next_part.ensures.first c.in-Ok.ensures.within

pub returns-in-Err-clause-gathers : goal.returns-in-Err-clause-gathers
returns-in-Err-clause-gathers c = λ text stood.
    let done = part_broken_done piece_length c.loop-fault.invariant.goes c.next_part.ensures.first
    c.in-Err.ensures text stood in
    record {
      records = done.0;
      is = record { classes = done.1.classes; usage = done.1.usage };
      found = done.2;
    }

pub returns-in-Err-clause-broken : goal.returns-in-Err-clause-broken
returns-in-Err-clause-broken c = λ text more stood.
    part_breaks piece_length c.loop-fault.invariant.goes c.next_part.ensures.first c.in-Err.ensures
    text stood more

pub returns-then-is_empty-clause-gathers : goal.returns-then-is_empty-clause-gathers
returns-then-is_empty-clause-gathers c = λ text stood.
    let done = last_done piece_length c.loop-fault.invariant.goes c.next_part.ensures.first
    c.in-Ok.ensures c.in_default.ensures.exact c.split_at.ensures.back
    (nothing_left _ c.is_empty.ensures c.if-is_empty.true) text stood in
    record { records = done.0; is = done.1; found = done.2 }

pub returns-then-is_empty-clause-taken : goal.returns-then-is_empty-clause-taken
returns-then-is_empty-clause-taken c = λ whole.
    last_taken piece_length c.loop-fault.invariant.goes c.next_part.ensures.first c.in-Ok.ensures
    c.in_default.ensures.exact c.split_at.ensures.back
    (nothing_left _ c.is_empty.ensures c.if-is_empty.true)

pub add-requires : goal.add-requires
add-requires c = record {
  framed = c.in-Some.ensures.framed _ (c.in-Ok.ensures.stands _
      (c.loop-fault.invariant.goes.stands _ c.requires.stands.1));
}

pub loop-fault-smaller-in-Some : goal.loop-fault-smaller-in-Some
loop-fault-smaller-in-Some c =
    part_shorter piece_length c.loop-fault.invariant.goes c.next_part.ensures.first c.in-Ok.ensures
    c.in-Some.ensures.exact c.split_at.ensures.back c.requires.stands

pub loop-fault-preserved-in-Some : goal.loop-fault-preserved-in-Some
loop-fault-preserved-in-Some c =
    let goes = c.loop-fault.invariant.goes in
    let less = part_shorter piece_length goes c.next_part.ensures.first c.in-Ok.ensures
    c.in-Some.ensures.exact c.split_at.ensures.back c.requires.stands in
    record {
      goes = part_goes_on piece_length goes c.next_part.ensures.first c.in-Ok.ensures
          c.in-Some.ensures.exact c.split_at.ensures.back c.next.ensures.value
          c.next.ensures.stands (completes_more c.in_ok-add.ensures.more);
      whole = c.in_ok-add.ensures.whole ∙ c.loop-fault.invariant.whole;
      few = omega (arith, c.loop-fault.invariant.few, c.in_ok-add.ensures.longer, less);
    }

pub loop-fault-smaller : goal.loop-fault-smaller
loop-fault-smaller c =
    passed_shorter piece_length c.loop-fault.invariant.goes c.next_part.ensures.first (lit< tt)
    c.in-Ok.ensures c.in_default.ensures.exact c.split_at.ensures.back c.is_empty.ensures
    c.if-is_empty.false

pub loop-fault-preserved : goal.loop-fault-preserved
loop-fault-preserved c = record {
  goes = part_passed piece_length c.loop-fault.invariant.goes c.next_part.ensures.first
      c.in-Ok.ensures c.in_default.ensures.exact c.split_at.ensures.back;
  whole = c.loop-fault.invariant.whole;
  few = omega (arith, c.loop-fault.invariant.few, no_longer c.in-Ok.taken c.loop-fault.rest.now c.split_at.ensures.back);
}
