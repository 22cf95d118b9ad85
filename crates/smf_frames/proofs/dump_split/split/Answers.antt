use Rattle.std.proofs.Common.{◌≡◌, ap, sym, ◌∙◌, subst, All}
use Rattle.std.specs.Prelude.{is_some}
use Rattle.smf_frames.specs.Framed.{IsFramed}
use Rattle.smf_frames.specs.Faults.{descriptor_fault, fault_at}
use Rattle.smf_frames.specs.Longest.{Front, IsFront}
use Rattle.smf_frames.specs.Front.{front}
use Rattle.smf_frames.specs.Texts.{texts, vector_text, front_of}
use Rattle.smf_frames.proofs.SplitLoop.{so_far_stop, so_far_block, so_far_segment, short_after}
use Rattle.smf_frames.proofs.Fronts.{is_front, only_front, front_framed}
use Rattle.smf_frames.proofs.LastingFaults.{front_lasts}
use Rattle.smf_frames.proofs.dump_split.split.Goals as goal

pub returns-in-Stops : goal.returns-in-Stops
returns-in-Stops c =
    let found : front_of c.stopped.result ≡ front c.args.layout c.args.bytes.now =
    so_far_stop c.args.layout (texts c.loop-records.records.items)
    (vector_text c.loop-records.begun) c.data_len.result c.loop-records.left
    c.loop-records.rest.now _ c.data_len.ensures c.loop-records.invariant.front
    (front_of c.stopped.result) c.in-Stops.ensures.exact
    (ap (λ v. texts v.items) c.stopped.ensures.records)
    (c.stopped.ensures.fault
    ∙ ap (λ l. fault_at c.args.layout l c.loop-records.left c.loop-records.rest.now)
    c.data_len-in-Stops.ensures)
    (c.stopped.ensures.broken ∙ ap
    (λ l. is_some (descriptor_fault c.args.layout l c.loop-records.left
    c.loop-records.rest.now)) c.data_len-in-Stops.ensures) in
    record {
      longest = subst (IsFront c.args.layout c.args.bytes.now) (sym found)
          (is_front c.args.layout c.args.bytes.now);
      only = λ other is. only_front c.args.layout c.args.bytes.now other is ∙ sym found;
      framed = subst (λ (f : Front). All IsFramed f.records) (sym found)
          (front_framed c.args.layout c.args.bytes.now);
      records = ap (λ (f : Front). f.records) found;
      fault = ap (λ (f : Front). f.fault) found;
      broken = ap (λ (f : Front). f.is_broken) found;
      lasting = λ broken more. front_lasts c.args.layout c.args.bytes.now more
          (sym (ap (λ (f : Front). f.is_broken) found) ∙ broken);
    }

pub loop-records-preserved-in-Block : goal.loop-records-preserved-in-Block
loop-records-preserved-in-Block c = record {
  front = so_far_block c.args.layout _ _ c.data_len.result _ c.loop-records.rest.now _
      c.data_len.ensures c.loop-records.invariant.front _ _ c.in-Block.len
      c.in-Block.ensures.exact c.left_of_block-left.ensures c.split_at.ensures.back;
  short = c.loop-records.invariant.short;
}

pub loop-records-preserved : goal.loop-records-preserved
loop-records-preserved c = record {
  front = so_far_segment c.args.layout _ _ c.data_len.result _ c.loop-records.rest.now _
      c.data_len.ensures c.loop-records.invariant.front _ _ _ _ _ c.in-Segment.len
      c.in-Segment.ensures.exact c.split_at-in-Segment.ensures.front
      c.split_at-in-Segment.ensures.back c.in-Segment.ensures.there.1
      c.in_ok-begun-in-Segment.ensures.records c.in_ok-begun-in-Segment.ensures.begun
      c.left_after-left.ensures;
  short = short_after _ _ c.data_len.result _ c.loop-records.rest.now c.in-Segment.len
      c.data_len.ensures c.split_at-in-Segment.ensures.front c.in-Segment.ensures.there.1
      c.in_ok-begun-in-Segment.ensures.begun c.in-Segment.ensures.there.2;
}
