use Rattle.std.proofs.Common.{◌≤◌, length}
use Rattle.std.specs.Prelude.{unwrap_or}
use Rattle.smf_frames.specs.Framed.{most_data}
use Rattle.smf_frames.specs.Front.{front, data_len}
use Rattle.smf_frames.specs.Texts.{texts, vector_text}
use Rattle.smf_frames.proofs.SplitLoop.{FrontSoFar}
use Rattle.smf_frames.proofs.dump_split.split.Given as goal

abbrev pub invariant-loop-records : goal.invariant-loop-records
invariant-loop-records l = record {
  front : FrontSoFar l.layout (texts l.records.items) (vector_text l.begun) l.left l.rest
      (front l.layout l.bytes);
  short : unwrap_or (data_len (vector_text l.begun)) 0 ≤ most_data;
}

abbrev pub decreases-loop-records : goal.decreases-loop-records
decreases-loop-records l = length l.rest
