use Rattle.std.proofs.Common.{lit≤}
use Rattle.smf_type30.specs.Layout.{tcb_time, srb_time}
use Rattle.smf_type30.specs.Usage.{cpu_of}
use Rattle.smf_type30.proofs.usage.Type30.cpu.Goals as goal

pub returns-clause-value : goal.returns-clause-value
unfolding cpu_of
returns-clause-value c =
    let tcb = c.section_bytes-processor.ensures.numbers tcb_time (lit≤ tt) in
    let srb = c.section_bytes-processor.ensures.numbers srb_time (lit≤ tt) in
    cc
