use Rattle.std.proofs.Common.{◌∙◌, lit≤}
use Rattle.smf_type30.specs.Layout.{blocks}
use Rattle.smf_type30.specs.Usage.{excp_of}
use Rattle.smf_type30.proofs.UsageFacts.{present}
use Rattle.smf_type30.proofs.usage.Type30.excp.Goals as goal

pub returns : goal.returns
unfolding excp_of
returns c =
    record {
      value = rw (← c.self.view_is)
          (c.number4.ensures
          ∙ c.section_bytes.ensures.numbers blocks (lit≤ tt)
          ∙ present _ _ _ (λ e. c.if-count-eq0.false (c.count.ensures ∙ e)));
    }
