use Rattle.std.proofs.Common.{◌∙◌, ap, Some, lit≤}
use Rattle.smf_type30.specs.Layout.{outcome}
use Rattle.smf_type30.specs.Usage.{completion_of}
use Rattle.smf_type30.proofs.SectionLemmas.{option_copied-first_chunk}
use Rattle.smf_type30.proofs.UsageFacts.{present}
use Rattle.smf_type30.proofs.usage.Type30.completion.Goals as goal

pub returns : goal.returns
unfolding completion_of
returns c =
    record {
      value = rw (← c.self.view_is)
          (c.copied.ensures
          ∙ option_copied-first_chunk _ _ _ c.section_bytes.ensures.long c.first_chunk.ensures.cases
          ∙ ap Some (c.section_bytes.ensures.parts outcome (lit≤ tt))
          ∙ present _ _ _ (λ e. c.if-count-eq0.false (c.count.ensures ∙ e)));
    }
