use Rattle.std.proofs.Common.{◌∙◌, sym}
use Rattle.streams.proofs.sink.Sink.write.Goals as goal

-- the write that was made is the one that failed
pub invariant_of-self : goal.invariant_of-self
invariant_of-self g c = record {
  cause = λ told. ∣ record {
    old = c.args.self.now.inner;
    bytes = c.args.bytes.now;
    fails = record {
      answer = c.hand-answer.result;
      made = c.hand-answer.ensures.answer;
      failed = sym c.is_failed-failed.ensures ∙ told;
    };
  } ∣₁;
}
