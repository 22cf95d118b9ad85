use Rattle.std.proofs.Common.{ap}
use Rattle.streams.specs.AnswerFlags.{is_failed_read}
use Rattle.streams.proofs.source.Source.read.Goals as goal

-- the read that was made is the one that failed
pub invariant_of-self-in-Err-clause-cause : goal.invariant_of-self-in-Err-clause-cause
invariant_of-self-in-Err-clause-cause g c = λ told. ∣ record {
  old = c.args.self.now.inner;
  room = c.args.buffer.now;
  answer = c.ask-answer.result;
  given = c.ask-answer.new.room;
  made = c.ask-answer.ensures.answer;
  failed = ap is_failed_read c.in-Err.is;
} ∣₁
