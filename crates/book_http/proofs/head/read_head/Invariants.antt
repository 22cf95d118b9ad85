use Rattle.std.proofs.Common.{length, ◌-◌, ◌+◌, ◌≡◌, ◌≤◌, ◌<◌, take, false}
use Rattle.book_http.proofs.Words.{HasNoRequest, MayBecomeRequest, reads_of, has_failed, has_ended}
use Rattle.book_http.proofs.Words.{IsDueForHead, ReadsOn}
use Rattle.book_http.proofs.head.read_head.Given as goal

-- what was read is no head yet, and each read gave at least one byte
abbrev pub invariant-pieces : goal.invariant-pieces
invariant-pieces g l = record {
  within : l.filled ≤ length l.buffer;
  size : length l.buffer ≡ 16384;
  fields : length l.fields ≡ 64;
  failed : has_failed l.source ≡ false;
  ended : has_ended l.source ≡ false;
  asked : reads_of l.source ≤ reads_of l.initial.source + l.filled;
  reads : ReadsOn g.R.Read.remaining g.R.Reader.may_answer IsDueForHead l.initial.source l.source
      (λ came. came ≡ take l.filled l.buffer);
  none : 0 < l.filled → HasNoRequest (take l.filled l.buffer);
  may_come : 0 < l.filled → MayBecomeRequest (take l.filled l.buffer);
}

abbrev pub decreases-pieces : goal.decreases-pieces
decreases-pieces g l = length l.initial.buffer - l.filled
