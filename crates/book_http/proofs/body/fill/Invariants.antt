use Rattle.std.proofs.Common.{◌≡◌, ◌+◌, ◌-◌, ◌≤◌, length, take, drop, false}
use Rattle.streams.specs.Sources.{reads_of, has_failed, has_ended}
use Rattle.book_http.specs.Reads.{IsDueForRest, ReadsOn}
use Rattle.book_http.proofs.body.fill.Given as goal

-- what was read follows what was there, and each read gave at least one byte
abbrev pub invariant-pieces : goal.invariant-pieces
invariant-pieces g l = record {
  low : l.had ≤ l.filled;
  within : l.filled ≤ length l.body;
  size : length l.body ≡ length l.initial.body;
  failed : has_failed l.source ≡ false;
  ended : has_ended l.source ≡ false;
  asked : reads_of l.source ≤ reads_of l.initial.source + l.filled;
  kept : take l.had l.body ≡ take l.had l.initial.body;
  reads : ReadsOn g.R.Read.remaining g.R.Reader.may_answer
      (IsDueForRest l.had (length l.initial.body)) l.initial.source l.source
      (λ came. came ≡ drop l.had (take l.filled l.body));
}

abbrev pub decreases-pieces : goal.decreases-pieces
decreases-pieces g l = length l.initial.body - l.filled
