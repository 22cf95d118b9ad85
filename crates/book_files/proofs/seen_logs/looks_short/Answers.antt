use Rattle.book_files.proofs.seen_logs.looks_short.Goals as goal

-- it is the log after the question for its length
pub returns : goal.returns
returns g c = λ is. record {
  log = c.is_short.new.log;
  short = c.is_short.ensures.short is;
  crash = c.is_short.ensures.crash;
}
