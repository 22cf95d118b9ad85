use Rattle.report_texts.proofs.centre_amounts.centre_amounts.Goals as goal

-- these are the amounts of each part
pub returns : goal.returns
returns c = record {
  steps = c.in_ok-of_steps.ensures;
  jobs = c.in_ok-of_jobs.ensures;
  late = c.in_ok-late.ensures;
  reversed = c.in_ok-reversed.ensures;
  credited = c.in_ok-credited.ensures;
  debited = c.in_ok-debited.ensures;
}
