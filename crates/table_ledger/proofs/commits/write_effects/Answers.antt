use Rattle.table_ledger.proofs.StepLemmas.{does_both}
use Rattle.table_ledger.proofs.commits.write_effects.Goals as goal

pub returns : goal.returns
returns g c =
    does_both c.in_ok-change_day.ensures.does
    (does_both c.in_ok-write_line.ensures.does
    (does_both c.in_ok-write_mark.ensures.does c.write_uncounted.ensures.does))
