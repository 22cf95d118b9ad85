use Rattle.std.proofs.Common.{◌∙◌, ap, unwrap_or}
use Rattle.tree_tables.proofs.arrivals.read_arrival.Goals as goal

-- its number is that of its entry
pub returns-clause-came : goal.returns-clause-came
returns-clause-came c = λ came entry is.
    c.number_or_0-entry.ensures
    ∙ ap (λ number. unwrap_or number 0) (c.in_ok-came.ensures.read came entry is)
