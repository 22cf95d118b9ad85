use Rattle.tree_tables.proofs.OldChoices.{choice_marked, marks_alone}
use Rattle.tree_tables.proofs.old_choices.mark_one.Goals as goal

pub returns-clause-marks : goal.returns-clause-marks
returns-clause-marks g c =
    marks_alone g.S.Store c.put_row.result c.put_row.ensures.quiet c.put_row.ensures.kept
    c.put_row.ensures.puts (λ puts. puts.rewrites.only)
    (λ puts. choice_marked c.args.one.now puts c.in_ok-ruling_key.ensures.made
    c.in_ok-choice_row.ensures)
