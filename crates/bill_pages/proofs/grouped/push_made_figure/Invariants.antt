use Rattle.bill_pages.specs.Grouped.{grouped}
use Rattle.bill_pages.proofs.grouped.push_made_figure.Given as goal

-- the piece is the figure as a page shows it
abbrev pub ghost-leave_out : goal.ghost-leave_out
ghost-leave_out a = grouped a.value.now
