use Rattle.std.proofs.Common.{◌≡◌, ◌++◌, take, flat_map}
use Rattle.report_texts.proofs.Words.{LineSeen, head_shown, row_line}
use Rattle.report_texts.proofs.focus_tables.add_lines.Given as goal

-- the rows of the lines so far are there
abbrev pub invariant-loop-line : goal.invariant-loop-line
invariant-loop-line l =
    l.table ≡ l.initial.table
    ++ flat_map (λ line. row_line (head_shown l.head) (LineSeen line)) (take l.line-index l.lines)
