use Rattle.std.proofs.Common.{◌∙◌, ◌++◌, ap, append_assoc, sym, flat_map}
use Rattle.report_texts.proofs.Words.{LineSeen, head_shown, row_line}
use Rattle.report_texts.proofs.FocusLemmas.{rows_in_turn}
use Rattle.report_texts.proofs.focus_tables.add_rows.Goals as goal

-- the rows of charge rows come first, and then those of lines
pub returns : goal.returns
returns c =
    let shown = row_line (head_shown c.args.head.now) in
    c.add_lines.ensures
    ∙ ap (λ before. before ++ flat_map (λ line. shown (LineSeen line)) c.args.lines.now)
    c.add_charges.ensures
    ∙ append_assoc c.args.table.now _ _
    ∙ ap (λ more. c.args.table.now ++ more)
    (sym (rows_in_turn shown c.args.rows.now c.args.lines.now))
