use Rattle.std.proofs.Common.{◌∙◌, ◌++◌, ◌∷◌, [], ap, sym, map, take, append_assoc}
use Rattle.std.proofs.Common.{to_z, of_z, w32}
use Rattle.std.proofs.lemmas.List.{map_more}
use Rattle.book_reports.specs.CoverageSums.{row_on}
use Rattle.book_reports.proofs.coverage_sums.push_day.Goals as goal

-- the row of one more system
pub loop-system-preserved : goal.loop-system-preserved
loop-system-preserved c =
    let systems = c.args.systems.now in
    let made = c.args.made.now.items in
    let row_of = row_on c.args.rows.now.entries (to_z w32 (of_z w32 c.args.day)) in
    let before = map row_of (take c.loop-system.system-index systems) in
    c.in_ok-push.ensures.items
    ∙ ap (λ all. all ++ c.row_among.result ∷ []) c.loop-system.invariant
    ∙ append_assoc made before (c.row_among.result ∷ [])
    ∙ ap (λ all. made ++ all)
    (ap (λ row. before ++ row ∷ []) c.row_among.ensures
    ∙ sym (map_more row_of systems c.loop-system.system-index [] c.loop-system-test.true))
