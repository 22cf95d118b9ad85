use Rattle.std.proofs.Common.{◌∙◌, [], ap, false, refl, rules, slice_index_or, unwrap_or}
use Rattle.std.specs.BTreeMap.{get}
use Rattle.std.specs.BTreeMap.Entry.{map_with_value}
use Rattle.book_model.specs.Words.{by_bytes}
use Rattle.tree_tables.specs.declared.line_rows.StoredLine.{StoredLine}
use Rattle.table_ledger.proofs.CountTestLemmas.{line_joins}
use Rattle.table_ledger.proofs.count_test.add_first.Goals as goal

pub loop-line-preserved : goal.loop-line-preserved
loop-line-preserved c = λ name.
    let any : StoredLine = record { name = []; plus = false } in
    let line = slice_index_or c.args.found.now c.loop-line.line-index any in
    let more = line_joins c.args.found.now c.loop-line.line-index any line name
    (get by_bytes c.args.lines.now name)
    (get by_bytes c.loop-line.lines name)
    (get by_bytes (map_with_value c.in_ok-lines.field-0 c.or_insert.result.now) name)
    (get by_bytes c.loop-line.lines line.name)
    c.or_insert.result.now c.loop-line-test.true refl (c.loop-line.invariant name)
    ((c.in_ok-lines.ensures.update.0 c.or_insert.result.now).0 name)
    (λ same. ap (get by_bytes c.loop-line.lines) same)
    (c.or_insert.ensures.value
    ∙ ap (λ kept. unwrap_or kept line.plus) c.in_ok-lines.ensures.value) in
    search (rules, more)
