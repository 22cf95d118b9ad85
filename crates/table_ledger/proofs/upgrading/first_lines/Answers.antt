use Rattle.std.proofs.Common.{◌∙◌, map, ap, arith}
use Rattle.std.specs.BTreeMap.{get}
use Rattle.book_model.proofs.Std.{option_or}
use Rattle.book_model.specs.Words.{by_bytes}
use Rattle.tree_rows.proofs.Calls.{schema_both}
use Rattle.table_ledger.proofs.CountedList.{lines_first}
use Rattle.table_ledger.proofs.TryLemmas.{saw_found, saw_so, saw_then}
use Rattle.table_ledger.proofs.Words.{find, signed_name}
use Rattle.table_ledger.proofs.upgrading.first_lines.Goals as goal

pub loop-period-preserved : goal.loop-period-preserved
loop-period-preserved g c = record {
  saw = saw_so (saw_then c.loop-period.invariant.saw (saw_found c.in_ok-found.ensures.looks))
      (λ tables known name. lines_first c.loop-period.period tables c.in_ok-found.found.items name
      (get by_bytes c.loop-period.lines name) (get by_bytes c.add_first.new.lines name)
      (known.0 name) known.1 (c.in_ok-add_first.ensures name
      ∙ ap (λ lines. option_or (get by_bytes c.loop-period.lines name)
      (find by_bytes name (map signed_name lines))) c.deref.ensures.value));
  schema = schema_both c.loop-period.invariant.schema c.lines_in.ensures.schema;
  until = omega arith;
}
