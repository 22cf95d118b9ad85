use Rattle.std.proofs.Common.{◌∙◌, ◌+◌, map, ap, arith, refl}
use Rattle.std.specs.BTreeMap.{get}
use Rattle.book_model.proofs.Std.{option_or}
use Rattle.book_model.specs.Words.{by_bytes}
use Rattle.table_ledger.proofs.CountTestLemmas.{lines_on}
use Rattle.table_ledger.proofs.TryLemmas.{saw_found, saw_so, saw_then}
use Rattle.table_ledger.proofs.Words.{find, signed_name}
use Rattle.table_ledger.proofs.count_test.first_lines.Goals as goal

pub loop-period-preserved : goal.loop-period-preserved
loop-period-preserved g c = record {
  saw = saw_so (saw_then c.loop-period.invariant.saw (saw_found c.in_ok-found.ensures.looks))
      (λ tables known name. lines_on c.args.after c.loop-period.period (c.loop-period.period + 1)
      tables c.in_ok-found.found.items name _ _ c.loop-period.invariant.since refl (known.0 name)
      known.1 (c.in_ok-add_first.ensures name
      ∙ ap (λ lines. option_or (get by_bytes c.loop-period.lines name)
      (find by_bytes name (map signed_name lines))) c.deref.ensures.value));
  since = omega arith;
  until = omega arith;
}
