use Rattle.std.proofs.Common.{◌+◌, arith, refl}
use Rattle.table_ledger.proofs.TraceLemmas.{turns_on}
use Rattle.table_ledger.proofs.TryLemmas.{saw_found, saw_so, saw_then}
use Rattle.table_ledger.proofs.trails.later_turns.Goals as goal

-- the line of one more period
pub loop-period-preserved : goal.loop-period-preserved
loop-period-preserved g c = record {
  saw = saw_so (saw_then c.loop-period.invariant.saw (saw_found c.in_ok-line.ensures.looks))
      (λ tables known. turns_on c.args.after c.loop-period.period (c.loop-period.period + 1)
      tables.lines c.args.name.now c.in_ok-line.line c.loop-period.turns.items
      c.push_turn.new.turns.items c.loop-period.invariant.since refl known.0 known.1
      c.in_ok-push_turn.ensures);
  since = omega arith;
  until = omega arith;
}
