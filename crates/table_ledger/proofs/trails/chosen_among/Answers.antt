use Rattle.std.proofs.Common.{◌∙◌, ◌++◌, ap}
use Rattle.table_ledger.proofs.ChosenOrder.{chosen-more}
use Rattle.table_ledger.proofs.LooksRefused.{look_given_up, look_refused}
use Rattle.table_ledger.proofs.TryLemmas.{saw_found, saw_so, saw_then}
use Rattle.table_ledger.proofs.trails.chosen_among.Goals as goal

-- the choices of one more record
pub loop-stored-preserved : goal.loop-stored-preserved
loop-stored-preserved g c = record {
  saw = saw_so (saw_then c.loop-stored.invariant.saw (saw_found c.in_ok-chosen.ensures.looks))
      (λ tables known. chosen-more c.args.rows.now c.loop-stored.stored-index c.stored-item.result tables
      c.loop-stored.all.items c.in_ok-chosen.chosen.items c.extend_from_slice.new.self.items
      c.loop-stored-test.true c.stored-item.is known.0 known.1 (c.in_ok-extend_from_slice.ensures.items
      ∙ ap (λ some. c.loop-stored.all.items ++ some) c.deref.ensures.value));
}

-- a look that fails leaves all as it was
pub returns-in_err-chosen : goal.returns-in_err-chosen
returns-in_err-chosen g c = record {
  looks = look_refused _ c.from_residual.ensures.0 c.loop-stored.invariant.saw
      c.in_err-chosen.ensures.looks;
}

pub returns-in_err-extend_from_slice : goal.returns-in_err-extend_from_slice
returns-in_err-extend_from_slice g c = record {
  looks = look_given_up _ c.from_residual-in_err-extend_from_slice.ensures.0
      (saw_then c.loop-stored.invariant.saw (saw_found c.in_ok-chosen.ensures.looks));
}
