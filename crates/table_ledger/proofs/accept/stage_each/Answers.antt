use Rattle.std.proofs.Common.{drop, ◌≡◌, ◌∙◌, ◌++◌, ◌∷◌, [], ◌+◌, refl, sym, ap, subst, length}
use Rattle.std.proofs.Common.{length-append}
use Rattle.std.specs.FinMap.{empty}
use Rattle.table_ledger.proofs.SurvivalLemmas.{survives_none, survives_then}
use Rattle.book_core.specs.Words.{records_in}
use Rattle.table_model.specs.Tables.{JournalTable}
use Rattle.table_ledger.specs.Groups.{before_entry}
use Rattle.table_ledger.proofs.ManyLemmas.{AreTaken, all_taken, none_yet, step_failed, step_refused}
use Rattle.table_ledger.proofs.ManyLemmas.{step_taken, step_untold}
use Rattle.table_ledger.proofs.Words.{state}
use Rattle.table_ledger.proofs.accept.stage_each.Goals as goal

pub loop-one-init : goal.loop-one-init
loop-one-init g c = record {
  ruled = record { rulings = refl; choices = refl; replaced = refl; credits = refl };
  survives = survives_none;
  count = ap length c.requires.none;
  taken = λ rows clean book joined at.
      none_yet (records_in c.args.records.now) c.requires.none joined at;
}

pub loop-one-preserved : goal.loop-one-preserved
loop-one-preserved g c =
    let before = c.loop-one.invariant in
    let sums = c.args.summary.now in
    let stages = λ (rows : JournalTable). c.in_ok-fault.ensures.stages sums.held sums.total rows in
    let ruled = c.in_ok-fault.ensures.ruled in
    let all : c.push.new.self.items ≡ c.loop-one.answers.items ++ c.in-Ok.accepted ∷ [] =
    c.in_ok-push-in-Ok.ensures.items in
    let records = records_in c.args.records.now in
    record {
      ruled = record {
        rulings = ruled.rulings ∙ before.ruled.rulings;
        choices = ruled.choices ∙ before.ruled.choices;
        replaced = ruled.replaced ∙ before.ruled.replaced;
        credits = ruled.credits ∙ before.ruled.credits;
      };
      survives = survives_then before.survives (stages empty).survives;
      count = ap length all ∙ length-append c.loop-one.answers.items (c.in-Ok.accepted ∷ [])
          ∙ ap (λ n. n + 1) before.count;
      taken = λ rows clean book joined at.
          subst (λ answers. AreTaken c.args.came (before_entry sums.held sums.total rows)
          (g.N.Naming.name_of c.args.naming.now) records
          (records_in (drop (c.loop-one.one-index + 1) c.args.records.now)) c.stage_one.new.summary
          (g.S.Store.view c.args.tables.now.store) (g.S.Store.view c.stage_one.new.tables.store) book
          answers) (sym all)
          (step_taken c.args.records.now c.loop-one.one-index c.one-item.result c.loop-one-test.true
          c.one-item.is c.deref.ensures.value before.survives (before.taken rows)
          (state g.S.Store c.stage_one.new.tables.store) c.in-Ok.is (stages rows) clean book joined
          at);
    }

pub returns-in_err-fault-clause-stages : goal.returns-in_err-fault-clause-stages
returns-in_err-fault-clause-stages g c =
    λ rows.
    step_failed c.args.records.now c.loop-one.one-index c.one-item.result c.loop-one-test.true
    c.one-item.is c.deref.ensures.value c.loop-one.invariant.survives
    (c.loop-one.invariant.taken rows)
    (state g.S.Store c.stage_one.new.tables.store) c.loop-one.answers.items c.from_residual.result c.from_residual.ensures.0
    (c.in_err-fault.ensures.stages c.args.summary.now.held c.args.summary.now.total rows)

pub returns-in-Err-clause-stages : goal.returns-in-Err-clause-stages
returns-in-Err-clause-stages g c =
    λ rows.
    step_refused c.args.records.now c.loop-one.one-index c.one-item.result c.loop-one-test.true
    c.one-item.is c.deref.ensures.value c.loop-one.invariant.survives
    (c.loop-one.invariant.taken rows)
    (state g.S.Store c.stage_one.new.tables.store) c.in-Err.fault c.in-Err.is c.loop-one.invariant.count
    (c.in_ok-fault.ensures.stages c.args.summary.now.held c.args.summary.now.total rows)

pub returns-in_err-push-in-Ok-clause-stages : goal.returns-in_err-push-in-Ok-clause-stages
returns-in_err-push-in-Ok-clause-stages g c =
    λ rows.
    step_untold c.args.records.now c.loop-one.one-index c.one-item.result c.loop-one-test.true
    c.one-item.is c.deref.ensures.value c.loop-one.invariant.survives
    (c.loop-one.invariant.taken rows)
    (state g.S.Store c.stage_one.new.tables.store) c.push.new.self.items
    c.from_residual-in_err-push-in-Ok.result c.from_residual-in_err-push-in-Ok.ensures.0
    (c.in_ok-fault.ensures.stages c.args.summary.now.held c.args.summary.now.total rows)

pub returns-clause-stages : goal.returns-clause-stages
returns-clause-stages g c =
    λ rows.
    record {
      plain = record { stored = refl; served = refl };
      survives = c.loop-one.invariant.survives;
      found = λ clean book joined at.
          all_taken (c.loop-one.invariant.taken rows clean book joined at) (λ accepts empty. tt);
    }
