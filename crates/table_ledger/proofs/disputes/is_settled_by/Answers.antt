use Rattle.std.proofs.Common.{◌∙◌, ◌||◌, ap, sym}
use Rattle.std.proofs.Math.Bool.{or-false, or-true}
use Rattle.book_model.proofs.Std.{list_any}
use Rattle.table_model.specs.Words.{rows_with}
use Rattle.table_ledger.proofs.TryLemmas.{looks_known, saw_found, saw_none}
use Rattle.table_ledger.proofs.Words.{is_charged}
use Rattle.table_ledger.proofs.disputes.is_settled_by.Goals as goal

-- it is withheld
pub returns-then-withholds : goal.returns-then-withholds
returns-then-withholds g c = record {
  looks = looks_known saw_none (λ tables nothing lasts.
      let identity = c.args.identity.now in
      let charged = list_any is_charged (rows_with identity tables.records) in
      sym (ap (λ b. charged || b)
      (sym (lasts identity).withheld ∙ sym c.withholds.ensures ∙ c.if-withholds.true)
      ∙ or-true charged));
}

-- else a record of it is charged, or none is
pub returns : goal.returns
returns g c = record {
  looks = looks_known (saw_found c.in_ok-charged.ensures.looks) (λ tables known lasts.
      let identity = c.args.identity.now in
      let charged = list_any is_charged (rows_with identity tables.records) in
      known
      ∙ sym (ap (λ b. charged || b)
      (sym (lasts identity).withheld ∙ sym c.withholds.ensures ∙ c.if-withholds.false)
      ∙ or-false charged));
}
