use Rattle.std.proofs.Common.{◌∙◌, ap, subst, sym}
use Rattle.tree_tables.specs.Answers.{CountsSharing}
use Rattle.table_ledger.specs.Adoptions.{is_last, withholds}
use Rattle.table_ledger.proofs.DueCharges.{due_alone, due_last, due_withheld}
use Rattle.table_ledger.proofs.TryLemmas.{looks_known, saw_found, saw_none}
use Rattle.table_ledger.proofs.adoption.is_due.Goals as goal

-- its work is withheld
pub returns-then-withholds : goal.returns-then-withholds
returns-then-withholds g c = record {
  looks = looks_known saw_none (λ tables nothing as_read lasts.
      due_withheld c.args.chosen.now tables c.args.stored.now as_read lasts
      (ap (withholds c.args.chosen.now) (sym c.deref.ensures.value) ∙ sym c.withholds.ensures
      ∙ c.if-withholds.true));
}

-- it was named last
pub returns-then-is_last : goal.returns-then-is_last
returns-then-is_last g c = record {
  looks = looks_known saw_none (λ tables nothing as_read lasts.
      due_last c.args.chosen.now tables c.args.stored.now as_read lasts
      (ap (withholds c.args.chosen.now) (sym c.deref.ensures.value) ∙ sym c.withholds.ensures
      ∙ c.if-withholds.false)
      (ap (λ its. is_last c.args.chosen.now its c.args.stored.now.name)
      (sym c.deref-2.ensures.value) ∙ sym c.is_last.ensures ∙ c.if-is_last.true));
}

-- it is alone, or it is not
pub returns : goal.returns
returns g c = record {
  looks = looks_known (saw_found c.in_ok-sharing.ensures.looks) (λ tables known as_read lasts.
      due_alone c.args.chosen.now tables c.args.stored.now as_read lasts
      (ap (withholds c.args.chosen.now) (sym c.deref.ensures.value) ∙ sym c.withholds.ensures
      ∙ c.if-withholds.false)
      (ap (λ its. is_last c.args.chosen.now its c.args.stored.now.name)
      (sym c.deref-2.ensures.value) ∙ sym c.is_last.ensures ∙ c.if-is_last.false)
      c.in_ok-sharing.sharing
      (subst (λ its. CountsSharing its tables c.in_ok-sharing.sharing) c.deref-3.ensures.value
      known));
}
