use Rattle.std.proofs.Common.{List, subst}
use Rattle.table_ledger.proofs.Words.{StoredChoice, looks_after_look, IsLastOf}
use Rattle.table_ledger.proofs.DueCharges.{last_listed}
use Rattle.table_ledger.proofs.chosen.look_for_chosen.Goals as goal

-- the last of all choices that were listed
pub returns : goal.returns
returns g c = record {
  looks = looks_after_look c.last_of.result c.in_ok-choices.ensures.looks c.last_of.ensures.looks
      (λ tables chosen lists lasts.
      last_listed c.in_ok-choices.choices.items chosen tables lists
      (subst (λ (list : List StoredChoice). IsLastOf list tables.records chosen)
      c.deref.ensures.value lasts));
}
