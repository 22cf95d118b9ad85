use Rattle.std.proofs.Common.{◌∙◌, ap}
use Rattle.table_ledger.proofs.TryLemmas.{looks_known, saw_found}
use Rattle.table_ledger.proofs.WithheldReads.{one_says, says_none}
use Rattle.table_ledger.proofs.withheld.was_withheld.Goals as goal

-- by any of the choices that were found
pub returns : goal.returns
returns g c = record {
  looks = looks_known (saw_found c.in_ok-choices.ensures.looks) (λ tables known.
      c.has_none.ensures ∙ ap says_none (c.deref.ensures.value ∙ known)
      ∙ one_says c.args.identity.now tables);
}
