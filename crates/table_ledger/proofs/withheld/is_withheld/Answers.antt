use Rattle.std.proofs.Common.{◌∙◌, ap}
use Rattle.table_ledger.proofs.TryLemmas.{looks_known, saw_found}
use Rattle.table_ledger.proofs.WithheldReads.{ends_as, last_says}
use Rattle.table_ledger.proofs.withheld.is_withheld.Goals as goal

-- by the last of the choices that were found
pub returns : goal.returns
returns g c = record {
  looks = looks_known (saw_found c.in_ok-choices.ensures.looks) (λ tables known.
      c.ends_in_none.ensures ∙ ap ends_as (c.deref.ensures.value ∙ known)
      ∙ last_says c.args.identity.now tables);
}
