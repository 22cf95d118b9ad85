use Rattle.std.proofs.Common.{◌∙◌, ap, map}
use Rattle.table_ledger.proofs.Words.{looks_after_look, stored_entry}
use Rattle.table_ledger.proofs.withheld.choices_of.Goals as goal

-- those of all records that were listed
pub returns : goal.returns
returns g c = record {
  looks = looks_after_look c.choices_among.result c.in_ok-rows.ensures.looks
      c.choices_among.ensures.looks (λ tables choices lists kin.
      kin c.args.identity.now (ap (map stored_entry) c.deref.ensures.value ∙ lists));
}
