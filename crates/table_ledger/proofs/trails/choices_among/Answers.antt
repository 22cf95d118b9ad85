use Rattle.std.proofs.Common.{◌∙◌, ap, map}
use Rattle.table_ledger.specs.TrailReads.{choice_told}
use Rattle.table_ledger.proofs.ChosenOrder.{choices_told}
use Rattle.table_ledger.proofs.TryLemmas.{looks_known, saw_found}
use Rattle.table_ledger.proofs.trails.choices_among.Goals as goal

pub returns : goal.returns
returns g c = record {
  looks = looks_known (saw_found c.in_ok-found.ensures.looks) (λ tables known identity lists.
      c.in_ok-told.ensures ∙ ap (map choice_told) c.deref.ensures.value
      ∙ choices_told identity tables c.args.rows.now lists c.in_ok-found.found.items
      c.in_ok-sorted.sorted.items known c.in_ok-sorted.ensures);
}
