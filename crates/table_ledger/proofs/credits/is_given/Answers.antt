use Rattle.std.proofs.Common.{◌∙◌, Bool, ap}
use Rattle.book_model.proofs.Std.{list_any}
use Rattle.tree_tables.specs.Stored.{credit_entry}
use Rattle.tree_tables.specs.declared.credit_rows.StoredCredit.{StoredCredit}
use Rattle.table_ledger.specs.CreditReads.{is_given_as}
use Rattle.table_ledger.proofs.CreditTries.{among_kept}
use Rattle.table_ledger.proofs.TryLemmas.{looks_known, saw_found}
use Rattle.table_ledger.proofs.credits.is_given.Goals as goal

-- by all that were listed
pub returns : goal.returns
returns g c = record {
  looks =
      let test : StoredCredit → Bool =
      λ stored. is_given_as c.args.credit.now (credit_entry stored).1 in
      looks_known (saw_found c.in_ok-all.ensures.looks) (λ tables known.
      c.is_among.ensures ∙ ap (list_any test) c.deref.ensures.value
      ∙ among_kept c.args.credit.now c.in_ok-all.all.items tables known);
}
