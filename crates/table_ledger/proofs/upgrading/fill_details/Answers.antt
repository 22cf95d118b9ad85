use Rattle.std.proofs.Common.{◌≡◌, List, subst, sym, IsPermutation}
use Rattle.table_ledger.specs.OldForms.{names_of, names_read, uncounted}
use Rattle.table_ledger.specs.declared.upgrading.Counted.{Counted}
use Rattle.table_ledger.proofs.CountedList.{details_told}
use Rattle.table_ledger.proofs.StageLemmas.{does_seen}
use Rattle.table_ledger.proofs.StepLemmas.{does_so}
use Rattle.table_ledger.proofs.TryLemmas.{saw_found}
use Rattle.table_ledger.proofs.upgrading.fill_details.Goals as goal

-- each record that was found is counted
pub returns-clause-does : goal.returns-clause-does
returns-clause-does g c =
    does_seen {When = λ tables. tables ≡ uncounted tables} c.count_each.result
    (saw_found c.in_ok-all.ensures.looks)
    (does_so c.count_each.result c.count_each.ensures.does (λ tables known. (
      tt,
      details_told (names_of c.deref.result.now) tables known.0
          (subst (λ (all : List Counted). IsPermutation (names_of all) (names_read tables))
          (sym c.deref.ensures.value) known.1),
    )))
