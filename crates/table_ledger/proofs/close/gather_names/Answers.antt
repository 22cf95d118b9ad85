use Rattle.std.proofs.Common.{◌++◌, ◌∷◌, [], ℕ, List, Some}
use Rattle.book_model.proofs.Lemmas.{day_kept}
use Rattle.table_ledger.proofs.PostedDetails.{GatheredSo, gathered_on}
use Rattle.table_ledger.proofs.TryLemmas.{saw_found, saw_so, saw_then}
use Rattle.table_ledger.proofs.close.gather_names.Goals as goal

-- its name is gathered
pub details-preserved : goal.details-preserved
details-preserved g c =
    let through = c.args.close.now.through in
    let day = day_kept through c.requires in
    let found = c.in-Some.detail in
    let names : List (List ℕ) = c.details.names.items in
    rw c.in_ok-push.ensures.items
    (saw_so {Other = GatheredSo c.args.last through c.args.passed.now (Some found)
    (names ++ found.name ∷ [])} (saw_then c.details.invariant
    (saw_found (rw (day, c.in-Some.is) at c.in_ok-detail.ensures.looks)))
    (λ tables known. gathered_on c.args.last through c.args.passed.now c.details.passed names
    tables known.0 found known.1))
