use Rattle.std.proofs.Common.{ℕ, List, subst, sym, IsPermutation}
use Rattle.table_ledger.proofs.PostedDetails.{posted_order}
use Rattle.table_ledger.proofs.StepLemmas.{does_so}
use Rattle.table_ledger.proofs.close.post_names.Goals as goal

-- in another order they are posted all the same
pub returns : goal.returns
returns g c =
    let through = c.args.close.now.through in
    does_so c.post_each.result c.post_each.ensures (λ tables always. (
      tt,
      posted_order through c.args.names.items c.deref.result.now tables
          (subst (λ (names : List (List ℕ)). IsPermutation c.args.names.items names)
          (sym c.deref.ensures.value) c.sort_unstable.ensures.permutation),
    ))
