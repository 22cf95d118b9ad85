use Rattle.std.proofs.Common.{◌∙◌}
use Rattle.tree_tables.proofs.IdentityLooks.{sharing_counted}
use Rattle.tree_tables.proofs.Looking.{looks_so}
use Rattle.tree_tables.proofs.tables.TreeTables.count_sharing.Goals as goal

-- there are as many names as records
pub returns : goal.returns
returns g c =
    let names = c.in_ok-names.names in
    record {
      looks = looks_so c.in_ok-names.ensures.looks (λ tables named. c.len.ensures ∙ names.ok.0
          ∙ sharing_counted c.args.identity.now tables names.items named);
    }
