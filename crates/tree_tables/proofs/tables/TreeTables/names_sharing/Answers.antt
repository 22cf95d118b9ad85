use Rattle.std.proofs.Common.{take, subst}
use Rattle.tree_rows.specs.Runs.{run_of}
use Rattle.tree_tables.proofs.IdentityLooks.{two_names}
use Rattle.tree_tables.proofs.Looking.{looks_alone}
use Rattle.tree_tables.proofs.RecordLists.{EndIn}
use Rattle.tree_tables.proofs.tables.TreeTables.names_sharing.Goals as goal

-- the names are those of the identity
pub returns : goal.returns
returns g c =
    let key = c.bytes_key.new.key in
    record {
      looks = looks_alone g.S.Store c.list_first.result c.list_first.ensures.quiet
          c.list_first.ensures.same c.list_first.ensures.kept c.list_first.ensures.found
          (λ names ends clean tables holds. two_names tables c.args.identity.now key
          c.in_ok-bytes_key.ensures.made names.items
          (subst (λ rows. EndIn (take 2 (run_of key rows)) names.items) holds.identity_index
          ends));
    }
