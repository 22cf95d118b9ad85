use Rattle.std.proofs.Common.{Ok, subst}
use Rattle.tree_rows.specs.Runs.{run_of}
use Rattle.tree_tables.specs.Answers.{FindsNamed}
use Rattle.tree_tables.specs.States.{state}
use Rattle.tree_tables.specs.Steps.{Looks}
use Rattle.tree_tables.proofs.IdentityLooks.{sharing_listed}
use Rattle.tree_tables.proofs.Looking.{looks_after_look, looks_found}
use Rattle.tree_tables.proofs.RecordLists.{EndIn, identity_rows}
use Rattle.tree_tables.proofs.tables.TreeTables.list_sharing.Goals as goal

-- the names are those of the identity, and the records those of the names
pub returns : goal.returns
returns g c =
    let ghosts = g.S.Store in
    let identity = c.args.identity.now in
    let key = c.bytes_key.new.key in
    let made = c.in_ok-bytes_key.ensures.made in
    let names = c.in_ok-names.names in
    let listed : Looks (Ok names) (state ghosts c.args.self.now.store)
    (state ghosts c.list_run.new.store)
    (λ tables names. EndIn (run_of key (identity_rows tables.records)) names.items) =
    looks_found ghosts c.list_run.ensures.quiet c.in_ok-names.ensures.same
    (λ clean tables holds. subst (λ rows. EndIn (run_of key rows) names.items)
    holds.identity_index (c.in_ok-names.ensures.found clean)) in
    record {
      looks = looks_after_look c.read_named.result listed c.read_named.ensures.looks
          (λ tables found ends all. sharing_listed tables identity key made names.items
          found.items ends
          (subst (λ some. FindsNamed some tables found.items) c.deref.ensures.value all));
    }
