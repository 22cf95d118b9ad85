use Rattle.std.proofs.Common.{Ok, subst}
use Rattle.tree_rows.specs.Runs.{run_of}
use Rattle.tree_tables.specs.Answers.{FindsNamed}
use Rattle.tree_tables.specs.States.{state}
use Rattle.tree_tables.specs.Steps.{Looks}
use Rattle.tree_tables.proofs.Looking.{looks_after_look, looks_found}
use Rattle.tree_tables.proofs.RecordLists.{EndIn, mark_rows, uncharged_found}
use Rattle.tree_tables.proofs.tables.TreeTables.list_uncharged.Goals as goal

-- the names are those of the mark, and the records those of the names
pub returns : goal.returns
returns g c =
    let ghosts = g.S.Store in
    let key = c.number_key.new.key in
    let names = c.in_ok-names.names in
    let listed : Looks (Ok names) (state ghosts c.args.self.now.store)
    (state ghosts c.list_run.new.store)
    (λ tables names. EndIn (run_of key (mark_rows tables.records)) names.items) =
    looks_found ghosts c.list_run.ensures.quiet c.in_ok-names.ensures.same
    (λ clean tables holds. subst (λ rows. EndIn (run_of key rows) names.items)
    holds.marks (c.in_ok-names.ensures.found clean)) in
    record {
      looks = looks_after_look c.read_named.result listed c.read_named.ensures.looks
          (λ tables found ends all. uncharged_found tables key names.items found.items
          c.in_ok-number_key.ensures.made ends
          (subst (λ some. FindsNamed some tables found.items) c.deref.ensures.value all));
    }
