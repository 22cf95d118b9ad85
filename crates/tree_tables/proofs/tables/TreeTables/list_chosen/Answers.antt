use Rattle.std.proofs.Common.{Ok, subst}
use Rattle.tree_rows.specs.Runs.{run_of}
use Rattle.tree_tables.specs.Answers.{FindsNumbered}
use Rattle.tree_tables.specs.States.{state}
use Rattle.tree_tables.specs.Steps.{Looks}
use Rattle.tree_tables.proofs.ChosenLists.{SayNumbers, chosen_listed}
use Rattle.tree_tables.proofs.ChosenNames.{name_rows}
use Rattle.tree_tables.proofs.Looking.{looks_after_look, looks_found}
use Rattle.tree_tables.proofs.tables.TreeTables.list_chosen.Goals as goal

-- the numbers are those of the choices that name the record, and the choices those of the numbers
pub returns : goal.returns
returns g c =
    let ghosts = g.S.Store in
    let name = c.args.name.now in
    let key = c.bytes_key.new.key in
    let made = c.in_ok-bytes_key.ensures.made in
    let numbers = c.in_ok-numbers.numbers in
    let listed : Looks (Ok numbers) (state ghosts c.args.self.now.store)
    (state ghosts c.list_run.new.store)
    (λ tables numbers. SayNumbers (run_of key (name_rows tables.choices)) numbers.items) =
    looks_found ghosts c.list_run.ensures.quiet c.in_ok-numbers.ensures.same
    (λ clean tables holds. subst (λ rows. SayNumbers (run_of key rows) numbers.items)
    holds.choice_name_index (c.in_ok-numbers.ensures.found clean)) in
    record {
      looks = looks_after_look c.read_numbered.result listed c.read_numbered.ensures.looks
          (λ tables found says all. chosen_listed tables name key made numbers.items found.items
          says (subst (λ some. FindsNumbered some tables found.items) c.deref.ensures.value all));
    }
