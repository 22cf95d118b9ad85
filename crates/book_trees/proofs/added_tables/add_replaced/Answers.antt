use Rattle.book_trees.proofs.OldTrees.{replaced_made, room_for_replaced}
use Rattle.book_trees.proofs.Results.{on_ok}
use Rattle.book_trees.proofs.added_tables.add_replaced.Goals as goal

pub create-requires : goal.create-requires
create-requires g c clean =
    room_for_replaced c.replaced_object.result c.replaced_object.ensures
    (g.S.Store.view c.args.store.now) (c.requires clean)

pub returns-clause-done : goal.returns-clause-done
returns-clause-done g c =
    on_ok c.create.result c.create.ensures.ok (λ creates clean.
    replaced_made c.replaced_object.result c.replaced_object.ensures
    (g.S.Store.view c.args.store.now) (g.S.Store.view c.create.new.self) (creates clean))
