use Rattle.book_trees.proofs.OldTrees.{credits_made, room_for_credits}
use Rattle.book_trees.proofs.Results.{on_ok}
use Rattle.book_trees.proofs.added_tables.add_credits.Goals as goal

pub create-requires : goal.create-requires
create-requires g c clean =
    room_for_credits c.credit_object.result c.credit_object.ensures
    (g.S.Store.view c.args.store.now) (c.requires clean)

pub returns-clause-done : goal.returns-clause-done
returns-clause-done g c =
    on_ok c.create.result c.create.ensures.ok (λ creates clean.
    credits_made c.credit_object.result c.credit_object.ensures (g.S.Store.view c.args.store.now)
    (g.S.Store.view c.create.new.self) (creates clean))
