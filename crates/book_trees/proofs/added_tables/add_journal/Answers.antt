use Rattle.book_trees.proofs.OldTrees.{journal_made, room_for_journal}
use Rattle.book_trees.proofs.Results.{on_ok}
use Rattle.book_trees.proofs.added_tables.add_journal.Goals as goal

pub create-requires : goal.create-requires
create-requires g c clean =
    room_for_journal c.journal_object.result c.journal_object.ensures
    (g.S.Store.view c.args.store.now) (c.requires clean)

pub returns-clause-done : goal.returns-clause-done
returns-clause-done g c =
    on_ok c.create.result c.create.ensures.ok (λ creates clean.
    journal_made c.journal_object.result c.journal_object.ensures
    (g.S.Store.view c.args.store.now) (g.S.Store.view c.create.new.self) (creates clean))

pub returns-clause-sound : goal.returns-clause-sound
returns-clause-sound g c =
    on_ok c.create.result c.create.ensures.ok (λ creates clean. (creates clean).sound)
