use Rattle.book_trees.proofs.OldTrees.{may_list_records, records_listed}
use Rattle.book_trees.proofs.Results.{on_ok}
use Rattle.book_trees.proofs.added_tables.list_records.Goals as goal

pub relist-requires-clause-numbered : goal.relist-requires-clause-numbered
relist-requires-clause-numbered g c clean = (c.requires clean).2.numbered

pub relist-requires-clause-each : goal.relist-requires-clause-each
relist-requires-clause-each g c clean =
    let grown = c.requires clean in (
      may_list_records c.record_object.result c.record_object.ensures grown.0 grown.1
          (g.S.Store.view c.args.store.now) grown.2,
      tt,
    )

pub returns-clause-done : goal.returns-clause-done
returns-clause-done g c =
    on_ok c.relist.result c.relist.ensures.ok (λ lists clean.
    records_listed c.record_object.result c.record_object.ensures
    (g.S.Store.view c.args.store.now) (g.S.Store.view c.relist.new.self) (lists clean))
