use Rattle.std.proofs.Common.{List, subst}
use Rattle.std.proofs.Math.Logic.{∥∥₁_map}
use Rattle.sqlite_store.specs.FileStore.{recovers}
use Rattle.sqlite_store.specs.declared.catalog.Wanted.{Wanted}
use Rattle.book_trees.specs.LedgerFiles.{HoldsTables, trees_held}
use Rattle.book_trees.proofs.closing.close_old.Goals as goal

pub returns-clause-left : goal.returns-clause-left
returns-clause-left g c kept image found =
    ∥∥₁_map (subst (λ (wanted : List Wanted). ∥ ((held : HoldsTables wanted image)
    × recovers c.args.store (trees_held held)) ∥₁) c.old_objects.ensures
    (c.close_moved.ensures.left kept image found))
    λ one. (record { form = c.args.form; held = one.0 }, one.1)
