-- The trees of books that a store in memory was made with.
use Rattle.std.proofs.Common.{◌≡◌, Result, Ok, Err, replicate, sym, ap}
use Rattle.std.specs.Prelude.{IfOk}
use Rattle.std.specs.declared.alloc.AllocError.{AllocError}
use Rattle.sqlite_trees.specs.Memory.{memory_view, memory_is_unaltered}
use Rattle.sqlite_trees.specs.Objects.{catalog_tree, set_at, version_tree}
use Rattle.sqlite_trees.specs.Tree.{Trees}
use Rattle.sqlite_trees.specs.View.{shapes_of}
use Rattle.sqlite_trees.specs.declared.memory.MemStore.{MemStore}
use Rattle.sqlite_trees.specs.declared.schema.Object.{Object}
use Rattle.sqlite_trees.specs.declared.store.Shape.TheVariants.{Index, Table}
use Rattle.sqlite_value.specs.Keys.{plain}
use Rattle.tree_tables.specs.Holds.{HasShapes, tree_count}

-- a store with as many trees of one kind, sorted by their rows, has the trees of books
pub has_shapes : (one : Object) (result : Result MemStore AllocError) → one.shape ≡ Index plain
    → IfOk result (λ store. (memory_view store).shape
    ≡ set_at (set_at (shapes_of (replicate tree_count one)) catalog_tree Table) version_tree Table)
    → IfOk result (λ store. (memory_view store).trees ≡ (memory_view store).committed)
    → IfOk result (λ store. HasShapes (memory_view store))
has_shapes one (Err error) sorted shape clean = tt
has_shapes one (Ok store) sorted shape clean =
    let kept : (memory_view store).committed_shape ≡ (memory_view store).shape =
    sym (memory_is_unaltered store (ap (λ (t : Trees). t catalog_tree) clean)).0 in
    search (shape, kept)
