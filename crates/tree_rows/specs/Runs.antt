-- The rows of a tree that begin with given columns.
use Rattle.std.specs.Prelude.{ℕ, Bool, List, take_while}
use Rattle.std.specs.Ordering.{is_eq}
use Rattle.sqlite_trees.specs.Tree.{from_key}
use Rattle.sqlite_trees.specs.declared.store.Store.{Ghosts}
use Rattle.sqlite_value.specs.Keys.{plain, prefix_cmp}
use Rattle.sqlite_value.specs.Order.{Row}

-- whether the row begins with these columns
abbrev pub has_part : Row → Row → Bool
has_part part row = is_eq (prefix_cmp plain row part)

-- the rows that begin with these columns, one after the other as in a sorted tree
abbrev pub run_of : Row → List Row → List Row
run_of part rows = take_while (has_part part) (from_key plain part rows)

-- those of a tree of a store
abbrev pub run_in : {S : Type 0} → Ghosts S → S → ℕ → Row → List Row
run_in ghosts store tree part = run_of part ((ghosts.view store).trees tree)
