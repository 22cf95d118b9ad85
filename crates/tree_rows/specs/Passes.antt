-- A pass over all rows of a tree: what its cursor has left.
use Rattle.std.specs.Prelude.{◌≡◌, IsSome, List, Some}
use Rattle.sqlite_trees.specs.View.{View}
use Rattle.sqlite_value.specs.Order.{Row}
use Rattle.tree_rows.specs.declared.pass.TheConstants.{PASS}

-- a pass was started
abbrev pub IsPassing : View → Type 0
IsPassing view = IsSome (view.cursors PASS)

-- these rows are still to come in it
abbrev pub HasLeft : View → List Row → Type 0
HasLeft view rows = view.cursors PASS ≡ Some rows
