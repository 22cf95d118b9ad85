use Rattle.std.proofs.Common.{◌≡◌, ◌++◌, ℕ, Vec, Global, map, take}
use Rattle.book_model.specs.Records.{name_of}
use Rattle.book_import.proofs.names_in_dumps.push_names.Given as goal

-- the names of the records so far have joined the others
abbrev pub invariant-loop-one : goal.invariant-loop-one
invariant-loop-one g l =
    l.names.items
    ≡ l.initial.names.items
    ++ map (λ (one : Vec ℕ Global). name_of (g.N.Naming.name_of l.naming) one.items)
    (take l.one-index l.usage)
