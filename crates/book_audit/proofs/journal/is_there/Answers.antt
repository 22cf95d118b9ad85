use Rattle.std.proofs.Common.{◌≡◌, ◌∙◌, ◌∷◌, [], ℤ, List, None, Some, of_z, sym, subst, to_z, true}
use Rattle.std.proofs.Common.{w64}
use Rattle.std.proofs.lemmas.Int.{to_z-of_z}
use Rattle.sqlite_trees.specs.Tree.{Trees}
use Rattle.sqlite_value.specs.Order.{Row}
use Rattle.sqlite_value.specs.declared.value.Value.TheVariants.{Int}
use Rattle.book_model.specs.Words.{place_shown}
use Rattle.tree_rows.specs.Rows.{Finds}
use Rattle.tree_tables.specs.JournalColumns.{place_number}
use Rattle.book_audit.specs.Journal.{IsIn, tree_of}
use Rattle.book_audit.specs.Trees.{tree_number}
use Rattle.book_audit.proofs.Walks.Looks.{nothing, passed}
use Rattle.book_audit.proofs.journal.is_there.Goals as goal

-- the adoption is there if there was one
pub returns-in_default-clause-there : goal.returns-in_default-clause-there
returns-in_default-clause-there g c clean so =
    let place = place_shown c.args.place in
    let none : tree_of place ≡ None = sym c.tree_of.ensures ∙ c.in_default.is in
    subst (IsIn (g.S.Store.view c.args.trees.now.store).trees c.args.rule place) (sym none)
    (sym c.is_adopted.ensures ∙ so)

pub returns-in_default-clause-looks : goal.returns-in_default-clause-looks
returns-in_default-clause-looks g c = nothing g.S.Store c.args.trees.now.store

-- another ruling is there if its tree has its number
pub returns-clause-there : goal.returns-clause-there
returns-clause-there g c clean so =
    let trees : Trees = (g.S.Store.view c.args.trees.now.store).trees in
    let place = place_shown c.args.place in
    let tree = c.in-Some.tree in
    let row : Row = c.has_number.new.self.found in
    let some : tree_of place ≡ Some tree = sym c.tree_of.ensures ∙ c.in-Some.is in
    let rows : List Row = trees (tree_number tree) in
    let number : ℤ = c.place_number.result in
    let kept = to_z-of_z w64 number (record { sfits = c.place_number.type_inv }) in
    let finds : Finds (Int (place_number place) ∷ []) rows row true =
    subst (λ (n : ℤ). Finds (Int n ∷ []) rows row true) (kept ∙ c.place_number.ensures)
    (subst (Finds (Int (to_z w64 (of_z w64 number)) ∷ []) rows row) so
    (c.in_ok-has.ensures.found clean)) in
    subst (IsIn trees c.args.rule place) (sym some) (record { row = row; finds = finds })

pub returns-in_err-has-clause-looks : goal.returns-in_err-has-clause-looks
returns-in_err-has-clause-looks g c =
    passed g.S.Store c.args.trees.now.store c.has_number.new.self.store _ c.from_residual.ensures.0
    c.in_err-has.ensures.looks

pub returns-clause-looks : goal.returns-clause-looks
returns-clause-looks g c = c.in_ok-has.ensures.looks
