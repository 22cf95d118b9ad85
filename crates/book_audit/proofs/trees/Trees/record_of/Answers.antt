use Rattle.std.proofs.Common.{◌∷◌, [], rules, true}
use Rattle.sqlite_value.specs.declared.value.Value.TheVariants.{Blob}
use Rattle.tree_rows.specs.Rows.{Finds}
use Rattle.tree_tables.specs.Stored.{stored_entry}
use Rattle.book_audit.specs.Records.{row_with}
use Rattle.book_audit.proofs.Walks.Looks.{nothing, passed}
use Rattle.book_audit.proofs.trees.Trees.record_of.Goals as goal

pub returns-in_err-bytes_key-clause-looks : goal.returns-in_err-bytes_key-clause-looks
returns-in_err-bytes_key-clause-looks g c =
    let start = c.args.self.now.store in
    passed g.S.Store start start _ c.from_residual.ensures.0 (nothing g.S.Store start).quiet

pub returns-in_err-finds-clause-looks : goal.returns-in_err-finds-clause-looks
returns-in_err-finds-clause-looks g c =
    passed g.S.Store c.args.self.now.store c.finds.new.self.store _
    c.from_residual-in_err-finds.ensures.0 c.in_err-finds.ensures.looks

pub returns-then-not-branch-clause-looks : goal.returns-then-not-branch-clause-looks
returns-then-not-branch-clause-looks g c = c.in_ok-finds.ensures.looks

pub returns-in-Ok-clause-looks : goal.returns-in-Ok-clause-looks
returns-in-Ok-clause-looks g c = c.in_ok-finds.ensures.looks

pub returns-in-Err-clause-looks : goal.returns-in-Err-clause-looks
returns-in-Err-clause-looks g c = c.in_ok-finds.ensures.looks.quiet

-- the row that was found is that of the record
pub returns-in-Ok-clause-held : goal.returns-in-Ok-clause-held
returns-in-Ok-clause-held g c clean =
    let one = c.in-Ok.one in
    let looked = c.in_ok-finds.ensures.found clean in
    let found : Finds (Blob c.args.name.now ∷ []) ((g.S.Store.view c.args.self.now.store).trees 3)
    (row_with (stored_entry one.record) one.came) true = search (rules, looked) in
    record { came = one.came; found = found }
