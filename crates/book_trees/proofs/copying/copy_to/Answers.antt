use Rattle.std.proofs.Common.{◌≡◌, subst}
use Rattle.sqlite_store.specs.FileStore.{view}
use Rattle.sqlite_wal.specs.Recovery.{Image}
use Rattle.book_trees.proofs.CopyLemmas.{copied_image}
use Rattle.book_trees.specs.Forms.{HoldNoNewer, HoldsThisForm}
use Rattle.book_trees.specs.LedgerFiles.{HoldsBooks, trees_held}
use Rattle.book_trees.specs.Looks.{look_opening}
use Rattle.book_trees.specs.Refusals.{IsToldWithout}
use Rattle.book_trees.specs.Schema.{books_schema}
use Rattle.book_trees.proofs.copying.copy_to.Goals as goal

pub returns-in-Ok-look_through-clause-found : goal.returns-in-Ok-look_through-clause-found
returns-in-Ok-look_through-clause-found g c clean honest =
    subst (λ (i : Image). (held : HoldsBooks i) → (view c.in-Ok-look_through.store).trees
    ≡ trees_held held)
    (copied_image c.args.from.now c.copy_files.new.from c.copy_files.new.to
    c.copy_files.ensures.read c.in-Ok-copy_files.ensures.copied honest)
    (c.in-Ok-look_through.ensures.found clean)

pub returns-in-Ok-look_through-clause-form : goal.returns-in-Ok-look_through-clause-form
returns-in-Ok-look_through-clause-form g c clean honest =
    subst (HoldNoNewer books_schema)
    (copied_image c.args.from.now c.copy_files.new.from c.copy_files.new.to
    c.copy_files.ensures.read c.in-Ok-copy_files.ensures.copied honest)
    (c.in-Ok-look_through.ensures.form clean)

pub returns-in-Ok-look_through-clause-books : goal.returns-in-Ok-look_through-clause-books
returns-in-Ok-look_through-clause-books g c clean honest =
    subst (λ (i : Image). ∥ HoldsBooks i ∥₁)
    (copied_image c.args.from.now c.copy_files.new.from c.copy_files.new.to
    c.copy_files.ensures.read c.in-Ok-copy_files.ensures.copied honest)
    (c.in-Ok-look_through.ensures.held clean)

pub returns-in-Err-look_through-clause-there : goal.returns-in-Err-look_through-clause-there
returns-in-Err-look_through-clause-there g c = λ honest clean.
    subst (λ (i : Image). IsToldWithout (HoldsThisForm i)
    (look_opening c.in-Err-look_through.fault))
    (copied_image c.args.from.now c.copy_files.new.from c.copy_files.new.to
    c.copy_files.ensures.read c.in-Ok-copy_files.ensures.copied honest)
    (c.in-Err-look_through.ensures.there clean)
