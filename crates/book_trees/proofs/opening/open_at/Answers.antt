use Rattle.std.proofs.Common.{◌≡◌, subst, sym}
use Rattle.sqlite_store.specs.FileStore.{view}
use Rattle.sqlite_wal.specs.Recovery.{Image}
use Rattle.book_trees.specs.Forms.{HoldNoNewer, HoldsThisForm}
use Rattle.book_trees.specs.LedgerFiles.{HoldsBooks, trees_held}
use Rattle.book_trees.specs.Refusals.{IsToldWithout}
use Rattle.book_trees.specs.Schema.{books_schema}
use Rattle.book_trees.specs.StoreView.{AreLeft, ShowsBooks}
use Rattle.book_trees.proofs.FreshFiles.{as_found, fresh_image, fresh_images}
use Rattle.book_trees.proofs.opening.open_at.Goals as goal

pub open_files-requires-clause-left : goal.open_files-requires-clause-left
open_files-requires-clause-left g c clean =
    let fresh = c.in-Ok.ensures.fresh in
    subst AreLeft (sym (fresh_image g.S.Start.log g.S.Start.db fresh.0 fresh.1))
    g.met.S.LeftByLedger.left

pub returns-in-Ok-open_files-clause-found : goal.returns-in-Ok-open_files-clause-found
returns-in-Ok-open_files-clause-found g c clean =
    let fresh = c.in-Ok.ensures.fresh in
    subst (λ (i : Image). (held : HoldsBooks i) → (view c.in-Ok-open_files.store).trees
    ≡ trees_held held) (fresh_image g.S.Start.log g.S.Start.db fresh.0 fresh.1)
    (c.in-Ok-open_files.ensures.found clean)

pub returns-in-Ok-open_files-clause-read : goal.returns-in-Ok-open_files-clause-read
returns-in-Ok-open_files-clause-read g c clean =
    let fresh = c.in-Ok.ensures.fresh in
    subst (λ (i : Image). ShowsBooks i c.in-Ok-open_files.store)
    (fresh_image g.S.Start.log g.S.Start.db fresh.0 fresh.1)
    (c.in-Ok-open_files.ensures.read clean)

pub returns-in-Ok-open_files-clause-form : goal.returns-in-Ok-open_files-clause-form
returns-in-Ok-open_files-clause-form g c clean =
    let fresh = c.in-Ok.ensures.fresh in
    subst (HoldNoNewer books_schema) (fresh_image g.S.Start.log g.S.Start.db fresh.0 fresh.1)
    (c.in-Ok-open_files.ensures.form clean)

pub returns-in-Err-open_files-clause-there : goal.returns-in-Err-open_files-clause-there
returns-in-Err-open_files-clause-there g c clean =
    let fresh = c.in-Ok.ensures.fresh in
    subst (λ (i : Image). IsToldWithout (HoldsThisForm i) c.in-Err-open_files.fault)
    (fresh_image g.S.Start.log g.S.Start.db fresh.0 fresh.1)
    (c.in-Err-open_files.ensures.there clean)

pub returns-in-Err-open_files-clause-kept : goal.returns-in-Err-open_files-clause-kept
returns-in-Err-open_files-clause-kept g c left may =
    let fresh = c.in-Ok.ensures.fresh in
    as_found left (λ was. fresh_images g.S.Start.is_mixing g.S.Start.log g.S.Start.db fresh.0
    fresh.1 left was.1.0 was.1.1) (fresh_image g.S.Start.log g.S.Start.db fresh.0 fresh.1)
    ((c.in-Err-open_files.ensures.unharmed may.0).crash left may)
