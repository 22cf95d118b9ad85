use Rattle.std.proofs.Common.{◌≡◌, subst}
use Rattle.sqlite_store.specs.FileStore.{view}
use Rattle.sqlite_wal.specs.Recovery.{Image}
use Rattle.book_trees.proofs.FreshFiles.{as_found, fresh_image, fresh_images}
use Rattle.book_trees.specs.Forms.{HoldNoNewer, HoldsThisForm}
use Rattle.book_trees.specs.LedgerFiles.{HoldsBooks, trees_held}
use Rattle.book_trees.specs.Looks.{look_opening}
use Rattle.book_trees.specs.Refusals.{IsToldWithout}
use Rattle.book_trees.specs.Schema.{books_schema}
use Rattle.book_trees.proofs.integrity.look_through_at.Goals as goal

pub returns-in-Ok-look_through-clause-found : goal.returns-in-Ok-look_through-clause-found
returns-in-Ok-look_through-clause-found g c clean =
    let fresh = c.in-Ok.ensures.fresh in
    subst (λ (i : Image). (held : HoldsBooks i) → (view c.in-Ok-look_through.store).trees
    ≡ trees_held held) (fresh_image g.S.Start.log g.S.Start.db fresh.0 fresh.1)
    (c.in-Ok-look_through.ensures.found clean)

pub returns-in-Ok-look_through-clause-form : goal.returns-in-Ok-look_through-clause-form
returns-in-Ok-look_through-clause-form g c clean =
    let fresh = c.in-Ok.ensures.fresh in
    subst (HoldNoNewer books_schema) (fresh_image g.S.Start.log g.S.Start.db fresh.0 fresh.1)
    (c.in-Ok-look_through.ensures.form clean)

pub returns-in-Err-look_through-clause-there : goal.returns-in-Err-look_through-clause-there
returns-in-Err-look_through-clause-there g c clean =
    let fresh = c.in-Ok.ensures.fresh in
    subst (λ (i : Image). IsToldWithout (HoldsThisForm i)
    (look_opening c.in-Err-look_through.fault))
    (fresh_image g.S.Start.log g.S.Start.db fresh.0 fresh.1)
    (c.in-Err-look_through.ensures.there clean)

pub returns-in-Err-look_through-clause-kept : goal.returns-in-Err-look_through-clause-kept
returns-in-Err-look_through-clause-kept g c left may =
    let fresh = c.in-Ok.ensures.fresh in
    as_found left (λ was. fresh_images g.S.Start.is_mixing g.S.Start.log g.S.Start.db fresh.0
    fresh.1 left was.1.0 was.1.1) (fresh_image g.S.Start.log g.S.Start.db fresh.0 fresh.1)
    ((c.in-Err-look_through.ensures.unharmed may.0).crash left may)
