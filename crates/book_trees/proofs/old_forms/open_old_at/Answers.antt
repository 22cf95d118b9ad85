use Rattle.std.proofs.Common.{◌≡◌, subst, sym}
use Rattle.sqlite_store.specs.FileStore.{view}
use Rattle.sqlite_wal.specs.Recovery.{Image}
use Rattle.book_trees.proofs.FreshFiles.{as_found, fresh_image, fresh_images}
use Rattle.book_trees.specs.OldForms.{old_opening, HoldsOldForm, OldNoNewer}
use Rattle.book_trees.specs.LedgerFiles.{HoldsBooks, HoldsOldBooks, old_trees}
use Rattle.book_trees.specs.Refusals.{IsToldWithout}
use Rattle.book_trees.proofs.old_forms.open_old_at.Goals as goal

-- the store is one of the older form that was found
pub returns-in-Ok-open_old_files-clause-ready : goal.returns-in-Ok-open_old_files-clause-ready
returns-in-Ok-open_old_files-clause-ready g c = c.in-Ok-open_old_files.ensures.opened.1.ready

pub returns-in-Ok-open_old_files-clause-schema : goal.returns-in-Ok-open_old_files-clause-schema
returns-in-Ok-open_old_files-clause-schema g c =
    let opened = c.in-Ok-open_old_files.ensures.opened in (opened.0, opened.1.schema)

pub returns-in-Ok-open_old_files-clause-trees : goal.returns-in-Ok-open_old_files-clause-trees
returns-in-Ok-open_old_files-clause-trees g c = c.in-Ok-open_old_files.ensures.opened.1.trees

pub returns-in-Ok-open_old_files-clause-size : goal.returns-in-Ok-open_old_files-clause-size
returns-in-Ok-open_old_files-clause-size g c = c.in-Ok-open_old_files.ensures.opened.1.size

pub returns-in-Ok-open_old_files-clause-found : goal.returns-in-Ok-open_old_files-clause-found
returns-in-Ok-open_old_files-clause-found g c clean =
    let fresh = c.in-Ok.ensures.fresh in
    subst (λ (i : Image). (held : HoldsOldBooks i) → (view c.in-Ok-open_old_files.store).trees
    ≡ old_trees held) (fresh_image g.S.Start.log g.S.Start.db fresh.0 fresh.1)
    (c.in-Ok-open_old_files.ensures.found clean)

pub returns-in-Ok-open_old_files-clause-older : goal.returns-in-Ok-open_old_files-clause-older
returns-in-Ok-open_old_files-clause-older g c clean held =
    let fresh = c.in-Ok.ensures.fresh in
    c.in-Ok-open_old_files.ensures.older clean
    (subst HoldsBooks (sym (fresh_image g.S.Start.log g.S.Start.db fresh.0 fresh.1)) held)

pub returns-in-Ok-open_old_files-clause-form : goal.returns-in-Ok-open_old_files-clause-form
returns-in-Ok-open_old_files-clause-form g c clean =
    let fresh = c.in-Ok.ensures.fresh in
    subst OldNoNewer (fresh_image g.S.Start.log g.S.Start.db fresh.0 fresh.1)
    (c.in-Ok-open_old_files.ensures.form clean)

pub returns-in-Err-open_old_files-clause-kept : goal.returns-in-Err-open_old_files-clause-kept
returns-in-Err-open_old_files-clause-kept g c left may =
    let fresh = c.in-Ok.ensures.fresh in
    as_found left (λ was. fresh_images g.S.Start.is_mixing g.S.Start.log g.S.Start.db fresh.0
    fresh.1 left was.1.0 was.1.1) (fresh_image g.S.Start.log g.S.Start.db fresh.0 fresh.1)
    ((c.in-Err-open_old_files.ensures.unharmed may.0).crash left may)

pub returns-in-Err-open_old_files-clause-there : goal.returns-in-Err-open_old_files-clause-there
returns-in-Err-open_old_files-clause-there g c clean =
    let fresh = c.in-Ok.ensures.fresh in
    subst (λ (i : Image). IsToldWithout (HoldsOldForm i)
    (old_opening c.in-Err-open_old_files.fault))
    (fresh_image g.S.Start.log g.S.Start.db fresh.0 fresh.1)
    (c.in-Err-open_old_files.ensures.there clean)

pub returns-in-Err-open_old_files-clause-this : goal.returns-in-Err-open_old_files-clause-this
returns-in-Err-open_old_files-clause-this g c other clean =
    let fresh = c.in-Ok.ensures.fresh in
    subst (λ (i : Image). IsToldWithout (HoldsBooks i)
    (old_opening c.in-Err-open_old_files.fault))
    (fresh_image g.S.Start.log g.S.Start.db fresh.0 fresh.1)
    (c.in-Err-open_old_files.ensures.this other clean)
