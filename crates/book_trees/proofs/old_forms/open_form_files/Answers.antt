use Rattle.std.proofs.Common.{inr, refl, sym, subst}
use Rattle.sqlite_store.specs.Unopened.{image}
use Rattle.sqlite_wal.specs.Recovery.{Image}
use Rattle.book_trees.proofs.FileParts.{end_honest, files_kept, first_honest, first_image}
use Rattle.book_trees.proofs.FileParts.{honest_given}
use Rattle.book_trees.proofs.FileParts.{kept_still, shows_given, store_honest, store_kept}
use Rattle.book_trees.proofs.FormNumbers.{newer_refused, none_newer}
use Rattle.book_trees.proofs.Refused.{told_so}
use Rattle.book_trees.proofs.ToldLemmas.{old_still_told, told_already, told_not_this}
use Rattle.book_trees.specs.OldForms.{old_opening, HoldsForm}
use Rattle.book_trees.specs.LedgerFiles.{image_of, HoldsBooks, HoldsTables}
use Rattle.book_trees.specs.Schema.{old_schema}
use Rattle.book_trees.specs.StoreView.{ListsBooks}
use Rattle.book_trees.proofs.old_forms.open_form_files.Goals as goal

pub returns-clause-honest : goal.returns-clause-honest
returns-clause-honest g c =
    honest_given c.in-Ok.files c.in-Ok-open_form.store c.args.files c.in-Ok.ensures.files
    c.in-Ok-open_form.ensures.honest

pub returns-clause-found : goal.returns-clause-found
returns-clause-found g c =
    shows_given c.in-Ok.files c.in-Ok-open_form.store c.args.files c.in-Ok.ensures.files
    c.in-Ok-open_form.ensures.found

pub returns-clause-older : goal.returns-clause-older
returns-clause-older g c clean held =
    let given = c.in-Ok.ensures.files in
    let old = c.in-Ok.files in
    let first = c.args.files in
    c.in-Ok-open_form.ensures.older clean
    (subst HoldsBooks (sym (first_image old old first first given (sym given))) held)

-- what is opened does not say that it is of a newer form
pub returns-clause-form : goal.returns-clause-form
returns-clause-form g c =
    none_newer c.in-Ok.files c.in-Ok-open_form.store c.args.files c.in-Ok.ensures.files
    c.in-Ok-open_form.ensures.opened.ready c.in-Ok-open_form.ensures.found
    (c.says_newer.ensures.other c.if-says_newer.false)

pub returns-clause-held : goal.returns-clause-held
returns-clause-held g c clean =
    let given = c.in-Ok.ensures.files in
    let old = c.in-Ok.files in
    subst (λ (i : Image). ∥ HoldsTables (old_schema c.args.form) i ∥₁)
    (first_image old old c.args.files c.args.files given (sym given))
    (c.in-Ok-open_form.ensures.held clean)

-- files of an older form do not say that they are of a newer one
pub returns-then-says_newer-clause-there : goal.returns-then-says_newer-clause-there
returns-then-says_newer-clause-there g c clean first =
    newer_refused c.in-Ok.files c.in-Ok-open_form.store c.args.files c.close-then-says_newer.result
    c.in-Ok.ensures.files c.close-then-says_newer.ensures c.in-Ok-open_form.ensures.opened.ready
    c.in-Ok-open_form.ensures.found (c.says_newer.ensures.newer c.if-says_newer.true) clean
    first.held first.within

pub returns-then-says_newer-clause-this : goal.returns-then-says_newer-clause-this
returns-then-says_newer-clause-this g c other = absurd (other (inr refl))

-- and the others are kept
pub returns-then-says_newer-clause-unharmed : goal.returns-then-says_newer-clause-unharmed
returns-then-says_newer-clause-unharmed g c clean =
    let store = c.in-Ok-open_form.store in
    store_kept c.in-Ok.files store c.args.files c.close-then-says_newer.result c.in-Ok.ensures.files
    c.close-then-says_newer.ensures c.in-Ok.ensures.size (c.in-Ok-open_form.ensures.kept
    (store_honest store c.close-then-says_newer.result c.close-then-says_newer.ensures clean))

pub returns-in-Err-open_form-clause-there : goal.returns-in-Err-open_form-clause-there
returns-in-Err-open_form-clause-there g c clean =
    let old = c.in-Ok.files in
    let end = c.in-Err-open_form.files in
    let given = c.in-Ok.ensures.files in
    let back = c.close.ensures in
    let same = first_image old end c.args.files c.close.result given back in
    old_still_told (HoldsForm c.args.form (image_of g.D.Disk c.args.files)) c.close.result
    c.told_old.result.1 c.in-Err-open_form.fault c.told_old.result.0
    c.told_old.ensures.told
    (told_so (HoldsForm c.args.form (image old)) (HoldsForm c.args.form (image_of g.D.Disk c.args.files))
    (subst (HoldsForm c.args.form) (sym same)) (old_opening c.in-Err-open_form.fault)
    (c.in-Err-open_form.ensures.there
    (end_honest old end c.args.files c.close.result given back
    (c.told_old.ensures.clean clean))))

pub returns-in-Err-open_form-clause-this : goal.returns-in-Err-open_form-clause-this
returns-in-Err-open_form-clause-this g c other clean =
    let old = c.in-Ok.files in
    let end = c.in-Err-open_form.files in
    let given = c.in-Ok.ensures.files in
    let back = c.close.ensures in
    let same = first_image old end c.args.files c.close.result given back in
    told_not_this (HoldsBooks (image_of g.D.Disk c.args.files)) c.close.result
    c.told_old.result.1 c.in-Err-open_form.fault c.told_old.result.0
    c.told_old.ensures.told
    (λ apart. told_so (HoldsBooks (image old)) (HoldsBooks (image_of g.D.Disk c.args.files))
    (subst HoldsBooks (sym same)) (old_opening c.in-Err-open_form.fault)
    (c.in-Err-open_form.ensures.this apart
    (end_honest old end c.args.files c.close.result given back
    (c.told_old.ensures.clean clean)))) other

pub returns-in-Err-open_form-clause-listed : goal.returns-in-Err-open_form-clause-listed
returns-in-Err-open_form-clause-listed g c is clean =
    let old = c.in-Ok.files in
    let end = c.in-Err-open_form.files in
    let given = c.in-Ok.ensures.files in
    let back = c.close.ensures in
    subst ListsBooks (first_image old end c.args.files c.close.result given back)
    (c.in-Err-open_form.ensures.listed
    (told_already c.in-Err-open_form.fault c.close.result c.told_old.result.0
    c.told_old.result.1 c.told_old.ensures.told is)
    (end_honest old end c.args.files c.close.result given back
    (c.told_old.ensures.clean clean)))

pub returns-in-Err-open_form-clause-unharmed : goal.returns-in-Err-open_form-clause-unharmed
returns-in-Err-open_form-clause-unharmed g c clean =
    let old = c.in-Ok.files in
    let end = c.in-Err-open_form.files in
    let given = c.in-Ok.ensures.files in
    let back = c.close.ensures in
    kept_still c.args.files c.close.result c.told_old.result.1 c.told_old.ensures.crash
    (files_kept old end c.args.files c.close.result given back c.in-Ok.ensures.size
    (c.in-Err-open_form.ensures.unharmed
    (end_honest old end c.args.files c.close.result given back
    (c.told_old.ensures.clean clean))))

-- no lie of a disk is forgotten
pub returns-in-Err-open_form-clause-falls : goal.returns-in-Err-open_form-clause-falls
returns-in-Err-open_form-clause-falls g c clean =
    let old = c.in-Ok.files in
    let end = c.in-Err-open_form.files in
    let first = c.args.files in
    let last = c.close.result in
    let given = c.in-Ok.ensures.files in
    let back = c.close.ensures in
    first_honest old end first last given back (c.in-Err-open_form.ensures.falls
    (end_honest old end first last given back (c.told_old.ensures.clean clean)))

pub returns-then-says_newer-clause-falls : goal.returns-then-says_newer-clause-falls
returns-then-says_newer-clause-falls g c clean =
    let store = c.in-Ok-open_form.store in
    honest_given c.in-Ok.files store c.args.files c.in-Ok.ensures.files
    c.in-Ok-open_form.ensures.honest
    (store_honest store c.close-then-says_newer.result c.close-then-says_newer.ensures clean)
