use Rattle.std.proofs.Common.{sym, subst}
use Rattle.sqlite_store.specs.Unopened.{image}
use Rattle.sqlite_wal.specs.Recovery.{Image}
use Rattle.book_trees.proofs.FileParts.{end_honest, files_kept, first_image, honest_given}
use Rattle.book_trees.proofs.FileParts.{kept_still, shows_given, store_honest, store_kept}
use Rattle.book_trees.proofs.FormNumbers.{newer_refused, none_newer}
use Rattle.book_trees.proofs.Refused.{told_so}
use Rattle.book_trees.proofs.ToldLemmas.{look_still_told, told_pages}
use Rattle.book_trees.specs.Forms.{HoldsThisForm}
use Rattle.book_trees.specs.LedgerFiles.{image_of, HoldsBooks}
use Rattle.book_trees.specs.Looks.{look_opening}
use Rattle.book_trees.specs.Refusals.{IsToldWithout}
use Rattle.book_trees.specs.StoreView.{ListsBooks}
use Rattle.book_trees.specs.declared.integrity.LookFault.{LookFault}
use Rattle.book_trees.proofs.integrity.look_through.Goals as goal

pub returns-clause-honest : goal.returns-clause-honest
returns-clause-honest g c =
    honest_given c.in-Ok.files c.in-Ok-look_through_all.store c.args.files c.in-Ok.ensures.files
    c.in-Ok-look_through_all.ensures.honest

pub returns-clause-found : goal.returns-clause-found
returns-clause-found g c =
    shows_given c.in-Ok.files c.in-Ok-look_through_all.store c.args.files c.in-Ok.ensures.files
    c.in-Ok-look_through_all.ensures.found

pub returns-clause-held : goal.returns-clause-held
returns-clause-held g c clean =
    let given = c.in-Ok.ensures.files in
    let old = c.in-Ok.files in
    subst (λ (i : Image). ∥ HoldsBooks i ∥₁)
    (first_image old old c.args.files c.args.files given (sym given))
    (c.in-Ok-look_through_all.ensures.held clean)

-- what is opened does not say that it is of a newer form
pub returns-clause-form : goal.returns-clause-form
returns-clause-form g c =
    none_newer c.in-Ok.files c.in-Ok-look_through_all.store c.args.files c.in-Ok.ensures.files
    c.in-Ok-look_through_all.ensures.opened.ready c.in-Ok-look_through_all.ensures.found
    (c.says_newer.ensures.other c.if-says_newer.false)

-- files that hold books of this form do not say that they are of a newer one
pub returns-then-says_newer-clause-there : goal.returns-then-says_newer-clause-there
returns-then-says_newer-clause-there g c clean this =
    newer_refused c.in-Ok.files c.in-Ok-look_through_all.store c.args.files
    c.close-then-says_newer.result c.in-Ok.ensures.files c.close-then-says_newer.ensures
    c.in-Ok-look_through_all.ensures.opened.ready c.in-Ok-look_through_all.ensures.found
    (c.says_newer.ensures.newer c.if-says_newer.true) clean this.held this.form

-- and the others are kept
pub returns-then-says_newer-clause-unharmed : goal.returns-then-says_newer-clause-unharmed
returns-then-says_newer-clause-unharmed g c clean =
    let store = c.in-Ok-look_through_all.store in
    store_kept c.in-Ok.files store c.args.files c.close-then-says_newer.result c.in-Ok.ensures.files
    c.close-then-says_newer.ensures c.in-Ok.ensures.size (c.in-Ok-look_through_all.ensures.kept
    (store_honest store c.close-then-says_newer.result c.close-then-says_newer.ensures clean))

pub returns-in-Err-look_through_all-clause-there : goal.returns-in-Err-look_through_all-clause-there
returns-in-Err-look_through_all-clause-there g c clean =
    let old = c.in-Ok.files in
    let end = c.in-Err-look_through_all.files in
    let given = c.in-Ok.ensures.files in
    let back = c.close.ensures in
    let same = first_image old end c.args.files c.close.result given back in
    look_still_told (HoldsThisForm (image_of g.D.Disk c.args.files)) c.close.result
    c.told_look.result.1 c.in-Err-look_through_all.fault c.told_look.result.0
    c.told_look.ensures.told
    (told_so (HoldsBooks (image old)) (HoldsThisForm (image_of g.D.Disk c.args.files))
    (λ this. subst HoldsBooks (sym same) this.held) (look_opening c.in-Err-look_through_all.fault)
    (c.in-Err-look_through_all.ensures.there
    (end_honest old end c.args.files c.close.result given back
    (c.told_look.ensures.clean clean))))

pub returns-in-Err-look_through_all-clause-unharmed : goal.returns-in-Err-look_through_all-clause-unharmed
returns-in-Err-look_through_all-clause-unharmed g c clean =
    let old = c.in-Ok.files in
    let end = c.in-Err-look_through_all.files in
    let given = c.in-Ok.ensures.files in
    let back = c.close.ensures in
    kept_still c.args.files c.close.result c.told_look.result.1 c.told_look.ensures.crash
    (files_kept old end c.args.files c.close.result given back c.in-Ok.ensures.size
    (c.in-Err-look_through_all.ensures.unharmed
    (end_honest old end c.args.files c.close.result given back
    (c.told_look.ensures.clean clean))))

pub returns-in-Err-look_through_all-clause-listed : goal.returns-in-Err-look_through_all-clause-listed
returns-in-Err-look_through_all-clause-listed g c is clean =
    let old = c.in-Ok.files in
    let end = c.in-Err-look_through_all.files in
    let given = c.in-Ok.ensures.files in
    let back = c.close.ensures in
    subst ListsBooks (first_image old end c.args.files c.close.result given back)
    (c.in-Err-look_through_all.ensures.listed
    (told_pages c.in-Err-look_through_all.fault c.close.result c.told_look.result.0
    c.told_look.result.1 c.told_look.ensures.told is)
    (end_honest old end c.args.files c.close.result given back
    (c.told_look.ensures.clean clean)))

pub returns-in-Err-look_through_all-clause-wrong : goal.returns-in-Err-look_through_all-clause-wrong
returns-in-Err-look_through_all-clause-wrong g c is clean =
    let old = c.in-Ok.files in
    let end = c.in-Err-look_through_all.files in
    let given = c.in-Ok.ensures.files in
    let back = c.close.ensures in
    let met = told_pages c.in-Err-look_through_all.fault c.close.result c.told_look.result.0
    c.told_look.result.1 c.told_look.ensures.told is in
    subst (λ (i : Image). HoldsBooks i → ⊥)
    (first_image old end c.args.files c.close.result given back)
    (subst (λ (fault : LookFault). IsToldWithout (HoldsBooks (image old)) (look_opening fault)) met
    (c.in-Err-look_through_all.ensures.there
    (end_honest old end c.args.files c.close.result given back
    (c.told_look.ensures.clean clean))))
