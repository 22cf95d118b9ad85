use Rattle.std.proofs.Common.{◌≡◌, sym, subst}
use Rattle.sqlite_store.specs.Unopened.{image}
use Rattle.sqlite_wal.specs.Recovery.{Image}
use Rattle.book_trees.proofs.FileParts.{end_honest, files_kept, first_honest, first_image}
use Rattle.book_trees.proofs.FileParts.{honest_given, kept_still, shows_given, store_honest}
use Rattle.book_trees.proofs.FileParts.{store_kept}
use Rattle.book_trees.proofs.FormNumbers.{newer_refused, none_newer}
use Rattle.book_trees.proofs.Refused.{told_so}
use Rattle.book_trees.proofs.ToldLemmas.{still_told}
use Rattle.book_trees.specs.Forms.{HoldsThisForm}
use Rattle.book_trees.specs.LedgerFiles.{image_of, HoldsBooks}
use Rattle.book_trees.specs.StoreView.{AreLeft, ShowsBooks}
use Rattle.book_trees.proofs.opening.open_files.Goals as goal

pub open_left-requires-clause-left : goal.open_left-requires-clause-left
open_left-requires-clause-left g c clean =
    let given = c.in-Ok.ensures.files in
    let old = c.in-Ok.files in
    let same : image old ≡ image_of g.D.Disk c.args.files =
    first_image old old c.args.files c.args.files given (sym given) in
    subst AreLeft (sym same) (c.requires.left
    (first_honest old old c.args.files c.args.files given (sym given) clean))

pub returns-clause-honest : goal.returns-clause-honest
returns-clause-honest g c =
    honest_given c.in-Ok.files c.in-Ok-open_left.store c.args.files c.in-Ok.ensures.files
    c.in-Ok-open_left.ensures.honest

pub returns-clause-found : goal.returns-clause-found
returns-clause-found g c =
    shows_given c.in-Ok.files c.in-Ok-open_left.store c.args.files c.in-Ok.ensures.files
    c.in-Ok-open_left.ensures.found

pub returns-clause-read : goal.returns-clause-read
returns-clause-read g c clean =
    let given = c.in-Ok.ensures.files in
    let old = c.in-Ok.files in
    subst (λ (i : Image). ShowsBooks i c.in-Ok-open_left.store)
    (first_image old old c.args.files c.args.files given (sym given))
    (c.in-Ok-open_left.ensures.read clean)

-- what is opened does not say that it is of a newer form
pub returns-clause-form : goal.returns-clause-form
returns-clause-form g c =
    none_newer c.in-Ok.files c.in-Ok-open_left.store c.args.files c.in-Ok.ensures.files
    c.in-Ok-open_left.ensures.opened.ready c.in-Ok-open_left.ensures.found
    (c.says_newer.ensures.other c.if-says_newer.false)

-- files that hold books of this form do not say that they are of a newer one
pub returns-then-says_newer-clause-there : goal.returns-then-says_newer-clause-there
returns-then-says_newer-clause-there g c clean this =
    newer_refused c.in-Ok.files c.in-Ok-open_left.store c.args.files c.close-then-says_newer.result
    c.in-Ok.ensures.files c.close-then-says_newer.ensures c.in-Ok-open_left.ensures.opened.ready
    c.in-Ok-open_left.ensures.found (c.says_newer.ensures.newer c.if-says_newer.true) clean
    this.held this.form

-- and the others are kept
pub returns-then-says_newer-clause-unharmed : goal.returns-then-says_newer-clause-unharmed
returns-then-says_newer-clause-unharmed g c clean =
    let store = c.in-Ok-open_left.store in
    store_kept c.in-Ok.files store c.args.files c.close-then-says_newer.result c.in-Ok.ensures.files
    c.close-then-says_newer.ensures c.in-Ok.ensures.size (c.in-Ok-open_left.ensures.kept
    (store_honest store c.close-then-says_newer.result c.close-then-says_newer.ensures clean))

pub returns-in-Err-open_left-clause-there : goal.returns-in-Err-open_left-clause-there
returns-in-Err-open_left-clause-there g c clean =
    let old = c.in-Ok.files in
    let end = c.in-Err-open_left.files in
    let given = c.in-Ok.ensures.files in
    let back = c.close.ensures in
    let same = first_image old end c.args.files c.close.result given back in
    still_told (HoldsThisForm (image_of g.D.Disk c.args.files)) c.close.result c.told.result.1
    c.in-Err-open_left.fault c.told.result.0 c.told.ensures.told
    (told_so (HoldsBooks (image old)) (HoldsThisForm (image_of g.D.Disk c.args.files))
    (λ this. subst HoldsBooks (sym same) this.held) c.in-Err-open_left.fault
    (c.in-Err-open_left.ensures.there
    (end_honest old end c.args.files c.close.result given back (c.told.ensures.clean clean))))

pub returns-in-Err-open_left-clause-unharmed : goal.returns-in-Err-open_left-clause-unharmed
returns-in-Err-open_left-clause-unharmed g c clean =
    let old = c.in-Ok.files in
    let end = c.in-Err-open_left.files in
    let given = c.in-Ok.ensures.files in
    let back = c.close.ensures in
    kept_still c.args.files c.close.result c.told.result.1 c.told.ensures.crash
    (files_kept old end c.args.files c.close.result given back c.in-Ok.ensures.size
    (c.in-Err-open_left.ensures.unharmed
    (end_honest old end c.args.files c.close.result given back (c.told.ensures.clean clean))))
