use Rattle.std.proofs.Common.{◌≡◌, true, sym, ap, ◌∙◌, subst}
use Rattle.sqlite_store.specs.FileStore.{state}
use Rattle.sqlite_store.specs.Unopened.{state_of, image, IsFullFile}
use Rattle.book_trees.proofs.Opened.{has_file, held_listed, is_open, opens_twice, shows_held}
use Rattle.book_trees.proofs.Opened.{shows_listed}
use Rattle.book_trees.proofs.Refused.{error_told, unlisted_refused}
use Rattle.book_trees.specs.LedgerFiles.{HoldsBooks}
use Rattle.book_trees.specs.Listing.{lists_books}
use Rattle.book_trees.specs.Refusals.{IsToldWithout}
use Rattle.book_trees.specs.declared.faults.OpenFault.{OpenFault}
use Rattle.book_trees.proofs.opening.open_left.Goals as goal

pub returns-then-not-lists_books-clause-there : goal.returns-then-not-lists_books-clause-there
returns-then-not-lists_books-clause-there g c clean =
    let old = c.args.files in
    let mid = c.read_catalog.new.self in
    unlisted_refused (HoldsBooks (image old)) lists_books c.in-Ok.listed.items c.as_slice.result.now
    (held_listed old mid c.in-Ok.listed.items (c.in-Ok.ensures.ok clean) c.requires.size)
    c.as_slice.ensures.value (sym c.lists_books.ensures ∙ c.if-not-lists_books.true) _ _
    c.unlisted_fault.ensures

pub open_trusted-requires-clause-sound : goal.open_trusted-requires-clause-sound
open_trusted-requires-clause-sound g c clean =
    let books : lists_books c.in-Ok.listed.items ≡ true =
    ap lists_books (sym c.as_slice.ensures.value) ∙ sym c.lists_books.ensures
    ∙ c.if-not-lists_books.false in
    has_file c.args.files c.read_catalog.new.self c.in-Ok.listed.items
    (c.in-Ok.ensures.ok clean) c.requires.size books
    (c.requires.left (c.read_catalog.ensures.honest clean))
    ((c.read_catalog.ensures.kept clean).size ∙ c.requires.size)
    (c.read_catalog.ensures.schema ∙ c.requires.schema)

pub returns-in-Ok-open_trusted-clause-honest : goal.returns-in-Ok-open_trusted-clause-honest
returns-in-Ok-open_trusted-clause-honest g c clean =
    c.read_catalog.ensures.honest (c.in-Ok-open_trusted.ensures.honest clean)

pub returns-in-Ok-open_trusted-clause-kept : goal.returns-in-Ok-open_trusted-clause-kept
returns-in-Ok-open_trusted-clause-kept g c clean =
    let then = c.in-Ok-open_trusted.ensures.honest clean in
    opens_twice c.args.files c.read_catalog.new.self c.in-Ok.listed.items
    (c.in-Ok.ensures.ok then) c.requires.size (state c.in-Ok-open_trusted.store)
    (c.read_catalog.ensures.kept then) (c.in-Ok-open_trusted.ensures.kept clean)

pub returns-in-Ok-open_trusted-clause-found : goal.returns-in-Ok-open_trusted-clause-found
returns-in-Ok-open_trusted-clause-found g c clean =
    let opened = c.in-Ok-open_trusted.ensures in
    let then = opened.honest clean in
    shows_held c.args.files c.read_catalog.new.self c.in-Ok.listed.items (c.in-Ok.ensures.ok then)
    c.requires.size c.in-Ok-open_trusted.store opened.ready
    (opened.schema ∙ c.read_catalog.ensures.schema ∙ c.requires.schema)
    (c.read_catalog.ensures.kept then) (opened.kept clean) clean (opened.found clean)

pub returns-in-Ok-open_trusted-clause-read : goal.returns-in-Ok-open_trusted-clause-read
returns-in-Ok-open_trusted-clause-read g c clean =
    let opened = c.in-Ok-open_trusted.ensures in
    let then = opened.honest clean in
    shows_listed c.args.files c.read_catalog.new.self c.in-Ok.listed.items (c.in-Ok.ensures.ok then)
    c.requires.size (ap lists_books (sym c.as_slice.ensures.value) ∙ sym c.lists_books.ensures
    ∙ c.if-not-lists_books.false) c.in-Ok-open_trusted.store opened.ready
    (opened.schema ∙ c.read_catalog.ensures.schema ∙ c.requires.schema)
    (c.read_catalog.ensures.kept then) (opened.kept clean) clean (opened.found clean)

pub returns-in-Ok-open_trusted-clause-opened : goal.returns-in-Ok-open_trusted-clause-opened
returns-in-Ok-open_trusted-clause-opened g c =
    let opened = c.in-Ok-open_trusted.ensures in
    is_open c.in-Ok-open_trusted.store opened.ready
    (opened.schema ∙ c.read_catalog.ensures.schema ∙ c.requires.schema) (λ clean.
    (opened.kept clean).size ∙ (c.read_catalog.ensures.kept (opened.honest clean)).size
    ∙ c.requires.size)

pub returns-clause-falls : goal.returns-clause-falls
returns-clause-falls g c clean =
    c.read_catalog.ensures.honest (c.in-Err-open_trusted.ensures.falls clean)

pub returns-clause-unharmed : goal.returns-clause-unharmed
returns-clause-unharmed g c clean =
    let then = c.in-Err-open_trusted.ensures.falls clean in
    opens_twice c.args.files c.read_catalog.new.self c.in-Ok.listed.items
    (c.in-Ok.ensures.ok then) c.requires.size (state_of c.in-Err-open_trusted.files)
    (c.read_catalog.ensures.kept then) (c.in-Err-open_trusted.ensures.unharmed clean)

pub returns-clause-there : goal.returns-clause-there
returns-clause-there g c clean =
    let mid = c.read_catalog.new.self in
    let end = c.in-Err-open_trusted.files in
    subst (λ (fault : OpenFault). IsToldWithout (HoldsBooks (image c.args.files)) fault)
    (sym c.fault_of-in-Err-open_trusted.ensures)
    (error_told (state_of mid).faults (state_of end).faults (IsFullFile end) _
    (HoldsBooks (image c.args.files)) (λ _. tt) c.in-Err-open_trusted.error
    (c.in-Err-open_trusted.ensures.cause clean))
