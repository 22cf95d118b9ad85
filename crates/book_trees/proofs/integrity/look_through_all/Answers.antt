use Rattle.std.proofs.Common.{sym, ap, ◌∙◌, subst, true}
use Rattle.sqlite_store.specs.FileStore.{state}
use Rattle.sqlite_store.specs.Unopened.{state_of, image, HasFile, IsFullFile}
use Rattle.book_trees.proofs.Opened.{held_file, held_listed, holds_shown, is_open, lists_here}
use Rattle.book_trees.proofs.Opened.{opens_twice, shows_held}
use Rattle.book_trees.proofs.Refused.{look_error_told, unlisted_refused}
use Rattle.book_trees.specs.LedgerFiles.{HoldsBooks}
use Rattle.book_trees.specs.Listing.{lists_books}
use Rattle.book_trees.specs.Looks.{look_opening}
use Rattle.book_trees.specs.Refusals.{IsToldWithout}
use Rattle.book_trees.specs.declared.integrity.LookFault.{LookFault}
use Rattle.book_trees.proofs.integrity.look_through_all.Goals as goal

pub returns-then-not-lists_books-clause-there : goal.returns-then-not-lists_books-clause-there
returns-then-not-lists_books-clause-there g c clean =
    let old = c.args.files in
    let mid = c.read_catalog.new.self in
    let rows = c.in-Ok.listed.items in
    unlisted_refused (HoldsBooks (image old)) lists_books rows c.as_slice.result.now
    (held_listed old mid rows (c.in-Ok.ensures.ok clean) c.requires.size)
    c.as_slice.ensures.value (sym c.lists_books.ensures ∙ c.if-not-lists_books.true) _ _
    c.unlisted_fault.ensures

pub returns-in-Ok-open-clause-opened : goal.returns-in-Ok-open-clause-opened
returns-in-Ok-open-clause-opened g c =
    let opened = c.in-Ok-open.ensures in
    is_open c.in-Ok-open.store opened.ready
    (opened.schema ∙ c.read_catalog.ensures.schema ∙ c.requires.schema) (λ clean.
    (opened.kept clean).size ∙ (c.read_catalog.ensures.kept (opened.honest clean)).size
    ∙ c.requires.size)

pub returns-clause-unharmed : goal.returns-clause-unharmed
returns-clause-unharmed g c clean =
    let then = c.in-Err-open.ensures.falls clean in
    opens_twice c.args.files c.read_catalog.new.self c.in-Ok.listed.items
    (c.in-Ok.ensures.ok then) c.requires.size (state_of c.in-Err-open.files)
    (c.read_catalog.ensures.kept then) (c.in-Err-open.ensures.unharmed clean)

pub returns-clause-there : goal.returns-clause-there
returns-clause-there g c clean =
    let then = c.in-Err-open.ensures.falls clean in
    let old = c.args.files in
    let mid = c.read_catalog.new.self in
    let end = c.in-Err-open.files in
    let size = (c.read_catalog.ensures.kept then).size ∙ c.requires.size in
    let schema = c.read_catalog.ensures.schema ∙ c.requires.schema in
    subst (λ (fault : LookFault). IsToldWithout (HoldsBooks (image old)) (look_opening fault))
    (sym c.look_fault.ensures)
    (look_error_told (state_of mid).faults (state_of end).faults (IsFullFile end)
    (HasFile mid) (HoldsBooks (image old)) (λ held. held_file old mid c.in-Ok.listed.items
    (c.in-Ok.ensures.ok then) c.requires.size held size schema) c.in-Err-open.error
    (c.in-Err-open.ensures.cause clean))

pub returns-in-Ok-open-clause-honest : goal.returns-in-Ok-open-clause-honest
returns-in-Ok-open-clause-honest g c clean =
    c.read_catalog.ensures.honest (c.in-Ok-open.ensures.honest clean)

pub returns-in-Ok-open-clause-found : goal.returns-in-Ok-open-clause-found
returns-in-Ok-open-clause-found g c clean =
    let opened = c.in-Ok-open.ensures in
    let then = opened.honest clean in
    shows_held c.args.files c.read_catalog.new.self c.in-Ok.listed.items (c.in-Ok.ensures.ok then)
    c.requires.size c.in-Ok-open.store opened.ready
    (opened.schema ∙ c.read_catalog.ensures.schema ∙ c.requires.schema)
    (c.read_catalog.ensures.kept then) (opened.kept clean) clean (opened.found clean)

pub returns-in-Ok-open-clause-kept : goal.returns-in-Ok-open-clause-kept
returns-in-Ok-open-clause-kept g c clean =
    let then = c.in-Ok-open.ensures.honest clean in
    opens_twice c.args.files c.read_catalog.new.self c.in-Ok.listed.items
    (c.in-Ok.ensures.ok then) c.requires.size (state c.in-Ok-open.store)
    (c.read_catalog.ensures.kept then) (c.in-Ok-open.ensures.kept clean)

pub returns-in-Ok-open-clause-held : goal.returns-in-Ok-open-clause-held
returns-in-Ok-open-clause-held g c clean =
    let opened = c.in-Ok-open.ensures in
    let then = opened.honest clean in
    holds_shown c.args.files c.read_catalog.new.self c.in-Ok.listed.items (c.in-Ok.ensures.ok then)
    c.requires.size c.in-Ok-open.store opened.ready
    (opened.schema ∙ c.read_catalog.ensures.schema ∙ c.requires.schema)
    (c.read_catalog.ensures.kept then) (opened.kept clean) clean (opened.found clean)

pub returns-clause-listed : goal.returns-clause-listed
returns-clause-listed g c is clean =
    lists_here c.args.files c.read_catalog.new.self c.in-Ok.listed.items
    (c.in-Ok.ensures.ok (c.in-Err-open.ensures.falls clean)) c.requires.size
    (ap lists_books (sym c.as_slice.ensures.value) ∙ sym c.lists_books.ensures
    ∙ c.if-not-lists_books.false)
