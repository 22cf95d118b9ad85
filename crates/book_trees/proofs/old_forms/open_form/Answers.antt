use Rattle.std.proofs.Common.{◌≡◌, true, refl, sym, ap, ◌∙◌, subst}
use Rattle.sqlite_store.specs.FileStore.{state}
use Rattle.sqlite_store.specs.Unopened.{state_of, image, HasFileAs, IsFullFile}
use Rattle.sqlite_trees.proofs.Doubt.{clean_of}
use Rattle.book_trees.proofs.Opened.{held_old_listed, held_old_only, held_listed, held_ours}
use Rattle.book_trees.proofs.Opened.{holds_shown, lists_here, opens_twice, shows_held}
use Rattle.book_trees.proofs.Opened.{unlisted_none}
use Rattle.book_trees.proofs.Refused.{old_error_told, never_already, unlisted_refused}
use Rattle.book_trees.proofs.Trees.{has_old_trees}
use Rattle.book_trees.specs.OldForms.{old_opening, HoldsForm}
use Rattle.book_trees.specs.LedgerFiles.{HoldsBooks}
use Rattle.book_trees.specs.Listing.{lists_books, lists_old_books}
use Rattle.book_trees.specs.Refusals.{IsToldWithout}
use Rattle.book_trees.specs.declared.old_forms.OldFault.{OldFault}
use Rattle.book_trees.proofs.old_forms.open_form.Goals as goal

-- files of an older form do not list the tables of this one
pub returns-then-lists_books-clause-there : goal.returns-then-lists_books-clause-there
returns-then-lists_books-clause-there g c clean first =
    let books : lists_books c.in-Ok.listed.items ≡ true =
    ap lists_books (sym c.as_slice.ensures.value) ∙ sym c.lists_books.ensures
    ∙ c.if-lists_books.true in
    held_old_only c.args.files c.read_catalog.new.self c.in-Ok.listed.items
    (c.in-Ok.ensures.ok clean) c.requires.size c.args.form first.held books

-- files that are told to be of this form list the tables of books
pub returns-then-lists_books-clause-listed : goal.returns-then-lists_books-clause-listed
returns-then-lists_books-clause-listed g c is clean =
    lists_here c.args.files c.read_catalog.new.self c.in-Ok.listed.items
    (c.in-Ok.ensures.ok clean) c.requires.size
    (ap lists_books (sym c.as_slice.ensures.value) ∙ sym c.lists_books.ensures
    ∙ c.if-lists_books.true)

pub returns-clause-listed : goal.returns-clause-listed
returns-clause-listed g c is clean =
    absurd (never_already c.in-Err-open_numbered.error (sym c.old_fault.ensures ∙ is))

pub returns-then-not-lists_old_books-clause-there :
    goal.returns-then-not-lists_old_books-clause-there
returns-then-not-lists_old_books-clause-there g c clean =
    let old = c.args.files in
    let mid = c.read_catalog.new.self in
    let rows = c.in-Ok.listed.items in
    unlisted_refused (HoldsForm c.args.form (image old)) (lists_old_books c.args.form) rows
    c.as_slice-2.result.now
    (λ first. held_old_listed old mid rows (c.in-Ok.ensures.ok clean) c.requires.size c.args.form
    first.held)
    c.as_slice-2.ensures.value
    (sym c.lists_old_books.ensures ∙ c.if-not-lists_old_books.true) _ _
    c.unlisted_fault.ensures

-- nor do files of this form list those of an older one alone
pub returns-then-not-lists_old_books-clause-this :
    goal.returns-then-not-lists_old_books-clause-this
returns-then-not-lists_old_books-clause-this g c other clean =
    let old = c.args.files in
    let mid = c.read_catalog.new.self in
    let rows = c.in-Ok.listed.items in
    unlisted_refused (HoldsBooks (image old)) lists_books rows c.as_slice.result.now
    (held_listed old mid rows (c.in-Ok.ensures.ok clean) c.requires.size)
    c.as_slice.ensures.value (sym c.lists_books.ensures ∙ c.if-lists_books.false) _ _
    c.unlisted_fault.ensures

pub returns-then-lists_books-clause-this : goal.returns-then-lists_books-clause-this
returns-then-lists_books-clause-this g c other = absurd (other refl)

pub returns-in-Ok-open_numbered-clause-opened : goal.returns-in-Ok-open_numbered-clause-opened
returns-in-Ok-open_numbered-clause-opened g c =
    let opened = c.in-Ok-open_numbered.ensures in
    let schema = opened.schema ∙ c.read_catalog.ensures.schema ∙ c.requires.schema in
    record {
      ready = opened.ready;
      schema = schema;
      trees = λ clean. has_old_trees c.args.form c.in-Ok-open_numbered.store schema
          opened.ready.unaltered opened.numbered (clean_of _ clean);
      size = λ clean. (opened.kept clean).size
          ∙ (c.read_catalog.ensures.kept (opened.honest clean)).size ∙ c.requires.size;
    }

pub returns-in-Ok-open_numbered-clause-honest : goal.returns-in-Ok-open_numbered-clause-honest
returns-in-Ok-open_numbered-clause-honest g c clean =
    c.read_catalog.ensures.honest (c.in-Ok-open_numbered.ensures.honest clean)

pub returns-in-Ok-open_numbered-clause-found : goal.returns-in-Ok-open_numbered-clause-found
returns-in-Ok-open_numbered-clause-found g c clean =
    let opened = c.in-Ok-open_numbered.ensures in
    let then = opened.honest clean in
    shows_held c.args.files c.read_catalog.new.self c.in-Ok.listed.items (c.in-Ok.ensures.ok then)
    c.requires.size c.in-Ok-open_numbered.store opened.ready
    (opened.schema ∙ c.read_catalog.ensures.schema ∙ c.requires.schema)
    (c.read_catalog.ensures.kept then) (opened.kept clean) clean (opened.found clean)

pub returns-in-Ok-open_numbered-clause-held : goal.returns-in-Ok-open_numbered-clause-held
returns-in-Ok-open_numbered-clause-held g c clean =
    let opened = c.in-Ok-open_numbered.ensures in
    let then = opened.honest clean in
    holds_shown c.args.files c.read_catalog.new.self c.in-Ok.listed.items (c.in-Ok.ensures.ok then)
    c.requires.size c.in-Ok-open_numbered.store opened.ready
    (opened.schema ∙ c.read_catalog.ensures.schema ∙ c.requires.schema)
    (c.read_catalog.ensures.kept then) (opened.kept clean) clean (opened.found clean)

pub returns-in-Ok-open_numbered-clause-older : goal.returns-in-Ok-open_numbered-clause-older
returns-in-Ok-open_numbered-clause-older g c clean =
    unlisted_none c.args.files c.read_catalog.new.self c.in-Ok.listed.items
    (c.in-Ok.ensures.ok (c.in-Ok-open_numbered.ensures.honest clean)) c.requires.size
    (ap lists_books (sym c.as_slice.ensures.value) ∙ sym c.lists_books.ensures
    ∙ c.if-lists_books.false)

pub returns-in-Ok-open_numbered-clause-kept : goal.returns-in-Ok-open_numbered-clause-kept
returns-in-Ok-open_numbered-clause-kept g c clean =
    let then = c.in-Ok-open_numbered.ensures.honest clean in
    opens_twice c.args.files c.read_catalog.new.self c.in-Ok.listed.items
    (c.in-Ok.ensures.ok then) c.requires.size (state c.in-Ok-open_numbered.store)
    (c.read_catalog.ensures.kept then) (c.in-Ok-open_numbered.ensures.kept clean)

pub returns-clause-falls : goal.returns-clause-falls
returns-clause-falls g c clean =
    c.read_catalog.ensures.honest (c.in-Err-open_numbered.ensures.falls clean)

pub returns-clause-unharmed : goal.returns-clause-unharmed
returns-clause-unharmed g c clean =
    let then = c.in-Err-open_numbered.ensures.falls clean in
    opens_twice c.args.files c.read_catalog.new.self c.in-Ok.listed.items
    (c.in-Ok.ensures.ok then) c.requires.size (state_of c.in-Err-open_numbered.files)
    (c.read_catalog.ensures.kept then) (c.in-Err-open_numbered.ensures.unharmed clean)

pub returns-clause-there : goal.returns-clause-there
returns-clause-there g c clean =
    let then = c.in-Err-open_numbered.ensures.falls clean in
    let old = c.args.files in
    let mid = c.read_catalog.new.self in
    let end = c.in-Err-open_numbered.files in
    let size = (c.read_catalog.ensures.kept then).size ∙ c.requires.size in
    let schema = c.read_catalog.ensures.schema ∙ c.requires.schema in
    subst (λ (fault : OldFault).
    IsToldWithout (HoldsForm c.args.form (image old)) (old_opening fault))
    (sym c.old_fault.ensures)
    (old_error_told (state_of mid).faults (state_of end).faults (IsFullFile end)
    (HasFileAs mid true) (HoldsForm c.args.form (image old)) (λ first. held_ours old mid
    c.in-Ok.listed.items (c.in-Ok.ensures.ok then) c.requires.size first.held first.numbered size
    schema) c.in-Err-open_numbered.error (c.in-Err-open_numbered.ensures.cause clean))

pub returns-clause-this : goal.returns-clause-this
returns-clause-this g c other clean =
    let then = c.in-Err-open_numbered.ensures.falls clean in
    let old = c.args.files in
    let mid = c.read_catalog.new.self in
    let end = c.in-Err-open_numbered.files in
    subst (λ (fault : OldFault). IsToldWithout (HoldsBooks (image old)) (old_opening fault))
    (sym c.old_fault.ensures)
    (old_error_told (state_of mid).faults (state_of end).faults (IsFullFile end)
    (HasFileAs mid true) (HoldsBooks (image old)) (λ held. absurd (unlisted_none old mid
    c.in-Ok.listed.items (c.in-Ok.ensures.ok then) c.requires.size
    (ap lists_books (sym c.as_slice.ensures.value) ∙ sym c.lists_books.ensures
    ∙ c.if-lists_books.false) held))
    c.in-Err-open_numbered.error (c.in-Err-open_numbered.ensures.cause clean))
