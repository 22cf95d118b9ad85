use Rattle.std.proofs.Common.{◌≡◌, sym, ap, subst, ◌∙◌}
use Rattle.std.proofs.Math.Logic.{∥∥₁_map}
use Rattle.sqlite_store.specs.FileStore.{state, view, schema_of}
use Rattle.sqlite_store.specs.Laws.{stays_at}
use Rattle.sqlite_store.specs.Unopened.{state_of, CanCreate, Opens, StopsCreating}
use Rattle.sqlite_trees.proofs.Doubt.{no_doubt}
use Rattle.sqlite_trees.specs.Tree.{Trees}
use Rattle.book_trees.proofs.Begun.{begun, begun_files, may_leave_last}
use Rattle.book_trees.proofs.Buildable.{can_create, holds_nothing}
use Rattle.book_trees.proofs.EachLeft.{each_found}
use Rattle.book_trees.proofs.FileParts.{clean_if_left, end_honest, files_kept, first_honest}
use Rattle.book_trees.proofs.FileParts.{first_image}
use Rattle.book_trees.proofs.Opened.{is_open}
use Rattle.book_trees.proofs.Refused.{error_told}
use Rattle.book_trees.specs.LedgerFiles.{image_of, HoldsNothing}
use Rattle.book_trees.specs.Refusals.{IsToldWithout}
use Rattle.book_trees.specs.Schema.{books_schema}
use Rattle.book_trees.specs.declared.faults.OpenFault.{OpenFault}
use Rattle.book_trees.proofs.new_books.create_files.Goals as goal

pub returns-in-Ok-create-clause-opened : goal.returns-in-Ok-create-clause-opened
returns-in-Ok-create-clause-opened g c =
    let made = c.in-Ok-create.ensures in
    is_open c.in-Ok-create.store made.ready (made.schema ∙ c.in-Ok.ensures.schema)
    (λ clean. (made.kept clean).size ∙ c.in-Ok.ensures.size)

pub returns-in-Ok-create-clause-honest : goal.returns-in-Ok-create-clause-honest
returns-in-Ok-create-clause-honest g c clean =
    let given = c.in-Ok.ensures.files in
    first_honest c.in-Ok.files c.in-Ok.files c.args.files c.args.files given (sym given)
    (c.in-Ok-create.ensures.honest clean)

pub returns-in-Ok-create-clause-started : goal.returns-in-Ok-create-clause-started
returns-in-Ok-create-clause-started g c clean =
    let given = c.in-Ok.ensures.files in
    let old = c.in-Ok.files in
    ∥∥₁_map (c.in-Ok-create.ensures.started clean) λ started.
    subst HoldsNothing (first_image old old c.args.files c.args.files given (sym given))
    (holds_nothing old c.in-Ok.ensures.size started)

pub returns-in-Ok-create-clause-left : goal.returns-in-Ok-create-clause-left
returns-in-Ok-create-clause-left g c clean =
    let store = c.in-Ok-create.store in
    let made = c.in-Ok-create.ensures in
    let schema : schema_of store ≡ books_schema = made.schema ∙ c.in-Ok.ensures.schema in
    let size = (made.kept clean).size ∙ c.in-Ok.ensures.size in
    let is_open = made.ready.is_open (no_doubt _ clean) in
    let stays = stays_at store g.met.D.Disk.seen_may_stay is_open in
    ∥∥₁_map (each_found store schema (λ _. size) made.ready.unaltered (view store).committed stays)
    λ found. (
      found.0,
      found.1,
      found.2,
      λ tree small. ap (λ (t : Trees). t tree) found.3 ∙ made.empty clean tree small,
    )

pub returns-in-Err-create-clause-there : goal.returns-in-Err-create-clause-there
returns-in-Err-create-clause-there g c clean =
    let old = c.in-Ok.files in
    let end = c.in-Err-create.files in
    let given = c.in-Ok.ensures.files in
    let back = c.close.ensures in
    let first = c.args.files in
    let last = c.close.result in
    let same = first_image old end first last given back in
    subst (λ (fault : OpenFault). IsToldWithout (HoldsNothing (image_of g.D.Disk first)) fault)
    (sym c.fault_of.ensures)
    (error_told (state_of old).faults (state_of end).faults (StopsCreating end) (CanCreate old)
    (HoldsNothing (image_of g.D.Disk first))
    (λ nothing. can_create old c.in-Ok.ensures.size c.in-Ok.ensures.schema
    (subst HoldsNothing (sym same) nothing)) c.in-Err-create.error
    (c.in-Err-create.ensures.cause (end_honest old end first last given back clean)))

pub returns-in-Err-create-clause-unharmed : goal.returns-in-Err-create-clause-unharmed
returns-in-Err-create-clause-unharmed g c clean something =
    let old = c.in-Ok.files in
    let end = c.in-Err-create.files in
    let given = c.in-Ok.ensures.files in
    let back = c.close.ensures in
    let first = c.args.files in
    let last = c.close.result in
    let same = first_image old end first last given back in
    let made = c.in-Err-create.ensures.unharmed (end_honest old end first last given back clean) in
    let opens : Opens old (state_of end) = record {
      size = made.size;
      counts = made.counts;
      crash = made.guarded (λ started. something (subst HoldsNothing same
          (holds_nothing old c.in-Ok.ensures.size started)));
    } in
    files_kept old end first last given back c.in-Ok.ensures.size opens

pub returns-in-Ok-create-clause-begun : goal.returns-in-Ok-create-clause-begun
returns-in-Ok-create-clause-begun g c nothing left may =
    let given = c.in-Ok.ensures.files in
    let old = c.in-Ok.files in
    let first = c.args.files in
    let clean = clean_if_left c.in-Ok-create.store.pool left may in
    begun_files old first given left
    (begun old c.in-Ok.ensures.size c.in-Ok.ensures.schema (state c.in-Ok-create.store)
    (c.in-Ok-create.ensures.kept clean)
    (subst HoldsNothing (sym (first_image old old first first given (sym given))) nothing) left may)

pub returns-in-Err-create-clause-begun_refused : goal.returns-in-Err-create-clause-begun_refused
returns-in-Err-create-clause-begun_refused g c nothing left may =
    let given = c.in-Ok.ensures.files in
    let old = c.in-Ok.files in
    let end = c.in-Err-create.files in
    let first = c.args.files in
    let last = c.close.result in
    let back = c.close.ensures in
    begun_files old first given left
    (begun old c.in-Ok.ensures.size c.in-Ok.ensures.schema (state_of end)
    (c.in-Err-create.ensures.unharmed (end_honest old end first last given back may.0))
    (subst HoldsNothing (sym (first_image old end first last given back)) nothing) left
    (may_leave_last end last back left may))
