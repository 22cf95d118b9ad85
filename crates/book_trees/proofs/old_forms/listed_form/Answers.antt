use Rattle.std.proofs.Common.{◌∙◌, IsTrue, ap, subst, subst₂, sym}
use Rattle.sqlite_store.specs.Unopened.{HasSomeFile}
use Rattle.sqlite_wal.specs.Reads.{AreClean}
use Rattle.book_trees.proofs.AlikeFiles.{some_file}
use Rattle.book_trees.proofs.FileParts.{end_honest, files_kept, first_honest, first_image}
use Rattle.book_trees.proofs.FileParts.{last_image}
use Rattle.book_trees.proofs.Opened.{alike, held_form_listed}
use Rattle.book_trees.proofs.Refused.{told_so}
use Rattle.book_trees.proofs.Results.{err_given, if_err, if_ok, ok_on, on_ok}
use Rattle.book_trees.specs.LedgerFiles.{image_of, HoldsTables}
use Rattle.book_trees.specs.OldForms.{AreAlike, HoldsSome}
use Rattle.book_trees.specs.Refusals.{IsToldWithout}
use Rattle.book_trees.specs.Schema.{old_schema}
use Rattle.book_trees.proofs.old_forms.listed_form.Goals as goal

-- both files may be used as before
pub returns-clause-log : goal.returns-clause-log
returns-clause-log g c =
    on_ok c.read_form-form.result.0 c.read_form-form.ensures.usable (λ usable.
    subst (λ file. IsTrue (g.D.Disk.is_usable file)) (sym (ap (λ pair. pair.0) c.close.ensures))
    usable.0)

pub returns-clause-db : goal.returns-clause-db
returns-clause-db g c =
    on_ok c.read_form-form.result.0 c.read_form-form.ensures.usable (λ usable.
    subst (λ file. IsTrue (g.D.Disk.is_usable file)) (sym (ap (λ pair. pair.1) c.close.ensures))
    usable.1)

pub returns-clause-alike : goal.returns-clause-alike
returns-clause-alike g c clean =
    let old = c.in-Ok.files in
    let end = c.read_form-form.result.1 in
    let first = c.args.files in
    let last = c.close.result in
    let given = c.in-Ok.ensures.files in
    let back = c.close.ensures in
    ok_on c.read_form-form.result.0
    (c.read_form-form.ensures.read (end_honest old end first last given back clean))
    (λ form reads. subst₂ AreAlike (first_image old end first last given back)
    (last_image old end first last given back)
    (alike old end reads.0 reads.1 c.in-Ok.ensures.size))

-- files list the older form of the books that they hold
pub returns-clause-form : goal.returns-clause-form
returns-clause-form g c clean =
    let old = c.in-Ok.files in
    let end = c.read_form-form.result.1 in
    let first = c.args.files in
    let last = c.close.result in
    let given = c.in-Ok.ensures.files in
    let back = c.close.ensures in
    let reads = c.read_form-form.ensures.read (end_honest old end first last given back clean) in
    if_ok c.read_form-form.result.0 reads reads (λ form reads same held.
    held_form_listed old end reads.0 reads.1 c.in-Ok.ensures.size held.form
    (subst (HoldsTables (old_schema held.form)) (sym (first_image old end first last given back))
    held.held) ∙ sym reads.2)

pub returns-clause-there : goal.returns-clause-there
returns-clause-there g c =
    let old = c.in-Ok.files in
    let end = c.read_form-form.result.1 in
    let first = c.args.files in
    let last = c.close.result in
    let given = c.in-Ok.ensures.files in
    let back = c.close.ensures in
    let told = err_given {Given = AreClean g.D.Disk last.log last.db}
    (IsToldWithout (HasSomeFile old)) c.read_form-form.result.0
    (λ clean. c.read_form-form.ensures.cause (end_honest old end first last given back clean)) in
    if_err c.read_form-form.result.0 told told (λ fault told same clean.
    told_so (HasSomeFile old) (HoldsSome (image_of g.D.Disk first)) (λ some.
    some_file old c.in-Ok.ensures.size (subst HoldsSome
    (sym (first_image old end first last given back)) some)) fault (told clean))

pub returns-clause-honest : goal.returns-clause-honest
returns-clause-honest g c clean =
    let old = c.in-Ok.files in
    let end = c.read_form-form.result.1 in
    let first = c.args.files in
    let last = c.close.result in
    let given = c.in-Ok.ensures.files in
    let back = c.close.ensures in
    first_honest old end first last given back
    (c.read_form-form.ensures.honest (end_honest old end first last given back clean))

pub returns-clause-kept : goal.returns-clause-kept
returns-clause-kept g c clean =
    let old = c.in-Ok.files in
    let end = c.read_form-form.result.1 in
    let first = c.args.files in
    let last = c.close.result in
    let given = c.in-Ok.ensures.files in
    let back = c.close.ensures in
    files_kept old end first last given back c.in-Ok.ensures.size
    (c.read_form-form.ensures.kept (end_honest old end first last given back clean))
