use Rattle.std.proofs.Common.{◌∙◌, ap, subst, sym}
use Rattle.sqlite_store.specs.Unopened.{state_of, HasSomeFile, IsFullFile}
use Rattle.book_trees.proofs.Refused.{error_told}
use Rattle.book_trees.specs.OldForms.{form_listed}
use Rattle.book_trees.specs.Refusals.{IsToldWithout}
use Rattle.book_trees.specs.declared.faults.OpenFault.{OpenFault}
use Rattle.book_trees.proofs.old_forms.read_form.Goals as goal

-- the form is the one that the rows list
pub returns-in-Ok-clause-read : goal.returns-in-Ok-clause-read
returns-in-Ok-clause-read g c clean = (
  c.in-Ok.listed.items,
  c.in-Ok.ensures.ok clean,
  c.form_listed.ensures ∙ ap form_listed c.as_slice.ensures.value,
)

-- where it could not be read, that is told only without a file
pub returns-in-Err-clause-cause : goal.returns-in-Err-clause-cause
returns-in-Err-clause-cause g c clean =
    let old = c.args.files in
    let end = c.read_catalog.new.self in
    subst (λ (fault : OpenFault). IsToldWithout (HasSomeFile old) fault) (sym c.fault_of.ensures)
    (error_told (state_of old).faults (state_of end).faults (IsFullFile end) (HasSomeFile old)
    (HasSomeFile old) (λ some. some) c.in-Err.error (c.in-Err.ensures.cause clean))
