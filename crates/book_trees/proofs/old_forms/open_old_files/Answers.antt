use Rattle.std.proofs.Common.{◌≡◌, subst}
use Rattle.std.specs.Prelude.{IfErr, IfOk, OnOk}
use Rattle.std.proofs.Math.Logic.{∥∥₁_map}
use Rattle.book_trees.proofs.AlikeFiles.{form_on, kept_on, lists_back, none_newer_so, shown_so}
use Rattle.book_trees.proofs.AlikeFiles.{tables_back, tables_on}
use Rattle.book_trees.proofs.Refused.{told_so}
use Rattle.book_trees.proofs.Results.{if_err, if_ok}
use Rattle.book_trees.specs.LedgerFiles.{image_of, HoldsBooks, HoldsOldBooks}
use Rattle.book_trees.specs.OldForms.{old_opening, AreAlike, HoldsForm, HoldsOldForm, HoldsSome}
use Rattle.book_trees.specs.Refusals.{IsRefusedWithout}
use Rattle.book_trees.specs.Schema.{books_schema, old_schema}
use Rattle.book_trees.proofs.old_forms.open_old_files.Goals as goal

-- the older form that was read is opened,
pub returns-in-Ok-clause-opened : goal.returns-in-Ok-clause-opened
returns-in-Ok-clause-opened g c =
    let files = c.open_form_files in
    if_ok files.result files.ensures.opened files.ensures.opened
    (λ store opened same. (c.in-Ok.form, opened))

pub returns-in-Ok-clause-honest : goal.returns-in-Ok-clause-honest
returns-in-Ok-clause-honest g c =
    let files = c.open_form_files in
    if_ok files.result files.ensures.honest files.ensures.honest
    (λ store honest same clean. c.listed_form-form.ensures.honest (honest clean))

-- from files that recover to the same pages as the first
pub returns-in-Ok-clause-found : goal.returns-in-Ok-clause-found
returns-in-Ok-clause-found g c =
    let one = image_of g.D.Disk c.args.files in
    let other = image_of g.D.Disk c.listed_form-form.result.1 in
    let files = c.open_form_files in
    if_ok files.result files.ensures.honest files.ensures.found (λ store honest shows clean.
    shown_so one other
    (subst (λ form. OnOk form (AreAlike one other)) c.in-Ok.is
    (c.listed_form-form.ensures.alike (honest clean))) c.in-Ok.form
    (subst (λ form. IfOk form (λ form. (old : HoldsOldBooks one) → old.form ≡ form)) c.in-Ok.is
    (c.listed_form-form.ensures.form (honest clean))) store (shows clean))

pub returns-in-Ok-clause-older : goal.returns-in-Ok-clause-older
returns-in-Ok-clause-older g c =
    let one = image_of g.D.Disk c.args.files in
    let other = image_of g.D.Disk c.listed_form-form.result.1 in
    let files = c.open_form_files in
    if_ok files.result files.ensures.honest files.ensures.older (λ store honest older clean held.
    older clean (tables_on one other
    (subst (λ form. OnOk form (AreAlike one other)) c.in-Ok.is
    (c.listed_form-form.ensures.alike (honest clean))) held))

pub returns-in-Ok-clause-held : goal.returns-in-Ok-clause-held
returns-in-Ok-clause-held g c =
    let one = image_of g.D.Disk c.args.files in
    let other = image_of g.D.Disk c.listed_form-form.result.1 in
    let files = c.open_form_files in
    if_ok files.result files.ensures.honest files.ensures.held (λ store honest held clean.
    ∥∥₁_map (held clean) λ there. record {
      form = c.in-Ok.form;
      held = tables_back one other
          (subst (λ form. OnOk form (AreAlike one other)) c.in-Ok.is
          (c.listed_form-form.ensures.alike (honest clean))) there;
    })

pub returns-in-Ok-clause-form : goal.returns-in-Ok-clause-form
returns-in-Ok-clause-form g c =
    let one = image_of g.D.Disk c.args.files in
    let other = image_of g.D.Disk c.listed_form-form.result.1 in
    let files = c.open_form_files in
    if_ok files.result files.ensures.honest files.ensures.form (λ store honest within clean.
    none_newer_so one other
    (subst (λ form. OnOk form (AreAlike one other)) c.in-Ok.is
    (c.listed_form-form.ensures.alike (honest clean))) c.in-Ok.form
    (subst (λ form. IfOk form (λ form. (old : HoldsOldBooks one) → old.form ≡ form)) c.in-Ok.is
    (c.listed_form-form.ensures.form (honest clean))) (within clean))

-- Files that were not opened are those that were read.
pub returns-in-Ok-clause-there : goal.returns-in-Ok-clause-there
returns-in-Ok-clause-there g c =
    let one = image_of g.D.Disk c.args.files in
    let other = image_of g.D.Disk c.listed_form-form.result.1 in
    let files = c.open_form_files in
    if_err files.result files.ensures.falls files.ensures.there (λ refusal falls told clean.
    told_so (HoldsForm c.in-Ok.form other) (HoldsOldForm one)
    (form_on one other
    (subst (λ form. OnOk form (AreAlike one other)) c.in-Ok.is
    (c.listed_form-form.ensures.alike (falls clean))) c.in-Ok.form
    (subst (λ form. IfOk form (λ form. (old : HoldsOldBooks one) → old.form ≡ form)) c.in-Ok.is
    (c.listed_form-form.ensures.form (falls clean)))) (old_opening refusal.0) (told clean))

pub returns-in-Ok-clause-this : goal.returns-in-Ok-clause-this
returns-in-Ok-clause-this g c =
    let one = image_of g.D.Disk c.args.files in
    let other = image_of g.D.Disk c.listed_form-form.result.1 in
    let files = c.open_form_files in
    if_err files.result files.ensures.falls files.ensures.this (λ refusal falls told apart clean.
    told_so (HoldsBooks other) (HoldsBooks one)
    (tables_on one other (subst (λ form. OnOk form (AreAlike one other)) c.in-Ok.is
    (c.listed_form-form.ensures.alike (falls clean)))) (old_opening refusal.0)
    (told apart clean))

pub returns-in-Ok-clause-listed : goal.returns-in-Ok-clause-listed
returns-in-Ok-clause-listed g c =
    let one = image_of g.D.Disk c.args.files in
    let other = image_of g.D.Disk c.listed_form-form.result.1 in
    let files = c.open_form_files in
    if_err files.result files.ensures.falls files.ensures.listed (λ refusal falls lists is clean.
    lists_back one other (subst (λ form. OnOk form (AreAlike one other)) c.in-Ok.is
    (c.listed_form-form.ensures.alike (falls clean))) (lists is clean))

pub returns-in-Ok-clause-unharmed : goal.returns-in-Ok-clause-unharmed
returns-in-Ok-clause-unharmed g c =
    let one = image_of g.D.Disk c.args.files in
    let other = image_of g.D.Disk c.listed_form-form.result.1 in
    let files = c.open_form_files in
    if_err files.result files.ensures.falls files.ensures.unharmed (λ refusal falls kept clean.
    kept_on c.args.files c.listed_form-form.result.1 refusal.1
    (subst (λ form. OnOk form (AreAlike one other)) c.in-Ok.is
    (c.listed_form-form.ensures.alike (falls clean)))
    (c.listed_form-form.ensures.kept (falls clean)) (kept clean))

-- Or the form was not read.
pub returns-in-Err-clause-there : goal.returns-in-Err-clause-there
returns-in-Err-clause-there g c clean =
    let one = image_of g.D.Disk c.args.files in
    let last = c.listed_form-form.result.1 in
    told_so (HoldsSome one) (HoldsOldForm one) (λ old. (old_schema old.form, old.own.held))
    c.in-Err.fault (subst (λ form. IfErr form (λ fault.
    IsRefusedWithout g.D.Disk (HoldsSome one) fault last)) c.in-Err.is
    c.listed_form-form.ensures.there clean)

pub returns-in-Err-clause-this : goal.returns-in-Err-clause-this
returns-in-Err-clause-this g c other clean =
    let one = image_of g.D.Disk c.args.files in
    let last = c.listed_form-form.result.1 in
    told_so (HoldsSome one) (HoldsBooks one) (λ held. (books_schema, held))
    c.in-Err.fault (subst (λ form. IfErr form (λ fault.
    IsRefusedWithout g.D.Disk (HoldsSome one) fault last)) c.in-Err.is
    c.listed_form-form.ensures.there clean)

pub returns-in-Err-clause-listed : goal.returns-in-Err-clause-listed
returns-in-Err-clause-listed g c is = absurd (let other = is in cc)

pub returns-in-Err-clause-unharmed : goal.returns-in-Err-clause-unharmed
returns-in-Err-clause-unharmed g c = c.listed_form-form.ensures.kept
