use Rattle.std.proofs.Common.{◌∙◌, ap, map, sym, refl}
use Rattle.table_model.specs.Words.{variant_read}
use Rattle.table_ledger.proofs.Words.{stored_entry}
use Rattle.table_ledger.proofs.TrailTries.{members_dated}
use Rattle.table_ledger.proofs.TryLemmas.{saw_found, saw_none}
use Rattle.table_ledger.proofs.LooksRefused.{look_given_up, look_refused}
use Rattle.table_ledger.proofs.trails.look_for_kin.Goals as goal

pub returns-clause-shown : goal.returns-clause-shown
returns-clause-shown g c =
    members_dated c.deref.result.now (c.can_show.ensures.shown c.if-not-can_show.false)
    c.in_ok-members.members.items
    (c.in_ok-members.ensures.made
    ∙ ap (λ rows. map variant_read (map stored_entry rows))
    (c.deref-2.ensures.value ∙ sym c.deref.ensures.value))

-- ---- a look that fails leaves all as it was

pub returns-in_err-rows-clause-looks : goal.returns-in_err-rows-clause-looks
returns-in_err-rows-clause-looks g c =
    look_refused _ c.from_residual.ensures.0 saw_none c.in_err-rows.ensures.looks

pub returns-then-not-can_show-clause-looks : goal.returns-then-not-can_show-clause-looks
returns-then-not-can_show-clause-looks g c =
    look_given_up _ refl (saw_found c.in_ok-rows.ensures.looks)

pub returns-in_err-members-clause-looks : goal.returns-in_err-members-clause-looks
returns-in_err-members-clause-looks g c =
    look_given_up _ c.from_residual-in_err-members.ensures.0 (saw_found c.in_ok-rows.ensures.looks)

pub returns-in_err-choices-clause-looks : goal.returns-in_err-choices-clause-looks
returns-in_err-choices-clause-looks g c =
    look_refused _ c.from_residual-in_err-choices.ensures.0
    (saw_found c.in_ok-rows.ensures.looks) c.in_err-choices.ensures.looks
