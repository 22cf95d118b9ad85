use Rattle.std.proofs.Common.{◌≡◌, ◌∙◌, Ok, Some, ap, false, subst, sym, true}
use Rattle.table_model.specs.Words.{tables_of}
use Rattle.tree_tables.specs.States.{state}
use Rattle.book_sessions.proofs.Words.{Trees, file_names, HasFaultCause, are_unused}
use Rattle.book_sessions.proofs.ResumeParts.{told_absent, told_filled, told_gone, told_in_vain}
use Rattle.book_sessions.proofs.ResumeParts.{told_resumed, unwritten_stays}
use Rattle.book_sessions.proofs.new_books.resume_in.Goals as goal

pub returns-in_default-clause-held : goal.returns-in_default-clause-held
returns-in_default-clause-held g c = λ book stands clean trees left.
    let looked = c.look_for_new-found in
    told_gone (state g.S.Store c.args.store) (state g.S.Store looked.result.1) looked.result.0
    looked.ensures.looks looked.ensures.row (c.in-Ok.is ∙ ap Ok c.in_default.is) book stands
    (c.make_in.ensures.clean clean)

pub returns-in_default-clause-told : goal.returns-in_default-clause-told
returns-in_default-clause-told g c = λ book stands clean.
    let looked = c.look_for_new-found in
    told_gone (state g.S.Store c.args.store) (state g.S.Store looked.result.1) looked.result.0
    looked.ensures.looks looked.ensures.row (c.in-Ok.is ∙ ap Ok c.in_default.is) book stands
    (c.make_in.ensures.clean clean)

pub returns-in-Err-clause-told : goal.returns-in-Err-clause-told
returns-in-Err-clause-told g c = λ book stands clean.
    let There : Type 0 = are_unused (tables_of file_names book) ≡ false in
    subst (HasFaultCause ⊥ There) (sym c.fault_of.ensures) (told_in_vain ⊥ There c.in-Err.error)

pub returns-in-Err-clause-there : goal.returns-in-Err-clause-there
returns-in-Err-clause-there g c = λ there.
    let looked = c.look_for_new-found in
    unwritten_stays (state g.S.Store c.args.store) (state g.S.Store looked.result.1)
    (λ (trees : Trees). g.met.S.Store.settled c.args.store trees) looked.ensures.looks.survives

pub returns-then-is_new-clause-there : goal.returns-then-is_new-clause-there
returns-then-is_new-clause-there g c = λ there.
    let looked = c.look_for_new-found in
    unwritten_stays (state g.S.Store c.args.store) (state g.S.Store looked.result.1)
    (λ (trees : Trees). g.met.S.Store.settled c.args.store trees) looked.ensures.looks.survives

pub returns-else-is_new-clause-there : goal.returns-else-is_new-clause-there
returns-else-is_new-clause-there g c = λ there.
    let looked = c.look_for_new-found in
    unwritten_stays (state g.S.Store c.args.store) (state g.S.Store looked.result.1)
    (λ (trees : Trees). g.met.S.Store.settled c.args.store trees) looked.ensures.looks.survives

pub returns-in_default-clause-there : goal.returns-in_default-clause-there
returns-in_default-clause-there g c = λ there rests clean trees left.
    let looked = c.look_for_new-found in
    told_absent (state g.S.Store c.args.store) (state g.S.Store looked.result.1) looked.result.0
    looked.ensures.looks looked.ensures.row (c.in-Ok.is ∙ ap Ok c.in_default.is) there
    (c.make_in.ensures.clean clean)

pub returns-then-is_new-clause-told : goal.returns-then-is_new-clause-told
returns-then-is_new-clause-told g c = λ book stands clean.
    let looked = c.look_for_new-found in
    told_resumed (state g.S.Store c.args.store) (state g.S.Store looked.result.1) looked.result.0
    looked.ensures.looks looked.ensures.row true
    (c.in-Ok.is ∙ ap Ok (c.in-Some.is ∙ ap Some c.if-is_new.true)) book stands clean

pub returns-then-is_new-clause-left : goal.returns-then-is_new-clause-left
returns-then-is_new-clause-left g c = λ empty clean trees left.
    let looked = c.look_for_new-found in
    told_filled (state g.S.Store c.args.store) (state g.S.Store looked.result.1) looked.result.0
    looked.ensures.looks looked.ensures.row true
    (c.in-Ok.is ∙ ap Ok (c.in-Some.is ∙ ap Some c.if-is_new.true)) empty clean

pub returns-else-is_new-clause-told : goal.returns-else-is_new-clause-told
returns-else-is_new-clause-told g c = λ book stands clean.
    let looked = c.look_for_new-found in
    told_resumed (state g.S.Store c.args.store) (state g.S.Store looked.result.1) looked.result.0
    looked.ensures.looks looked.ensures.row false
    (c.in-Ok.is ∙ ap Ok (c.in-Some.is ∙ ap Some c.if-is_new.false)) book stands clean
