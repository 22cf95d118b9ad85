use Rattle.std.proofs.Common.{◌≡◌, ◌∙◌, ◌∷◌, [], ap, subst, sym, Err, None, Ok}
use Rattle.std.proofs.lemmas.Result.{err_from_is_err_and}
use Rattle.book_model.specs.declared.answer.Accepted.{Accepted}
use Rattle.book_model.specs.Words.{accept_outcome}
use Rattle.book_core.specs.Words.{IsCall, IsTransition, Takes, TakesOf, records_in}
use Rattle.book_core.proofs.SubmissionLemmas.{alone_some, alone_usage, called_alone, of_no_import}
use Rattle.book_core.proofs.SubmissionLemmas.{refusal_alone}
use Rattle.book_core.proofs.TransitionLemmas.{work_as}
use Rattle.table_ledger.specs.LedgerState.{ledger_state, seen_in}
use Rattle.table_ledger.proofs.OneCall.{call_reopen, call_wanting}
use Rattle.table_ledger.proofs.ledger.TableLedgerLedger.accept.Goals as goal

pub returns-then-self : goal.returns-then-self
returns-then-self g c =
    call_reopen (ledger_state g.N.Naming.name_of c.args.self.now) c.if-self.true

-- no memory was left for the record
pub returns-in_err-records : goal.returns-in_err-records
returns-in_err-records g c =
    let p = err_from_is_err_and c.from_residual.result c.from_residual.ensures.1 in
    let seen = seen_in g.N.Naming.name_of c.args.self.now in
    subst (λ result. IsCall (λ (accepted : Accepted). accepted) seen seen result
    (accept_outcome seen.naming c.args.bytes.now)) (sym (p.1 ∙ ap Err p.2))
    (call_wanting (ledger_state g.N.Naming.name_of c.args.self.now) c.if-self.false)

pub accept_many-requires-clause-some : goal.accept_many-requires-clause-some
accept_many-requires-clause-some g c =
    alone_some c.deref.result.now c.args.bytes.now
    (ap records_in c.deref.ensures.value ∙ c.in_ok-records.ensures)

pub accept_many-requires-clause-usage : goal.accept_many-requires-clause-usage
accept_many-requires-clause-usage g c =
    alone_usage c.deref.result.now c.args.bytes.now
    (ap records_in c.deref.ensures.value ∙ c.in_ok-records.ensures) c.requires

pub returns-in_err-answers : goal.returns-in_err-answers
returns-in_err-answers g c =
    let exit = c.from_residual-in_err-answers in
    let p = err_from_is_err_and exit.result exit.ensures.1 in
    let old = seen_in g.N.Naming.name_of c.args.self.now in
    let new = seen_in g.N.Naming.name_of c.accept_many.new.self in
    let bytes = c.args.bytes.now in
    let fault = c.in_err-answers.field-0.0 in
    let is : records_in c.deref.result.now ≡ bytes ∷ [] =
    ap records_in c.deref.ensures.value ∙ c.in_ok-records.ensures in
    subst (λ result. IsCall (λ (accepted : Accepted). accepted) old new result
    (accept_outcome old.naming bytes)) (sym (p.1 ∙ ap Err p.2))
    (refusal_alone old.naming bytes fault
    (subst (λ records. IsTransition old new (Takes old.naming records (Err fault))) is
    (work_as old new (TakesOf old.naming None (records_in c.deref.result.now) (Err fault))
    (Takes old.naming (records_in c.deref.result.now) (Err fault))
    (of_no_import old.naming (records_in c.deref.result.now) (Err fault))
    c.in_err-answers.ensures.takes))
    c.in_err-answers.ensures.reopens)

pub returns : goal.returns
returns g c =
    let old = seen_in g.N.Naming.name_of c.args.self.now in
    let new = seen_in g.N.Naming.name_of c.accept_many.new.self in
    let bytes = c.args.bytes.now in
    let answers = c.in_ok-answers.answers in
    let is : records_in c.deref.result.now ≡ bytes ∷ [] =
    ap records_in c.deref.ensures.value ∙ c.in_ok-records.ensures in
    called_alone old.naming bytes answers c.first_answer.result _ c.first_answer.ensures
    (subst (λ records. IsTransition old new (Takes old.naming records (Ok answers))) is
    (work_as old new (TakesOf old.naming None (records_in c.deref.result.now) (Ok answers))
    (Takes old.naming (records_in c.deref.result.now) (Ok answers))
    (of_no_import old.naming (records_in c.deref.result.now) (Ok answers))
    c.in_ok-answers.ensures.takes))
    c.in_ok-answers.ensures.reopens
