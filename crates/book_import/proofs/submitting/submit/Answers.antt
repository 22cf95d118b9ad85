use Rattle.std.proofs.Common.{◌∙◌, ◌==◌, List, None, Option, Ok, Err, Vec, Global, ap, length, sym, subst, ℕ}
use Rattle.std.specs.Prelude.{if◌then◌else◌}
use Rattle.std.proofs.lemmas.List.{length-map}
use Rattle.book_model.specs.declared.answer.Accepted.{Accepted}
use Rattle.book_model.specs.declared.note.Share.{Share}
use Rattle.book_model.specs.declared.note.Stop.{Stop}
use Rattle.book_core.specs.Submissions.{TakesOf, records_in}
use Rattle.book_core.specs.Transition.{IsTransition}
use Rattle.book_import.specs.declared.import_entry.ImportEntry.{ImportEntry}
use Rattle.book_import.specs.EntryWork.{hears, if_whole, says_next}
use Rattle.book_import.proofs.submitting.submit.Goals as goal

pub returns-in-Ok-clause-takes : goal.returns-in-Ok-clause-takes
returns-in-Ok-clause-takes g c =
    let old = g.L.Ledger.seen c.args.ledger.now in
    let new = g.L.Ledger.seen c.accept_many.new.self in
    subst (λ (import : Option Share). IsTransition old new
    (TakesOf old.naming import (records_in c.args.waiting.now) (Ok c.in-Ok.answers)))
    (ap (λ (entry : ImportEntry). entry.share) c.say.ensures) c.in-Ok.ensures.takes

pub returns-in-Ok-clause-heard : goal.returns-in-Ok-clause-heard
returns-in-Ok-clause-heard g c =
    let given = c.as_slice-given.result.now in
    let waiting = c.args.waiting.now in
    let ending = c.args.ending in
    let next = says_next c.args.entry.now c.args.counts.now ending in
    c.hear.ensures
    ∙ ap (λ (ended : Option Stop). hears given ended c.say.new.self)
    (c.end_if_whole.ensures
    ∙ ap (λ (count : ℕ). if length given == count then ending else None)
    (sym (length-map waiting (λ (one : Vec ℕ Global). one.items))))
    ∙ ap (λ (entry : ImportEntry). hears given (if_whole given (records_in waiting) ending) entry)
    c.say.ensures
    ∙ ap (λ (all : List Accepted). hears all (if_whole all (records_in waiting) ending) next)
    c.as_slice-given.ensures.value

pub returns-in-Err-clause-takes : goal.returns-in-Err-clause-takes
returns-in-Err-clause-takes g c =
    let old = g.L.Ledger.seen c.args.ledger.now in
    let new = g.L.Ledger.seen c.accept_many.new.self in
    subst (λ (import : Option Share). IsTransition old new
    (TakesOf old.naming import (records_in c.args.waiting.now) (Err c.in-Err.fault)))
    (ap (λ (entry : ImportEntry). entry.share) c.say.ensures) c.in-Err.ensures.takes
