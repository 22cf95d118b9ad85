use Rattle.std.proofs.Common.{◌≡◌, ◌==◌, ◌∙◌, ◌++◌, ◌∷◌, [], Ok, Err, refl, sym, ap, subst}
use Rattle.std.proofs.Common.{Global, Vec, ℕ}
use Rattle.std.proofs.lemmas.List.{length-map}
use Rattle.std.proofs.lemmas.Result.{err_from_is_err_and}
use Rattle.book_model.specs.declared.answer.Accepted.{Accepted}
use Rattle.book_model.specs.declared.fault.LedgerFault.TheVariants.{Memory}
use Rattle.book_model.specs.Words.{accept_outcome}
use Rattle.book_core.specs.Words.{AcceptsOf, IsTransition, TakesOf, first_of, records_in}
use Rattle.book_core.proofs.OpenAnswers.{accept_open}
use Rattle.book_core.proofs.SubmissionLemmas.{first_is, some_in}
use Rattle.plain_ledger.specs.Journals.{entries_in}
use Rattle.plain_ledger.specs.LedgerBook.{ledger_book, seen_in}
use Rattle.plain_ledger.specs.PlainBook.{book_in, naming_in}
use Rattle.plain_ledger.proofs.JournalLemmas.{first_refused, first_taken}
use Rattle.plain_ledger.proofs.PlainCallLemmas.{call_in_memory, ledger_work}
use Rattle.plain_ledger.proofs.ledger.PlainLedgerLedger.accept_many.Goals as goal

pub returns-in_err-answers-clause-takes : goal.returns-in_err-answers-clause-takes
returns-in_err-answers-clause-takes g c =
    let p = err_from_is_err_and c.from_residual.result c.from_residual.ensures.1 in
    let old = c.args.self.now in
    let names = g.N.Naming.name_of (naming_in old.books) in
    let records = records_in c.args.records.now in
    subst (λ result. IsTransition (seen_in old) (seen_in old)
    (TakesOf names c.args.import.now records result))
    (sym (p.1 ∙ ap Err p.2))
    (call_in_memory (λ (accepted : Accepted). accepted) names (ledger_book old) (ledger_book old)
    (Err Memory) (accept_outcome names (first_of records))
    (accept_open names (ledger_book old) (first_of records)) tt refl).work

pub returns-in_err-accepted-clause-takes : goal.returns-in_err-accepted-clause-takes
returns-in_err-accepted-clause-takes g c =
    let p = err_from_is_err_and c.from_residual-in_err-accepted.result
    c.from_residual-in_err-accepted.ensures.1 in
    let old = c.args.self.now in
    let new = c.keep_told.new.self in
    let names = g.N.Naming.name_of (naming_in old.books) in
    let records = records_in c.args.records.now in
    let import = c.args.import.now in
    let bytes = c.deref.result.now in
    let fault = c.in_err-accepted.field-0.0 in
    let first : first_of records ≡ bytes = first_is c.args.records.now c.index-records-0.result
    c.requires.some c.index-records-0.is ∙ sym c.deref.ensures.value in
    let told = c.in_err-accepted.ensures in
    subst (λ result. IsTransition (seen_in old) (seen_in new) (TakesOf names import records result))
    (sym (p.1 ∙ ap Err p.2))
    (ledger_work old new (TakesOf names import records (Err fault)) told.books.naming
    (first_refused names import records c.is_one.result bytes (book_in old.books)
    (book_in new.books) (entries_in old.journal) (entries_in new.journal) fault first
    told.books.call told.said))

pub returns-clause-takes : goal.returns-clause-takes
returns-clause-takes g c =
    let old = c.args.self.now in
    let new = c.keep_told.new.self in
    let names = g.N.Naming.name_of (naming_in old.books) in
    let records = records_in c.args.records.now in
    let import = c.args.import.now in
    let bytes = c.deref.result.now in
    let accepted = c.in_ok-accepted.accepted in
    let first : first_of records ≡ bytes = first_is c.args.records.now c.index-records-0.result
    c.requires.some c.index-records-0.is ∙ sym c.deref.ensures.value in
    let told = c.in_ok-accepted.ensures in
    let all : c.push.new.self.items ≡ accepted ∷ [] = c.in_ok-push.ensures.items
    ∙ ap (λ before. before ++ accepted ∷ []) c.in_ok-answers.ensures.items in
    subst (λ answers. IsTransition (seen_in old) (seen_in new)
    (AcceptsOf names import records answers))
    (sym all)
    (ledger_work old new (AcceptsOf names import records (accepted ∷ [])) told.books.naming
    (first_taken names import records c.is_one.result bytes (book_in old.books)
    (book_in new.books) (entries_in old.journal) (entries_in new.journal) accepted
    (some_in c.args.records.now c.requires.some) first
    (c.is_one.ensures ∙ ap (λ n. 1 == n)
    (sym (length-map c.args.records.now (λ (one : Vec ℕ Global). one.items))))
    told.books.call told.said))
