use Rattle.std.proofs.Common.{◌∙◌, inr, refl, subst, sym}
use Rattle.book_model.specs.declared.fault.LedgerFault.TheVariants as ledger
use Rattle.command_line.specs.declared.request.BookRequest.TheVariants as book
use Rattle.command_line.specs.declared.request.Ruling.TheVariants as ruling
use Rattle.without_books.specs.declared.command_fault.CommandFault.TheVariants as fault
use Rattle.chargectl.specs.Commands.{IsCreditFault}
use Rattle.chargectl.proofs.CommandLemmas.{said_so}
use Rattle.chargectl.proofs.DryRunLemmas.{none_asked}
use Rattle.chargectl.proofs.asked_rulings.asked_credit.Goals as goal

-- a word is not what it has to be
pub returns-in-Err : goal.returns-in-Err
returns-in-Err g c = λ files.
    subst (λ said. IsCreditFault said ((g.S.Repository.shelf c.args.repository.now).refuses c.args.book.now)
    c.in-Err.fault)
    (sym c.in-Err.is ∙ c.credit_words.ensures.said) refl

-- there is no memory for the reason
pub returns-in_err-text : goal.returns-in_err-text
returns-in_err-text g c = λ files.
    let refuses = (g.S.Repository.shelf c.args.repository.now).refuses c.args.book.now in
    none_asked files
    (book.Rule (ruling.Credit c.args.period c.args.centre c.args.amount c.args.reason)) refuses
    c.from_residual-in_err-text.result (fault.Ledger ledger.Memory)
    c.from_residual-in_err-text.ensures.0 c.from_residual-in_err-text.ensures.1
    (said_so c.in-Ok.said refuses (fault.Ledger ledger.Memory)
    (sym c.credit_words.ensures.said ∙ c.in-Ok.is) (inr refl))
