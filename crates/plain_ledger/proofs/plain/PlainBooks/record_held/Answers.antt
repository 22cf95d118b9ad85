use Rattle.std.proofs.Common.{◌∙◌, Ok, ap, ok_or, subst, sym}
use Rattle.book_model.specs.declared.fault.LedgerFault.TheVariants.{NoSuchRecord}
use Rattle.book_model.specs.Words.{IsUsage}
use Rattle.plain_ledger.proofs.ChosenLemmas.{named-found, named-missing}
use Rattle.plain_ledger.proofs.plain.PlainBooks.record_held.Goals as goal

pub returns-in_default-clause-bytes : goal.returns-in_default-clause-bytes
returns-in_default-clause-bytes g c =
    let ledger = c.args.self.now in
    ap (λ found. ok_or found NoSuchRecord)
    (named-missing ledger.kept ledger.rising c.args.name.now (sym c.in_default.ensures.value))

pub returns-clause-bytes : goal.returns-clause-bytes
returns-clause-bytes g c =
    let ledger = c.args.self.now in
    ap (λ found. ok_or found NoSuchRecord)
    (named-found ledger.kept ledger.rising c.args.name.now c.in-Some.held.now
    (sym c.in-Some.ensures.value))
    ∙ ap Ok (sym (c.in_ok-bytes.ensures.items ∙ c.deref.ensures.value))

pub returns-clause-usage : goal.returns-clause-usage
returns-clause-usage g c =
    subst IsUsage (sym (c.in_ok-bytes.ensures.items ∙ c.deref.ensures.value))
    c.in-Some.held.now.is_usage.usage
