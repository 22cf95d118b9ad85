-- How an audit ends.
use Rattle.std.proofs.Common.{◌≡◌, ℕ, List, Option, Result, Ok, Err, ap, inl, inr, refl, subst, sym}
use Rattle.std.proofs.KnownBytes.{Appends-nil}
use Rattle.book_model.specs.declared.fault.LedgerFault.TheVariants as ledger
use Rattle.book_audit.specs.declared.audited.Audited.{Audited}
use Rattle.book_audit.specs.declared.audited.Audited.TheVariants.{Sound, Unsound}
use Rattle.book_audit.specs.declared.finding.Finding.{Finding}
use Rattle.book_audit.specs.Findings.{unsound_text}
use Rattle.book_audit.specs.Texts.{IsAuditText}
use Rattle.without_books.specs.declared.command_fault.CommandFault.{CommandFault}
use Rattle.without_books.specs.declared.command_fault.CommandFault.TheVariants as fault
use Rattle.chargectl.specs.Audits.{EndsAudit}
use Rattle.chargectl.specs.Commands.{IsPrinted}

-- there was no memory for the text
pub audit_memory : (audited : Audited) (held : Option (List ℕ)) (Failed : Type 0) (why : CommandFault)
    → why ≡ fault.Ledger ledger.Memory → EndsAudit (Ok audited) held held Failed (Err why)
audit_memory (Sound counts) held Failed why is = (inl is, 0, Appends-nil held)
audit_memory (Unsound finding) held Failed why is = inr (refl, ap Err is)

-- unsound books were found, and it was printed, as far as the output took it
pub audit_unsound : (audited : Audited) (finding : Finding) (text : List ℕ)
    (held holds : Option (List ℕ)) (Failed : Type 0) (written : Result (Unit {0}) CommandFault)
    → audited ≡ Unsound finding → IsAuditText audited text → IsPrinted text held holds Failed written
    → EndsAudit (Ok audited) held holds Failed (Err fault.Unsound)
audit_unsound audited finding text held holds Failed written is said printed =
    let line : text ≡ unsound_text finding = subst (λ audited. IsAuditText audited text) is said in
    subst (λ audited. EndsAudit (Ok audited) held holds Failed (Err fault.Unsound)) (sym is)
    (inl (record {
      written = written;
      printed = subst (λ text. IsPrinted text held holds Failed written) line printed;
      ends = refl;
    }))
