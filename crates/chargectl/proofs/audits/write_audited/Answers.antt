use Rattle.std.proofs.Common.{subst, sym}
use Rattle.streams.specs.Failures.{HasFailed}
use Rattle.book_audit.specs.Texts.{IsAuditText}
use Rattle.chargectl.proofs.AuditLemmas.{audit_memory, audit_unsound}
use Rattle.chargectl.proofs.audits.write_audited.Goals as goal

pub returns-in-Err : goal.returns-in-Err
returns-in-Err g c =
    audit_memory c.args.audited.now (g.O.Write.contents c.args.output)
    (∥ HasFailed g.O.Writer.may_answer c.args.output ∥₁) c.from.result c.from.ensures

pub returns-in-Unsound : goal.returns-in-Unsound
returns-in-Unsound g c =
    audit_unsound c.args.audited.now _ c.into_bytes.result.items _ _
    (∥ HasFailed g.O.Writer.may_answer c.print-written.result.1 ∥₁) _ c.in-Unsound.is
    (subst (λ text. IsAuditText c.args.audited.now text.items) (sym c.into_bytes.ensures.value)
    c.in-Ok.ensures) c.print-written.ensures
