-- Texts that are written while books are read: how their results leave the books.
use Rattle.std.proofs.Common.{◌≡◌, ◌∙◌, Bool, true, false, true≢false, refl, sym, Result, Ok, Err}
use Rattle.std.proofs.Common.{IfErr}
use Rattle.book_core.specs.Words.{Reopens}
use Rattle.book_lists.specs.declared.fault.ReportFault.{ReportFault}
use Rattle.book_lists.proofs.Words.{LedgerFault, report_fault_of, is_hindrance, refusal_in}
use Rattle.book_lists.proofs.Words.{is_write_or_memory}
use Rattle.book_lists.proofs.ReadingLemmas.{IsAlike, reopens_alike}
use Rattle.book_lists.proofs.ShownLemmas.{answered, stays_open}
use Rattle.book_model.specs.declared.fault.LedgerFault.TheVariants as ledger
use Rattle.book_lists.specs.declared.fault.ReportFault.TheVariants as report

-- a result that is no refusal of the ledger is like an answer of it
unrefused : (result : Result (Unit {0}) ReportFault)
    → IfErr result (λ fault. is_write_or_memory fault ≡ true)
    → IsAlike answered (refusal_in result)
unrefused (Ok done) plain = record { reopen = refl; store = refl }
unrefused (Err report.Write) plain = record { reopen = refl; store = refl }
unrefused (Err report.Memory) plain = record { reopen = refl; store = refl }
unrefused (Err (report.Ledger fault)) plain = cc

-- so an open ledger that stays so is left as by an answer
pub stays_plain : (result : Result (Unit {0}) ReportFault) (was is : Bool)
    → IfErr result (λ fault. is_write_or_memory fault ≡ true) → is ≡ was → was ≡ false
    → Reopens (refusal_in result) was is
stays_plain result was is plain stays at_work =
    reopens_alike answered (refusal_in result) was is (unrefused result plain)
    (stays_open was is stays at_work)

pub unrefused_hinders : (result : Result (Unit {0}) ReportFault)
    → IfErr result (λ fault. is_write_or_memory fault ≡ true)
    → IfErr result (λ fault. is_hindrance fault ≡ true)
unrefused_hinders (Ok done) plain = tt
unrefused_hinders (Err report.Write) plain = refl
unrefused_hinders (Err report.Memory) plain = refl
unrefused_hinders (Err (report.Ledger fault)) plain = cc

-- books that answered were open
pub was_open : {P : Type 0} (was : Bool) → false ≡ was → was ≡ true → P
was_open was is reopen = absurd (true≢false (sym reopen ∙ sym is))

-- a refusal, as a report passes it on
pub alike_refusal : {V : Type 0} (fault : LedgerFault)
    → IsAlike {V = V} (Err fault) (refusal_in (Err (report_fault_of fault)))
alike_refusal ledger.Memory = record { reopen = refl; store = refl }
alike_refusal ledger.Store = record { reopen = refl; store = refl }
alike_refusal ledger.Reopen = record { reopen = refl; store = refl }
alike_refusal fault = record { reopen = refl; store = refl }
