-- How an audit ends, of books or of a copy of them.
use Rattle.std.specs.Prelude.{◌≡◌, ◌⊎◌, false, ℕ, List, Option, None, Result, Ok, Err}
use Rattle.book_model.specs.declared.fault.LedgerFault.TheVariants as ledger
use Rattle.book_audit.specs.declared.audited.Audited.{Audited}
use Rattle.book_audit.specs.declared.audited.Audited.TheVariants.{Sound, Unsound}
use Rattle.book_audit.specs.declared.finding.Finding.{Finding}
use Rattle.book_audit.specs.Copies.{IsAudited, IsCopied}
use Rattle.book_audit.specs.Findings.{unsound_text}
use Rattle.book_audit.specs.Texts.{sound_text}
use Rattle.named_books.specs.declared.repository.RepositoryFault.{RepositoryFault}
use Rattle.named_books.specs.Shelves.{Shelf, IsThere, IsUntouched}
use Rattle.without_books.specs.declared.command_fault.CommandFault.{CommandFault}
use Rattle.without_books.specs.declared.command_fault.CommandFault.TheVariants as fault
use Rattle.without_books.specs.declared.ended.Ended.{Ended}
use Rattle.without_books.specs.Faults.{shelf_fault}
use Rattle.chargectl.specs.Commands.{IsPrinted, IsRefusedBy}

-- Books that are unsound end the command so, whatever becomes of the line that says it: it is written, or
-- the output fails, and has a prefix of it.
pub record EndsUnsound (finding : Finding) (held holds : Option (List ℕ)) (Failed : Type 0)
    (came : Result (Unit {0}) CommandFault) : Type 0 where
  pub written : Result (Unit {0}) CommandFault
  pub printed : IsPrinted (unsound_text finding) held holds Failed written
  pub ends : came ≡ Err fault.Unsound

-- Of sound books the lines are written, or a prefix of them where the output fails, or nothing where there
-- was no memory for them. Unsound ones are called so, unless there was no memory for that. Of books that
-- were not opened nothing is written.
abbrev pub EndsAudit : Result Audited RepositoryFault → Option (List ℕ) → Option (List ℕ) → Type 0
    → Result (Unit {0}) CommandFault → Type 0
EndsAudit (Ok (Sound counts)) held holds Failed came =
    IsPrinted (sound_text counts) held holds Failed came
EndsAudit (Ok (Unsound finding)) held holds Failed came = EndsUnsound finding held holds Failed came
    ⊎ ((holds ≡ held) × (came ≡ Err (fault.Ledger ledger.Memory)))
EndsAudit (Err fault) held holds Failed came = (holds ≡ held) × (came ≡ Err (shelf_fault fault))

-- Books were audited, if there are any, with this answer, of which this is so; and whether their log is
-- left.
pub record Audits (IsDone : Result Audited RepositoryFault → Type 0) (book : List ℕ) (old new : Shelf)
    (held holds : Option (List ℕ)) (Failed : Type 0) (ended : Ended) : Type 0 where
  pub audited : Result Audited RepositoryFault
  pub done : IsDone audited
  pub there : IsThere book old new audited
  pub ends : EndsAudit audited held holds Failed ended.came
  pub log : new.has_log book ended.has_log
  pub change : ended.is_change ≡ false
  pub notice : ended.notice ≡ None

-- or the place refused them before
abbrev pub AuditsBy : (Result Audited RepositoryFault → Type 0) → List ℕ → Shelf → Shelf
    → Option (List ℕ) → Option (List ℕ) → Type 0 → Result Ended CommandFault → Type 0
AuditsBy IsDone book old new held holds Failed (Ok ended) =
    Audits IsDone book old new held holds Failed ended
AuditsBy IsDone book old new held holds Failed (Err why) = IsRefusedBy book old new held holds why

-- the books of a name were audited where they are, and stay as they are
abbrev pub AuditsBooks : List ℕ → Shelf → Shelf → Option (List ℕ) → Option (List ℕ) → Type 0
    → Result Ended CommandFault → Type 0
AuditsBooks book old new held holds Failed result =
    AuditsBy (λ audited. IsUntouched book old new × IsAudited book old audited) book old new held
    holds Failed result

-- they were copied to another name, and the copy was audited
abbrev pub BacksUp : List ℕ → List ℕ → Shelf → Shelf → Option (List ℕ) → Option (List ℕ)
    → Type 0 → Result Ended CommandFault → Type 0
BacksUp book copy old new held holds Failed result =
    AuditsBy (IsCopied book copy old new) book old new held holds Failed result
