-- What an audit of books says of them, and books that were copied to another name.
use Rattle.std.specs.Prelude.{◌⊎◌, ℕ, List, IfErr, IfOk, Result, Ok, Err}
use Rattle.book_model.specs.Words.{Event, book_of}
use Rattle.named_books.specs.declared.repository.RepositoryFault.{RepositoryFault}
use Rattle.named_books.specs.Shelves.{Shelf, IsUntouched, TakesName}
use Rattle.book_audit.specs.Counts.{AreCountsOf}
use Rattle.book_audit.specs.declared.audited.Audited.{Audited}
use Rattle.book_audit.specs.declared.audited.Audited.TheVariants.{Sound, Unsound}
use Rattle.book_audit.specs.Texts.{IsAuditText}

-- The text of an audit is one that an audit of the books of this name may have.
abbrev pub IsAuditOf : List ℕ → Shelf → Audited → Type 0
IsAuditOf book shelf audited =
    (text : List ℕ) → IsAuditText audited text → shelf.audits book text

-- What is told of books, an audit of them told. Those that are sound have the counts of their history.
-- Of those that are called unsound no more is said, since a disk may have failed meanwhile. Others were
-- refused.
abbrev pub IsAudited : List ℕ → Shelf → Result Audited RepositoryFault → Type 0
IsAudited book shelf (Ok (Sound counts)) =
    IsAuditOf book shelf (Sound counts)
    × ((history : List Event) → shelf.holds book history → AreCountsOf (book_of history) counts)
IsAudited book shelf (Ok (Unsound finding)) = IsAuditOf book shelf (Unsound finding)
IsAudited book shelf (Err fault) = shelf.refuses book fault

-- A copy that is sound has the name that was free, and holds the history of the books, which has
-- these counts.
abbrev pub HoldsCopy : List ℕ → List ℕ → Shelf → Shelf → Result Audited RepositoryFault → Type 0
HoldsCopy book copy old new (Ok (Sound counts)) =
    old.is_free copy → (history : List Event) → old.holds book history
    → new.holds copy history × AreCountsOf (book_of history) counts
HoldsCopy book copy old new (Ok (Unsound finding)) = old.is_free copy → new.is_free copy
HoldsCopy book copy old new (Err fault) = old.is_free copy → new.is_free copy

-- All books that were there are as they were, no books had the name of the copy, and no other name
-- was taken; or one of the two names was refused.
pub record IsCopied (book copy : List ℕ) (old new : Shelf) (answer : Result Audited RepositoryFault)
    : Type 0 where
  pub kept : IsUntouched copy old new
  pub name : TakesName copy old answer
  pub copied : HoldsCopy book copy old new answer
  pub told : IfOk answer (IsAuditOf book old)
  pub why : IfErr answer (λ fault. old.refuses book fault ⊎ old.refuses copy fault)
