-- Why a session has no answer.
use Rattle.std.proofs.Common.{◌≡◌, Bool, Result, Ok, Err, Option, None, Some, inl, inr, refl, ◌≢◌}
use Rattle.std.proofs.Common.{false, subst, sym, IsTrue, IfErr, IfOk, IfSome, IsErrAnd, MatchOption}
use Rattle.std.proofs.Common.{MatchResult}
use Rattle.book_model.specs.declared.fault.LedgerFault.{LedgerFault}
use Rattle.book_trees.specs.OldForms.{HoldsOldForm, IsToldThis, IsUnopenedOld, old_opening}
use Rattle.book_trees.specs.Looks.{IsUnopenedLook, look_opening}
use Rattle.book_trees.specs.Refusals.{IsUnopened}
use Rattle.book_trees.specs.declared.faults.OpenFault.{OpenFault}
use Rattle.book_trees.specs.declared.old_forms.OldFault.{OldFault}
use Rattle.book_trees.specs.declared.integrity.LookFault.{LookFault}
use Rattle.book_trees.specs.declared.integrity.LookFault.TheVariants.{Pages, Open}
use Rattle.book_sessions.proofs.Words.{Ghosts, Files, state, view, FileStore, clean_of, Trees}
use Rattle.book_sessions.proofs.Words.{IsClean, AreClean, Image, HoldsBooks, trees_held}
use Rattle.book_sessions.proofs.Words.{IsRefusedWithout, Closed, HasFaultCause, RepositoryFault}
use Rattle.book_sessions.proofs.Words.{has_book}
use Rattle.book_sessions.specs.Causes.{HasNoAnswerFor, HaveNoBookRow, IsToldOfThis, IsWithoutFiles}
use Rattle.book_sessions.specs.Faults.{old_answer, look_answer, open_fault, resume_fault}
use Rattle.book_sessions.specs.Upgrades.{upgrade_answer}
use Rattle.book_sessions.specs.declared.ended.Ended.TheVariants.{Refused}
use Rattle.book_sessions.proofs.SessionParts.{found_clean}
use Rattle.named_books.specs.declared.repository.RepositoryFault.TheVariants.{Io, Exists, Busy}
use Rattle.named_books.specs.declared.repository.RepositoryFault.TheVariants.{Ledger}
use Rattle.table_ledger.specs.Loaded.{IsOpenFault}
use Rattle.book_model.specs.declared.fault.LedgerFault.TheVariants as ledger
use Rattle.book_trees.specs.declared.faults.OpenFault.TheVariants as opening
use Rattle.book_trees.specs.declared.old_forms.OldFault.TheVariants as form
use Rattle.book_sessions.specs.declared.ended.Ended.TheVariants as ended

-- what is said of an answer, or of an error, may be said in other words
pub ok_so : {A E : Type 0} {One Other : A → Type 0} (result : Result A E) → IfOk result One
    → ((answer : A) → One answer → Other answer) → IfOk result Other
ok_so (Ok answer) one so = so answer one
ok_so (Err fault) one so = tt

pub err_so : {A E : Type 0} {One Other : E → Type 0} (result : Result A E) → IfErr result One
    → ((fault : E) → One fault → Other fault) → IfErr result Other
err_so (Ok answer) one so = tt
err_so (Err fault) one so = so fault one

-- what is said of an error where something else is so is said of the error that there is
pub err_given : {A E Given : Type 0} (Says : E → Type 0) (result : Result A E)
    → (Given → IfErr result Says) → IfErr result (λ fault. Given → Says fault)
err_given Says (Ok answer) says = tt
err_given Says (Err fault) says = says

-- what holds of each answer, or of each error, holds of the one that there may be
pub ok_each : {A E : Type 0} {Says : A → Type 0} (result : Result A E)
    → ((answer : A) → Says answer) → IfOk result Says
ok_each (Ok answer) each = each answer
ok_each (Err fault) each = tt

pub err_each : {A E : Type 0} {Says : E → Type 0} (result : Result A E)
    → ((fault : E) → Says fault) → IfErr result Says
err_each (Ok answer) each = tt
err_each (Err fault) each = each fault

-- and so may what is said of an error that is taken for another
pub mapped_err : {A E F : Type 0} {One : E → Type 0} (Other : F → Type 0) (to : E → F)
    (result : Result A E) (mapped : Result A F)
    → MatchResult result (λ answer. mapped ≡ Ok answer)
    (λ fault. IsErrAnd mapped (λ other. other ≡ to fault))
    → IfErr result One → ((fault : E) → One fault → Other (to fault)) → IfErr mapped Other
mapped_err Other to result (Ok answer) is one so = tt
mapped_err Other to (Ok answer) (Err other) is one so = absurd (cc)
mapped_err Other to (Err fault) (Err other) is one so = subst Other (sym is) (so fault one)

-- what is said of an answer is said of it where its error is taken for another
pub mapped_ok : {A E F : Type 0} (Says : A → Type 0) (to : E → F) (result : Result A E)
    (mapped : Result A F)
    → MatchResult result (λ answer. mapped ≡ Ok answer)
    (λ fault. IsErrAnd mapped (λ other. other ≡ to fault))
    → IfOk result Says → IfOk mapped Says
mapped_ok Says to (Ok answer) mapped is one = subst (λ mapped. IfOk mapped Says) (sym is) one
mapped_ok Says to (Err fault) (Ok answer) is one = absurd is
mapped_ok Says to (Err fault) (Err other) is one = tt

-- a cause, where what it says is said in other words
pub cause_so : (Absent Absent' There There' : Type 0) → (Absent → Absent') → (There → There')
    → (fault : RepositoryFault) → HasFaultCause Absent There fault
    → HasFaultCause Absent' There' fault
cause_so Absent Absent' There There' absent there (Ledger ledger.NotBooks) cause = absent cause
cause_so Absent Absent' There There' absent there (Ledger ledger.OldForm) cause = absent cause
cause_so Absent Absent' There There' absent there (Ledger ledger.NewForm) cause = absent cause
cause_so Absent Absent' There There' absent there (Ledger ledger.Memory) cause = tt
cause_so Absent Absent' There There' absent there (Ledger ledger.Store) cause = tt
cause_so Absent Absent' There There' absent there Exists cause = there cause
cause_so Absent Absent' There There' absent there other cause = cause

-- the fault of books that were not opened has one
pub opened_cause : (Absent There : Type 0) (fault : LedgerFault) → (fault ≡ ledger.NotBooks → Absent)
    → IsOpenFault fault → HasFaultCause Absent There (Ledger fault)
opened_cause Absent There fault none (inl is) =
    subst (λ fault. HasFaultCause Absent There (Ledger fault)) (sym is) (none is)
opened_cause Absent There fault none (inr (inl memory)) =
    subst (λ fault. HasFaultCause Absent There (Ledger fault)) (sym memory) tt
opened_cause Absent There fault none (inr (inr store)) =
    subst (λ fault. HasFaultCause Absent There (Ledger fault)) (sym store) tt

-- A store that was opened on files says of them whether their row is there.
module _ {D : Type 0} {g : Ghosts D} (first : Image) (store : FileStore D g)
    (found : IsTrue (state store).is_clean → (held : HoldsBooks first)
    → (view store).trees ≡ trees_held held)
    (clean : IsClean (view store))
  where
    pub told_by_row : (there : Bool) → has_book (view store).trees ≡ there → (held : HoldsBooks first)
        → has_book (trees_held held) ≡ there
    told_by_row there told held =
        subst (λ (trees : Trees). has_book trees ≡ there) (found (clean_of _ clean) held) told

    -- so what is said of a visit of the store is said of the files
    pub visited_cause : (fault : RepositoryFault)
        → HasFaultCause (has_book (view store).trees ≡ false) ⊥ fault
        → HasFaultCause (HaveNoBookRow first) ⊥ fault
    visited_cause fault cause =
        cause_so (has_book (view store).trees ≡ false) (HaveNoBookRow first) ⊥ ⊥ (told_by_row false)
        (λ never. never) fault cause

-- no files are in hand where none were opened
pub without_files : (meaning : OpenFault → RepositoryFault) → meaning opening.Memory ≡ Ledger ledger.Memory
    → meaning opening.Busy ≡ Busy → meaning opening.Path ≡ Io → (fault : OpenFault)
    → IsUnopened fault → IsWithoutFiles (meaning fault)
without_files meaning memory busy path fault (inl is) =
    inl (subst (λ fault. meaning fault ≡ Ledger ledger.Memory) (sym is) memory)
without_files meaning memory busy path fault (inr (inl is)) =
    inr (inl (subst (λ fault. meaning fault ≡ Busy) (sym is) busy))
without_files meaning memory busy path fault (inr (inr is)) =
    inr (inr (subst (λ fault. meaning fault ≡ Io) (sym is) path))

module _ {D : Type 0} (g : Ghosts D) (Held : Type 0) (Opened : RepositoryFault → Type 0) where
  -- files that were refused have the cause of the opening
  pub refused_cause : (fault : OpenFault) (files : Option (Files D))
      → MatchOption files (IsUnopened fault) (IsRefusedWithout g Held fault)
      → HasNoAnswerFor g (HasFaultCause (¬ Held) ⊥) Opened (open_fault fault) (Refused files)
  refused_cause fault None cause = without_files open_fault refl refl refl fault cause
  refused_cause opening.NotBooks (Some files) cause = cause
  refused_cause opening.OldForm (Some files) cause = cause
  refused_cause opening.NewForm (Some files) cause = cause
  refused_cause opening.Memory (Some files) cause = λ clean. tt
  refused_cause opening.Store (Some files) cause = λ clean. tt
  refused_cause opening.Busy (Some files) cause = cause
  refused_cause opening.Path (Some files) cause = cause

  -- So have those where books were to be continued, and any other file belongs to somebody;
  pub unresumed_cause : (fault : OpenFault) (files : Option (Files D))
      → MatchOption files (IsUnopened fault) (IsRefusedWithout g Held fault)
      → HasNoAnswerFor g (HasFaultCause ⊥ (¬ Held)) Opened (resume_fault fault) (Refused files)
  unresumed_cause fault None cause = without_files resume_fault refl refl refl fault cause
  unresumed_cause opening.NotBooks (Some files) cause = cause
  unresumed_cause opening.OldForm (Some files) cause = cause
  unresumed_cause opening.NewForm (Some files) cause = cause
  unresumed_cause opening.Memory (Some files) cause = λ clean. tt
  unresumed_cause opening.Store (Some files) cause = λ clean. tt
  unresumed_cause opening.Busy (Some files) cause = cause
  unresumed_cause opening.Path (Some files) cause = cause

  -- so have those that were to be looked through;
  pub look_cause : (fault : LookFault) (files : Option (Files D))
      → MatchOption files (IsUnopenedLook fault) (IsRefusedWithout g Held (look_opening fault))
      → IfErr (look_answer fault)
      (λ other. HasNoAnswerFor g (HasFaultCause (¬ Held) ⊥) Opened other (Refused files))
  look_cause Pages files cause = tt
  look_cause (Open fault) files cause = refused_cause fault files cause

  -- and so have those that were to be brought to this form
  pub old_cause : (why : OldFault) (files : Option (Files D))
      → MatchOption files (IsUnopenedOld why) (IsRefusedWithout g Held (old_opening why))
      → IfErr (old_answer why)
      (λ fault. HasNoAnswerFor g (HasFaultCause (¬ Held) ⊥) Opened fault (Refused files))
  old_cause form.Already files cause = tt
  old_cause form.Pages None cause = absurd cause
  old_cause form.Pages (Some files) cause = λ clean. tt
  old_cause (form.Open fault) files cause = refused_cause fault files cause

-- files that were opened hold no books of this form
pub opened_not_this : {D : Type 0} (g : Ghosts D) (closed : Closed D)
    → (AreClean g closed.files.log closed.files.db → ⊥)
    → (result : Result (Unit {0}) RepositoryFault)
    → IsToldOfThis g (upgrade_answer result) (ended.Closed closed)
opened_not_this g closed never (Ok done) = λ image may.
    never (found_clean g closed.files image may.1)
opened_not_this g closed never (Err why) = never

-- but for two faults, none says that books are of this form
not_this : (why : OpenFault) → why ≢ opening.NewForm → IsToldThis (form.Open why) → ⊥
not_this why other (inl is) = absurd (cc)
not_this why other (inr is) = other (cc)

-- files that hold such books are told to, or were not opened
pub refused_this : {D : Type 0} (g : Ghosts D) (found : Image) → HoldsBooks found → (why : OldFault)
    (files : Option (Files D))
    → MatchOption files (IsUnopenedOld why)
    (IsRefusedWithout g (HoldsOldForm found) (old_opening why))
    → ((IsToldThis why → ⊥)
    → IfSome files (IsRefusedWithout g (HoldsBooks found) (old_opening why)))
    → IsToldOfThis g (old_answer why) (Refused files)
refused_this g found held form.Already files cause this = tt
refused_this g found held form.Pages None cause this = absurd cause
refused_this g found held form.Pages (Some files) cause this = λ clean. inr tt
refused_this g found held (form.Open why) None cause this =
    without_files open_fault refl refl refl why cause
refused_this g found held (form.Open opening.NotBooks) (Some files) cause this = λ clean.
    absurd (this (not_this opening.NotBooks (λ is. absurd (cc))) clean held)
refused_this g found held (form.Open opening.OldForm) (Some files) cause this = λ clean.
    absurd (this (not_this opening.OldForm (λ is. absurd (cc))) clean held)
refused_this g found held (form.Open opening.NewForm) (Some files) cause this = λ clean. inl refl
refused_this g found held (form.Open opening.Memory) (Some files) cause this = λ clean. inr tt
refused_this g found held (form.Open opening.Store) (Some files) cause this = λ clean. inr tt
refused_this g found held (form.Open opening.Busy) (Some files) cause this = λ clean.
    absurd (cause clean)
refused_this g found held (form.Open opening.Path) (Some files) cause this = λ clean.
    absurd (cause clean)
