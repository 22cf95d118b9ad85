-- What is told of files that were refused, by an error of the store and by what they list.
use Rattle.std.proofs.Common.{◌≡◌, ◌∙◌, ℕ, Bool, true, false, true≢false, List, ap, subst, sym}
use Rattle.sqlite_store.specs.Opening.{FailsToOpen}
use Rattle.sqlite_store.specs.declared.error.OpenError.{OpenError}
use Rattle.sqlite_store.specs.declared.error.OpenError.TheVariants.{OutOfMemory, Io, Full, Refused}
use Rattle.sqlite_value.specs.Order.{Row}
use Rattle.std.specs.List.{list_any}
use Rattle.std.specs.Prelude.{if◌then◌else◌}
use Rattle.book_trees.specs.OldForms.{old_fault_for, old_opening}
use Rattle.book_trees.specs.Listing.{lists, lists_older, unlisted_fault}
use Rattle.book_trees.specs.Looks.{look_fault_for, look_opening}
use Rattle.book_trees.specs.Refusals.{fault_for, IsToldWithout}
use Rattle.book_trees.specs.Schema.{first_table}
use Rattle.book_trees.specs.declared.faults.OpenFault.{OpenFault}
use Rattle.book_trees.specs.declared.faults.OpenFault.TheVariants.{NotBooks, Memory, Store, Busy}
use Rattle.book_trees.specs.declared.faults.OpenFault.TheVariants.{NewForm, OldForm, Path}
use Rattle.book_trees.specs.declared.old_forms.OldFault.TheVariants.{Already}

-- an error of the store that comes only without what was wanted is told only without what has that,
pub error_told : (old new : ℕ) (AtLimit Wanted Held : Type 0) → (Held → Wanted) → (e : OpenError)
    → FailsToOpen old new AtLimit Wanted e → IsToldWithout Held (fault_for e)
error_told old new AtLimit Wanted Held so OutOfMemory fails = tt
error_told old new AtLimit Wanted Held so Io fails = tt
error_told old new AtLimit Wanted Held so Full fails = tt
error_told old new AtLimit Wanted Held so Refused fails = λ held. fails (so held)

-- so it is with files of books that are looked through,
pub look_error_told : (old new : ℕ) (AtLimit Wanted Held : Type 0) → (Held → Wanted)
    → (e : OpenError) → FailsToOpen old new AtLimit Wanted e
    → IsToldWithout Held (look_opening (look_fault_for e))
look_error_told old new AtLimit Wanted Held so OutOfMemory fails = tt
look_error_told old new AtLimit Wanted Held so Io fails = tt
look_error_told old new AtLimit Wanted Held so Full fails = tt
look_error_told old new AtLimit Wanted Held so Refused fails = λ held. fails (so held)

-- and with those of an older form
pub old_error_told : (old new : ℕ) (AtLimit Wanted Held : Type 0) → (Held → Wanted)
    → (e : OpenError) → FailsToOpen old new AtLimit Wanted e
    → IsToldWithout Held (old_opening (old_fault_for e))
old_error_told old new AtLimit Wanted Held so OutOfMemory fails = tt
old_error_told old new AtLimit Wanted Held so Io fails = tt
old_error_told old new AtLimit Wanted Held so Full fails = tt
old_error_told old new AtLimit Wanted Held so Refused fails = λ held. fails (so held)

-- no error stands for files that are of this form already
pub never_already : (e : OpenError) → old_fault_for e ≡ Already → ⊥
never_already OutOfMemory is = absurd (cc)
never_already Io is = absurd (cc)
never_already Full is = absurd (cc)
never_already Refused is = absurd (cc)

-- what is told only without this is told only without what has more
pub told_so : (Held Held' : Type 0) → (Held' → Held) → (fault : OpenFault)
    → IsToldWithout Held fault → IsToldWithout Held' fault
told_so Held Held' so NotBooks told = λ held. told (so held)
told_so Held Held' so OldForm told = λ held. told (so held)
told_so Held Held' so NewForm told = λ held. told (so held)
told_so Held Held' so Memory told = told
told_so Held Held' so Store told = told
told_so Held Held' so Busy told = told
told_so Held Held' so Path told = told

-- what is told where books are not listed is told only without files that would list them
told_unlisted : (Held : Type 0) → (Held → ⊥) → (first book : Bool)
    → IsToldWithout Held (if first then OldForm else if book then NewForm else NotBooks)
told_unlisted Held none true book = none
told_unlisted Held none false true = none
told_unlisted Held none false false = none

unlisted_told : (Held : Type 0) → (Held → ⊥) → (rows : List Row)
    → IsToldWithout Held (unlisted_fault rows)
unlisted_told Held none rows =
    told_unlisted Held none (lists_older rows) (list_any (lists first_table) rows)

-- what is told of files that would be listed otherwise if they held this
pub unlisted_refused : (Held : Type 0) (is_listed : List Row → Bool) (rows read : List Row)
    → (Held → is_listed rows ≡ true) → read ≡ rows → is_listed read ≡ false
    → (other : List Row) (fault : OpenFault) → fault ≡ unlisted_fault other
    → IsToldWithout Held fault
unlisted_refused Held is_listed rows read listed same unlisted other fault is =
    subst (λ (fault : OpenFault). IsToldWithout Held fault) (sym is)
    (unlisted_told Held (λ held.
    true≢false (sym (listed held) ∙ sym (ap is_listed same) ∙ unlisted)) other)
