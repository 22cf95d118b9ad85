-- What an audit says of trees that it looks at, by the trees before a call and after it.
use Rattle.std.specs.Prelude.{Option, Result, Ok, Err, IfOk, IfSome}
use Rattle.sqlite_trees.specs.Tree.{Trees}
use Rattle.sqlite_trees.specs.View.{IsClean}
use Rattle.sqlite_trees.specs.declared.store.Store.{Ghosts}
use Rattle.tree_rows.specs.Calls.{CommitsNothing, OnlyLooks}
use Rattle.book_audit.specs.declared.stop.Stop.{Stop}
use Rattle.book_audit.specs.declared.trees.Trees.{Trees as Opened}

-- What was answered tells this of the trees, where the disk has returned what was written to it.
abbrev pub Tells : {S A E : Type 0} {ghosts : Ghosts S} → Result A E → Opened S ghosts
    → Opened S ghosts → (Trees → A → Type 0) → Type 0
Tells {ghosts = ghosts} result old new Told =
    IfOk result (λ answer. IsClean (ghosts.view new.store)
    → Told (ghosts.view old.store).trees answer)

-- So does what was found, if something was.
abbrev pub TellsIfSome : {S A E : Type 0} {ghosts : Ghosts S} → Result (Option A) E
    → Opened S ghosts → Opened S ghosts → (Trees → A → Type 0) → Type 0
TellsIfSome {ghosts = ghosts} result old new Told =
    IfOk result (λ answer. IfSome answer (λ found. IsClean (ghosts.view new.store)
    → Told (ghosts.view old.store).trees found))

-- A call that only looks wrote nothing, committed nothing, and forgot no fault.
pub record IsLook {S : Type 0} (ghosts : Ghosts S) (old new : S) : Type 0 where
  pub same : OnlyLooks ghosts old new
  pub quiet : CommitsNothing ghosts old new

-- How a call ends: one that answers only looked, and one that stops the audit committed nothing.
abbrev pub Ends : {S A : Type 0} → Ghosts S → S → S → Result A Stop → Type 0
Ends ghosts old new (Ok answer) = IsLook ghosts old new
Ends ghosts old new (Err stop) = CommitsNothing ghosts old new

-- So do the calls of an audit.
abbrev pub Looks : {S A : Type 0} {ghosts : Ghosts S} → Result A Stop → Opened S ghosts
    → Opened S ghosts → Type 0
Looks {ghosts = ghosts} result old new = Ends ghosts old.store new.store result
