-- Looks at a store, one after the other, and what ends after them.
use Rattle.std.proofs.Common.{◌≡◌, Result, Ok, Err, Option, Some, None, IfSome, arith, inl, refl}
use Rattle.std.proofs.Common.{subst, sym, true≢false, IsErr}
use Rattle.sqlite_trees.specs.declared.store.Store.{Ghosts}
use Rattle.tree_rows.specs.Calls.{CommitsNothing}
use Rattle.tree_rows.proofs.Calls.{quiet_both}
use Rattle.book_audit.specs.Looks.{Ends, IsLook}
use Rattle.book_audit.specs.declared.stop.Stop.{Stop}
use Rattle.book_audit.proofs.Walks.Steps.{looks_on}

-- what is said of something that was found
pub some_said : {A : Type 0} (Said : A → Type 0) (found : Option A) (value : A) → found ≡ Some value
    → IfSome found Said → Said value
some_said Said (Some one) value is said =
    let same : one ≡ value = (let e = is in cc) in
    subst Said same said
some_said Said None value is said = absurd (let e = is in cc)

module _ {S : Type 0} (ghosts : Ghosts S) where
  -- without a call nothing is changed
  pub nothing : (store : S) → IsLook ghosts store store
  nothing store = record {
    same = λ clean. refl;
    quiet = record {
      shield = λ shielded. shielded;
      clean = omega arith;
      counts = omega arith;
      closes = λ clean is_open. inl is_open;
      outcomes = λ trees left. left;
    };
  }

  -- one look after the other is a look,
  pub looked_on : (start mid new : S) → IsLook ghosts start mid → IsLook ghosts mid new
      → IsLook ghosts start new
  looked_on start mid new before call = record {
    same = looks_on ghosts start mid new before.same call.same;
    quiet = quiet_both ghosts before.quiet call.quiet;
  }

  -- and what stops after looks commits nothing from the start
  pub stopped_on : (start mid new : S) → IsLook ghosts start mid → CommitsNothing ghosts mid new
      → CommitsNothing ghosts start new
  stopped_on start mid new before call = quiet_both ghosts before.quiet call

  -- a stop that is passed on
  pub passed : {A : Type 0} (old new : S) (result : Result A Stop) → IsErr result
      → CommitsNothing ghosts old new → Ends ghosts old new result
  passed old new (Err stop) failed quiet = quiet
  passed old new (Ok value) failed quiet = absurd (true≢false (sym failed))
