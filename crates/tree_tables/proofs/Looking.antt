-- Looks at the tables, and steps of them, by what calls on rows say.
use Rattle.std.proofs.Common.{◌≡◌, ◌∙◌, ℕ, Bool, List, inl, inr, Result, Ok, Err, refl, sym}
use Rattle.std.proofs.Common.{ap, subst, true≢false, arith}
use Rattle.std.specs.Prelude.{IfErr, IsErr, IfOk, OnErr, OnOk}
use Rattle.sqlite_trees.specs.Tree.{Trees}
use Rattle.sqlite_trees.specs.View.{View, IsClean, IsFailure, KeepsCommitted, OnlyWrites}
use Rattle.sqlite_value.specs.Order.{Row}
use Rattle.sqlite_trees.specs.declared.error.StoreError.{StoreError}
use Rattle.sqlite_trees.specs.declared.store.Store.{Ghosts}
use Rattle.table_model.specs.Tables.{Tables}
use Rattle.tree_rows.specs.Rows.{Finds, IsUnchanged, Rewrites}
use Rattle.tree_rows.proofs.Calls.{Quiet, clean_before, closes_both, kept_after_look, kept_same}
use Rattle.tree_rows.proofs.Calls.{quiet_both, unchanged_both}
use Rattle.tree_tables.specs.Holds.{Holds}
use Rattle.tree_tables.specs.States.{HasCleanDisk, State, Survives, state}
use Rattle.tree_tables.specs.Steps.{Always, Changes, Does, KeepsLastCommit, Looks}
pub use Rattle.tree_rows.proofs.Calls.{only_looks}
pub use Rattle.tree_rows.proofs.Failing.{kept_after}

-- two steps, one after the other, write only
pub only_both : (old : View) {mid new : View} → OnlyWrites old mid → OnlyWrites mid new
    → OnlyWrites old new
only_both old {new = new} one two =
    two ∙ ap (λ (v : View). record v { trees = new.trees; cursors = new.cursors }) one

-- a tree that is rewritten after a look is rewritten
pub rewrites_after_look : {old mid new : View} {tree : ℕ} {rows : List Row} → IsUnchanged old mid
    → Rewrites mid new tree rows → Rewrites old new tree rows
rewrites_after_look {old} same rewrites = record {
  rows_now = rewrites.rows_now;
  others = λ other apart. rewrites.others other apart ∙ ap (λ (v : View). v.trees other) same;
  only = only_both old (only_looks old same) rewrites.only;
}

-- what a call makes that succeeds may be said in other words
pub ok_so : {A One Other : Type 0} (result : Result A StoreError) → OnOk result One
    → (One → Other) → OnOk result Other
ok_so (Ok answer) one so = so one
ok_so (Err error) one so = tt

-- the last commit stays if a call says so
pub kept_last : {old new : View} → KeepsCommitted old new → KeepsLastCommit old new
kept_last kept = record { was_open = kept.was_open; committed = kept.committed }

-- a call that fails leaves what was committed
pub kept_failed : {A : Type 0} (old new : View) (result : Result A StoreError)
    → IfErr result (λ error. IsClean new → IsFailure old new error)
    → OnErr result (IsClean new → KeepsCommitted old new)
kept_failed old new (Ok answer) failed = tt
kept_failed old new (Err error) failed = λ clean. (failed clean).kept

-- the tables that a store holds are held after a look
pub held_after_look : (old : View) {new : View} {tables : Tables} → IsUnchanged old new
    → Holds old.trees tables → Holds new.trees tables
held_after_look old {tables = tables} same holds =
    subst (λ (trees : Trees). Holds trees tables) (sym (ap (λ (v : View). v.trees) same)) holds

-- what is found after a look was there before it
pub found_before : (old : View) (tree : ℕ) {new : View} {key row : Row} {hit : Bool}
    → IsUnchanged old new → Finds key (new.trees tree) row hit
    → Finds key (old.trees tree) row hit
found_before old tree {key = key} {row = row} {hit = hit} same finds =
    subst (λ (rows : List Row). Finds key rows row hit) (ap (λ (v : View). v.trees tree) same) finds

-- the disk was clean before a call, if it is after it
pub was_clean : {old new : State} → Survives old new (λ trees. ⊥) → HasCleanDisk new
    → HasCleanDisk old
was_clean call clean =
    let less = call.clean in
    omega (arith, less, clean)

-- two calls that commit nothing, one after the other, commit nothing
pub survives_both : {old mid new : State} → Survives old mid (λ trees. ⊥)
    → Survives mid new (λ trees. ⊥) → Survives old new (λ trees. ⊥)
survives_both one two = record {
  clean = (let a = one.clean in let b = two.clean in omega (arith, a, b));
  shield = λ shielded. two.shield (one.shield shielded);
  counts = (let a = one.counts in let b = two.counts in omega (arith, a, b));
  closes = λ clean is_open. closes_both one.counts two.counts
      (one.closes (was_clean two clean) is_open) (two.closes clean);
  crash = λ clean trees left. elim (two.crash clean trees left) [
    | inl mid_left ↦ one.crash (was_clean two clean) trees mid_left
    | inr none ↦ absurd none
  ];
}

-- a step that fails
pub does_err : {T : Type 0} {When : Tables → Type 0} {change : Tables → Tables} {old new : State}
    (result : Result T StoreError) → IsErr result → Survives old new (λ trees. ⊥)
    → (HasCleanDisk new → KeepsCommitted old.view new.view) → Does result old new When change
does_err (Ok value) failed survives kept = absurd (true≢false (sym failed))
does_err (Err error) failed survives kept =
    record { survives = survives; done = λ clean. tt; refused = kept }

-- and a look that does
pub looks_err : {A : Type 0} {Answers : Tables → A → Type 0} {old new : State}
    (result : Result A StoreError) → IsErr result → Survives old new (λ trees. ⊥)
    → (HasCleanDisk new → KeepsCommitted old.view new.view) → Looks result old new Answers
looks_err (Ok value) failed survives kept = absurd (true≢false (sym failed))
looks_err (Err error) failed survives kept =
    record { survives = survives; found = λ clean. tt; refused = kept }

-- what two looks have answered, put together
pub looks_also : {A B C : Type 0} {First : Tables → A → Type 0} {Second : Tables → B → Type 0}
    {Both : Tables → C → Type 0} {first : A} {second : B} {third : C} {old mid new : State}
    → Looks (Ok first) old mid First → Looks (Ok second) mid new Second
    → ((tables : Tables) → First tables first → Second tables second → Both tables third)
    → Looks (Ok third) old new Both
looks_also {old = old} one two both = record {
  survives = survives_both one.survives two.survives;
  found = λ clean.
      let before = one.found (was_clean two.survives clean) in
      let after = two.found clean in
      record {
        same = unchanged_both old.view before.same after.same;
        known = λ tables holds. both tables (before.known tables holds)
            (after.known tables (held_after_look old.view before.same holds));
      };
  refused = λ clean. tt;
}

-- a look after another, which says more by what the other has answered
pub looks_after_look : {A B : Type 0} {First : Tables → A → Type 0} {Second Both : Tables → B → Type 0}
    {first : A} {old mid new : State} (result : Result B StoreError)
    → Looks (Ok first) old mid First → Looks result mid new Second
    → ((tables : Tables) (second : B) → First tables first → Second tables second
    → Both tables second)
    → Looks result old new Both
looks_after_look (Ok second) one two both =
    looks_also one two (λ tables first_so second_so. both tables second first_so second_so)
looks_after_look (Err error) one two both =
    looks_err (Err error) refl (survives_both one.survives two.survives) (λ clean.
    kept_after_look (one.found (was_clean two.survives clean)).same (two.refused clean))

-- what a look has answered, in other words
pub looks_so : {A B : Type 0} {First : Tables → A → Type 0} {Second : Tables → B → Type 0}
    {first : A} {second : B} {old new : State} → Looks (Ok first) old new First
    → ((tables : Tables) → First tables first → Second tables second)
    → Looks (Ok second) old new Second
looks_so one so = record {
  survives = one.survives;
  found = λ clean. record {
    same = (one.found clean).same;
    known = λ tables holds. so tables ((one.found clean).known tables holds);
  };
  refused = λ clean. tt;
}

-- what a call on the tables has answered, if it has, in other words
pub looks_told : {A : Type 0} {First Second : Tables → A → Type 0} {old new : State}
    (result : Result A StoreError) → Looks result old new First
    → ((tables : Tables) (answer : A) → First tables answer → Second tables answer)
    → Looks result old new Second
looks_told (Ok answer) one so = looks_so one (λ tables. so tables answer)
looks_told (Err error) one so = looks_err (Err error) refl one.survives one.refused

-- a step after a look, which does what it does to tables that the look has answered this of
pub does_told : {A T : Type 0} {Answers : Tables → A → Type 0} {change : Tables → Tables}
    {answer : A} {old mid new : State} (result : Result T StoreError)
    → Looks (Ok answer) old mid Answers → Does result mid new (λ tables. Answers tables answer) change
    → Does result old new Always change
does_told {old = old} (Ok value) look step = record {
  survives = survives_both look.survives step.survives;
  done = λ clean.
      let seen = look.found (was_clean step.survives clean) in
      let made = step.done clean in
      record {
        only = only_both old.view (only_looks old.view seen.same) made.only;
        made = λ tables holds when.
            made.made tables (held_after_look old.view seen.same holds) (seen.known tables holds);
      };
  refused = λ clean. tt;
}
does_told (Err error) look step =
    does_err (Err error) refl (survives_both look.survives step.survives)
    (λ clean. kept_after_look (look.found (was_clean step.survives clean)).same
    (step.refused clean))

-- a step that has nothing to write, by what a look has answered
pub does_seen : {A T : Type 0} {Answers : Tables → A → Type 0} {change : Tables → Tables}
    {answer : A} {value : T} {old new : State} → Looks (Ok answer) old new Answers
    → ((tables : Tables) → Answers tables answer → Holds new.view.trees tables
    → Holds new.view.trees (change tables))
    → Does (Ok value) old new Always change
does_seen {old = old} look stays = record {
  survives = look.survives;
  done = λ clean.
      let seen = look.found clean in
      record {
        only = only_looks old.view seen.same;
        made = λ tables holds when.
            stays tables (seen.known tables holds) (held_after_look old.view seen.same holds);
      };
  refused = λ clean. tt;
}

module _ {S : Type 0} (ghosts : Ghosts S) where
  pub survives : {old new : S} → Quiet ghosts old new
      → Survives (state ghosts old) (state ghosts new) (λ trees. ⊥)
  survives call = record {
    clean = call.clean;
    shield = call.shield;
    counts = call.counts;
    closes = call.closes;
    crash = λ clean trees left. inl (call.outcomes trees left);
  }

  -- a look that was answered
  pub looks_found : {A : Type 0} {Answers : Tables → A → Type 0} {answer : A} {old new : S}
      → Quiet ghosts old new
      → (IsClean (ghosts.view new) → IsUnchanged (ghosts.view old) (ghosts.view new))
      → (IsClean (ghosts.view new) → (tables : Tables) → Holds (ghosts.view old).trees tables
      → Answers tables answer)
      → Looks (Ok answer) (state ghosts old) (state ghosts new) Answers
  looks_found call same known = record {
    survives = survives call;
    found = λ clean. record { same = same clean; known = known clean };
    refused = λ clean. tt;
  }

  -- a step that is one call
  pub does_alone : {T Made : Type 0} {When : Tables → Type 0} {change : Tables → Tables}
      {old new : S} (result : Result T StoreError) → Quiet ghosts old new
      → OnErr result (IsClean (ghosts.view new)
      → KeepsCommitted (ghosts.view old) (ghosts.view new))
      → OnOk result (IsClean (ghosts.view new) → Made)
      → (IsClean (ghosts.view new) → Made
      → Changes (ghosts.view old) (ghosts.view new) When change)
      → Does result (state ghosts old) (state ghosts new) When change
  does_alone (Ok value) step kept done changes = record {
    survives = survives step;
    done = λ clean. changes clean (done clean);
    refused = λ clean. tt;
  }
  does_alone (Err error) step kept done changes = does_err (Err error) refl (survives step) kept

  -- a look that has its rows read into an answer, or that is refused
  pub looks_read : {A : Type 0} {Made : A → Type 0} {Answers : Tables → A → Type 0} {old new : S}
      (result : Result A StoreError) → Quiet ghosts old new
      → (IsClean (ghosts.view new) → IsUnchanged (ghosts.view old) (ghosts.view new))
      → IfOk result Made
      → ((answer : A) → Made answer → IsClean (ghosts.view new) → (tables : Tables)
      → Holds (ghosts.view old).trees tables → Answers tables answer)
      → Looks result (state ghosts old) (state ghosts new) Answers
  looks_read (Ok answer) call same made known = looks_found call same (known answer made)
  looks_read (Err error) call same made known =
      looks_err (Err error) refl (survives call) (λ clean. kept_same (same clean))

  -- a look that is one call
  pub looks_alone : {A : Type 0} {Made : A → Type 0} {Answers : Tables → A → Type 0}
      {old new : S} (result : Result A StoreError) → Quiet ghosts old new
      → OnOk result (IsClean (ghosts.view new)
      → IsUnchanged (ghosts.view old) (ghosts.view new))
      → OnErr result (IsClean (ghosts.view new)
      → KeepsCommitted (ghosts.view old) (ghosts.view new))
      → IfOk result (λ answer. IsClean (ghosts.view new) → Made answer)
      → ((answer : A) → Made answer → IsClean (ghosts.view new) → (tables : Tables)
      → Holds (ghosts.view old).trees tables → Answers tables answer)
      → Looks result (state ghosts old) (state ghosts new) Answers
  looks_alone (Ok answer) call same kept made known =
      looks_found call same (λ clean. known answer (made clean) clean)
  looks_alone (Err error) call same kept made known =
      looks_err (Err error) refl (survives call) kept

  -- a step that is one call, after other steps
  pub does_then : {T Made : Type 0} {When : Tables → Type 0} {change : Tables → Tables}
      {old mid new : S} (result : Result T StoreError)
      → Quiet ghosts old mid
      → (IsClean (ghosts.view mid) → OnlyWrites (ghosts.view old) (ghosts.view mid))
      → Quiet ghosts mid new
      → OnErr result (IsClean (ghosts.view new)
      → KeepsCommitted (ghosts.view mid) (ghosts.view new))
      → OnOk result (IsClean (ghosts.view new) → Made)
      → (Made → OnlyWrites (ghosts.view mid) (ghosts.view new))
      → (IsClean (ghosts.view new) → Made → (tables : Tables)
      → Holds (ghosts.view old).trees tables → When tables
      → Holds (ghosts.view new).trees (change tables))
      → Does result (state ghosts old) (state ghosts new) When change
  does_then {old = old} (Ok value) first only step kept done writes holds = record {
    survives = survives (quiet_both ghosts first step);
    done = λ clean.
        let made = done clean in
        record {
          only = only_both (ghosts.view old) (only (clean_before ghosts step clean)) (writes made);
          made = holds clean made;
        };
    refused = λ clean. tt;
  }
  does_then (Err error) first only step kept done writes holds =
      does_err (Err error) refl (survives (quiet_both ghosts first step))
      (λ clean. kept_after (only (clean_before ghosts step clean)) (kept clean))

  -- one that rewrites a tree
  pub does_after : {T : Type 0} {When : Tables → Type 0} {change : Tables → Tables}
      {old mid new : S} {tree : ℕ} {rows : List Row} (result : Result T StoreError)
      → Quiet ghosts old mid → (IsClean (ghosts.view mid) → OnlyWrites (ghosts.view old) (ghosts.view mid))
      → Quiet ghosts mid new
      → OnErr result (IsClean (ghosts.view new)
      → KeepsCommitted (ghosts.view mid) (ghosts.view new))
      → OnOk result (IsClean (ghosts.view new)
      → Rewrites (ghosts.view mid) (ghosts.view new) tree rows)
      → (IsClean (ghosts.view new) → Rewrites (ghosts.view mid) (ghosts.view new) tree rows
      → (tables : Tables) → Holds (ghosts.view old).trees tables → When tables
      → Holds (ghosts.view new).trees (change tables))
      → Does result (state ghosts old) (state ghosts new) When change
  does_after result first only step kept done holds =
      does_then result first only step kept done (λ rewritten. rewritten.only) holds

  -- a step that has nothing to do, as a look has shown
  pub does_nothing : {T : Type 0} {When : Tables → Type 0} {change : Tables → Tables} {value : T}
      {old new : S} → Quiet ghosts old new
      → (IsClean (ghosts.view new) → IsUnchanged (ghosts.view old) (ghosts.view new))
      → (IsClean (ghosts.view new) → (tables : Tables) → Holds (ghosts.view old).trees tables
      → change tables ≡ tables)
      → Does (Ok value) (state ghosts old) (state ghosts new) When change
  does_nothing {change = change} {old = old} {new = new} call same stays = record {
    survives = survives call;
    done = λ clean. record {
      only = only_looks (ghosts.view old) (same clean);
      made = λ tables holds when.
          subst (Holds (ghosts.view new).trees) (sym (stays clean tables holds))
          (held_after_look (ghosts.view old) (same clean) holds);
    };
    refused = λ clean. tt;
  }

  -- a step that succeeded
  pub does_well : {T : Type 0} {When : Tables → Type 0} {change : Tables → Tables} {value : T}
      {old new : S} → Quiet ghosts old new
      → (IsClean (ghosts.view new) → Changes (ghosts.view old) (ghosts.view new) When change)
      → Does (Ok value) (state ghosts old) (state ghosts new) When change
  does_well call done = record { survives = survives call; done = done; refused = λ clean. tt }
