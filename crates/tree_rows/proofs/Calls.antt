-- Calls on a store, one after the other.
use Rattle.std.proofs.Common.{◌≡◌, ◌≤◌, ◌⊎◌, ◌∙◌, ℕ, List, Option, inl, inr, ap, refl, subst, sym, arith, rules}
use Rattle.sqlite_disk.specs.Disk.{MoreFaults}
use Rattle.sqlite_trees.specs.Tree.{Trees}
use Rattle.sqlite_trees.specs.View.{View, IsClean, IsFailure, IsQuiet}
use Rattle.sqlite_trees.specs.View.{KeepsCommitted, KeepsSchema, Moves, OnlyWrites}
use Rattle.sqlite_trees.specs.declared.error.StoreError.{StoreError}
use Rattle.sqlite_trees.specs.declared.store.Store.{Ghosts}
use Rattle.sqlite_value.specs.Order.{Row}
use Rattle.tree_rows.specs.Rows.{IsUnchanged}
use Rattle.tree_rows.proofs.Failing.{failed_after, kept_after, more_since}

-- a cursor that is placed leaves all else
pub unchanged_but : (old : View) {new : View} {cursors : ℕ → Option (List Row)}
    → new ≡ record old { cursors = cursors } → IsUnchanged old new
unchanged_but old placed =
    placed ∙ ap (λ (cursors : ℕ → Option (List Row)). record old { cursors = cursors })
    (sym (ap (λ (v : View). v.cursors) placed))

-- two looks, one after the other, only move cursors
pub unchanged_both : (old : View) {mid new : View} → IsUnchanged old mid → IsUnchanged mid new
    → IsUnchanged old new
unchanged_both old {new} one two =
    two ∙ ap (λ (v : View). record v { cursors = new.cursors }) one

-- a look only writes: it writes nothing
pub only_looks : (old : View) {new : View} → IsUnchanged old new → OnlyWrites old new
only_looks old {new} same =
    same ∙ ap (λ (trees : Trees). record old { trees = trees; cursors = new.cursors })
    (sym (ap (λ (v : View). v.trees) same))

-- what is there after a look was there before it
pub kept_after_look : {old mid new : View} → IsUnchanged old mid → KeepsCommitted mid new
    → KeepsCommitted old new
kept_after_look {old} same kept = kept_after (only_looks old same) kept

-- a look alone leaves what was committed
pub kept_same : {old new : View} → IsUnchanged old new → KeepsCommitted old new
kept_same {old} {new} same =
    subst (KeepsCommitted old) (sym same) (record {
      shape = refl;
      reals = refl;
      committed_shape = refl;
      committed_reals = refl;
      numbered = refl;
      was_open = λ is_open. is_open;
      committed = λ is_open. refl;
      marks = λ is_open. refl;
    })

-- the schema stands after two calls
pub schema_both : {old mid new : View} → KeepsSchema old mid → KeepsSchema mid new
    → KeepsSchema old new
schema_both one two = record {
  shape = two.shape ∙ one.shape;
  reals = two.reals ∙ one.reals;
  committed_shape = two.committed_shape ∙ one.committed_shape;
  committed_reals = two.committed_reals ∙ one.committed_reals;
  numbered = two.numbered ∙ one.numbered;
}

-- where each of two calls ends with an open store or a fault, so do both
pub closes_both : {Mid New : Type 0} {one two three : ℕ} → one ≤ two → two ≤ three
    → Mid ⊎ MoreFaults one two → (Mid → New ⊎ MoreFaults two three)
    → New ⊎ MoreFaults one three
closes_both less more (inr fault) closes = inr (search rules)
closes_both {one} {two} {three} less more (inl still) closes = elim (closes still) [
  | inl stays ↦ inl stays
  | inr fault ↦ inr (more_since one two three less fault)
]

module _ {S : Type 0} (ghosts : Ghosts S) where
  -- a call that commits nothing
  abbrev pub Quiet : S → S → Type 0
  Quiet = IsQuiet ghosts.view ghosts.faults ghosts.recovers ghosts.is_shielded

  -- the disk was clean before a call, if it is after it
  pub clean_before : {old new : S} → Quiet old new → IsClean (ghosts.view new)
      → IsClean (ghosts.view old)
  clean_before call clean =
      let less = call.clean in
      omega (arith, less, clean)

  -- two calls that commit nothing, one after the other
  pub quiet_both : {old mid new : S} → Quiet old mid → Quiet mid new → Quiet old new
  quiet_both one two = record {
    shield = λ shielded. two.shield (one.shield shielded);
    clean = (let a = one.clean in let b = two.clean in omega (arith, a, b));
    counts = (let a = one.counts in let b = two.counts in omega (arith, a, b));
    closes = λ clean is_open.
        let before = clean_before two clean in
        closes_both one.counts two.counts (one.closes before is_open) (two.closes clean);
    outcomes = λ trees left. one.outcomes trees (two.outcomes trees left);
  }

  -- a call that only moves cursors, after others
  pub unchanged_on : (old : S) {mid new : S}
      → (IsClean (ghosts.view mid) → IsUnchanged (ghosts.view old) (ghosts.view mid))
      → Quiet mid new
      → (IsClean (ghosts.view new) → IsUnchanged (ghosts.view mid) (ghosts.view new))
      → IsClean (ghosts.view new) → IsUnchanged (ghosts.view old) (ghosts.view new)
  unchanged_on old {mid} {new} before call same clean =
      unchanged_both (ghosts.view old) (before (clean_before call clean)) (same clean)

  -- a cursor that moves on where it was placed
  pub unchanged_next : (old : S) {mid new : S} {cursor : ℕ} {cursors : ℕ → Option (List Row)}
      → (IsClean (ghosts.view mid)
      → ghosts.view mid ≡ record (ghosts.view old) { cursors = cursors })
      → Quiet mid new → (IsClean (ghosts.view new)
      → Moves (ghosts.view mid) (ghosts.view new) cursor)
      → IsClean (ghosts.view new) → IsUnchanged (ghosts.view old) (ghosts.view new)
  unchanged_next old placed call moves =
      unchanged_on old (λ clean. unchanged_but (ghosts.view old) (placed clean)) call
      (λ clean. (moves clean).same)

  -- a call that leaves what was committed, after looks
  pub kept_on : (old : S) {mid new : S}
      → (IsClean (ghosts.view mid) → IsUnchanged (ghosts.view old) (ghosts.view mid))
      → Quiet mid new → KeepsCommitted (ghosts.view mid) (ghosts.view new)
      → IsClean (ghosts.view new) → KeepsCommitted (ghosts.view old) (ghosts.view new)
  kept_on old before call kept clean = kept_after_look (before (clean_before call clean)) kept

  -- a failure after looks
  pub failed_on : (old : S) {mid new : S} (error : StoreError)
      → (IsClean (ghosts.view mid) → IsUnchanged (ghosts.view old) (ghosts.view mid))
      → Quiet mid new → IsFailure (ghosts.view mid) (ghosts.view new) error
      → IsClean (ghosts.view new) → IsFailure (ghosts.view old) (ghosts.view new) error
  failed_on old {mid} {new} error before call failed clean =
      failed_after (ghosts.view old) (ghosts.view mid) (ghosts.view new) (ghosts.view mid).cursors
      error (before (clean_before call clean)) failed

-- what holds after two calls, one after the other
pub ruleset calls_in_turn =
    (schema_both, quiet_both, unchanged_but, unchanged_next, unchanged_on, kept_on, failed_on)
