-- A failure after cursors have moved.
use Rattle.std.proofs.Common.{◌≡◌, ◌≤◌, ◌∙◌, subst, List, Option, ℕ, IsTrue, ap, refl, rules}
use Rattle.sqlite_disk.specs.Disk.{MoreFaults}
use Rattle.sqlite_trees.specs.View.{View, IsFailure, KeepsCommitted, OnlyWrites}
use Rattle.sqlite_trees.specs.declared.error.StoreError.{StoreError}
use Rattle.sqlite_value.specs.Order.{Row}

-- what is there after a step that only writes was there before it
pub kept_after : {old mid new : View} → OnlyWrites old mid → KeepsCommitted mid new
    → KeepsCommitted old new
kept_after only kept = record {
  shape = kept.shape ∙ ap (λ (v : View). v.shape) only;
  reals = kept.reals ∙ ap (λ (v : View). v.reals) only;
  committed_shape = kept.committed_shape ∙ ap (λ (v : View). v.committed_shape) only;
  committed_reals = kept.committed_reals ∙ ap (λ (v : View). v.committed_reals) only;
  numbered = kept.numbered ∙ ap (λ (v : View). v.is_numbered) only;
  was_open = λ is_open. subst IsTrue (ap (λ (v : View). v.is_open) only) (kept.was_open is_open);
  committed = λ is_open. kept.committed is_open ∙ ap (λ (v : View). v.committed) only;
  marks = λ is_open. kept.marks is_open ∙ ap (λ (v : View). v.marks) only;
}

-- it is one of the store as it was before they moved
moved : (old new : View) (cursors : ℕ → Option (List Row)) (e : StoreError)
    → IsFailure (record old { cursors = cursors }) new e → IsFailure old new e
moved old new cursors e failed = record {
  kept = kept_after {old = old} refl failed.kept;
  unchanged = failed.unchanged;
  refused = failed.refused;
}

pub failed_after : (old mid new : View) (cursors : ℕ → Option (List Row)) (e : StoreError)
    → mid ≡ record old { cursors = cursors } → IsFailure mid new e → IsFailure old new e
failed_after old mid new cursors e is failed =
    moved old new cursors e (subst (λ v. IsFailure v new e) is failed)

-- more faults since a call are more since one before it
pub more_since : (one two three : ℕ) → one ≤ two → MoreFaults two three → MoreFaults one three
more_since one two three less more = search rules
