-- What stays of a store after calls that change nothing.
use Rattle.std.proofs.Common.{◌≡◌, ◌∙◌, sym, ap, subst}
use Rattle.table_model.specs.Words.{Tables}
use Rattle.table_ledger.proofs.Words.{View, IsUnchanged, Holds, KeepsLastCommit, IsAtRest}

-- the trees are those from before
pub trees_same : (old new : View) → IsUnchanged old new → new.trees ≡ old.trees
trees_same old new same = ap (λ (v : View). v.trees) same

-- trees that hold the tables still hold them
pub holds_on : (old new : View) (tables : Tables) → IsUnchanged old new → Holds old.trees tables
    → Holds new.trees tables
holds_on old new tables same holds =
    subst (λ trees. Holds trees tables) (sym (trees_same old new same)) holds

-- a store at rest is still at rest
pub rest_on : (old new : View) → IsUnchanged old new → IsAtRest old → IsAtRest new
rest_on old new same rest = record {
  is_open = ap (λ (v : View). v.is_open) same ∙ rest.is_open;
  sound = ap (λ (v : View). v.is_broken) same ∙ rest.sound;
  settled = trees_same old new same ∙ rest.settled ∙ sym (ap (λ (v : View). v.committed) same);
}

-- and after one call after another
pub stands_then : {first middle last : View} → KeepsLastCommit first middle → KeepsLastCommit middle last
    → KeepsLastCommit first last
stands_then one two = record {
  was_open = λ is_open. one.was_open (two.was_open is_open);
  committed = λ is_open. two.committed is_open ∙ one.committed (two.was_open is_open);
}
