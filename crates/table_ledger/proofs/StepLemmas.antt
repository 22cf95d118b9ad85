-- Steps inside one transaction, one after the other, and the store after their commit.
use Rattle.std.proofs.Common.{◌≡◌, ◌∙◌, Result, Ok, Err, false, refl, sym, ap, subst, OnOk}
use Rattle.sqlite_trees.specs.View.{Commits}
use Rattle.table_model.specs.Words.{new_tables, Tables}
use Rattle.tree_tables.specs.Holds.{has_book}
use Rattle.tree_tables.specs.Steps.{Changes, HasNoRows, Makes, MayCommit}
use Rattle.tree_tables.proofs.Looking.{does_err, kept_after}
use Rattle.table_ledger.proofs.Words.{Trees, View, OnlyWrites, StoreError, IsUnchanged, Holds}
use Rattle.table_ledger.proofs.Words.{State, HasCleanDisk, Survives, Always, Does, KeepsLastCommit}
use Rattle.table_ledger.proofs.Words.{IsAtRest, Saw, Stores}
use Rattle.table_ledger.specs.NewBooks.{MakesNew}
use Rattle.table_ledger.proofs.UnchangedStores.{rest_on, trees_same}
use Rattle.table_ledger.proofs.SurvivalLemmas.{clean_before, survives_both, survives_none}
use Rattle.table_ledger.proofs.SurvivalLemmas.{survives_then}

-- two changes, one after the other
changes_then : {When First After : Tables → Type 0} {one other : Tables → Tables}
    (first middle last : View) → Changes first middle First one → Changes middle last After other
    → ((tables : Tables) → When tables → First tables × After (one tables))
    → Changes first last When (λ tables. other (one tables))
changes_then {one = one} first middle last early late so = record {
  only = late.only
      ∙ ap (λ (v : View). record v { trees = last.trees; cursors = last.cursors }) early.only;
  made = λ tables holds when.
      let both = so tables when in
      late.made (one tables) (early.made tables holds both.0) both.1;
}

-- a step, and then others
pub does_then : {T U : Type 0} {first middle last : State} {When First After : Tables → Type 0}
    {one other : Tables → Tables} {done : T} (result : Result U StoreError)
    → Does (Ok done) first middle First one → Does result middle last After other
    → ((tables : Tables) → When tables → First tables × After (one tables))
    → Does result first last When (λ tables. other (one tables))
does_then {first = first} {middle = middle} {last = last} (Ok value) early late so = record {
  survives = survives_then early.survives late.survives;
  done = λ clean. changes_then first.view middle.view last.view
      (early.done (clean_before late.survives clean)) (late.done clean) so;
  refused = λ clean. tt;
}
does_then (Err error) early late so =
    does_err (Err error) refl (survives_then early.survives late.survives) (λ clean.
    kept_after (early.done (clean_before late.survives clean)).only (late.refused clean))

-- two steps, each of any tables
pub does_both : {T U : Type 0} {first middle last : State} {one other : Tables → Tables} {done : T}
    {result : Result U StoreError} → Does (Ok done) first middle Always one
    → Does result middle last Always other
    → Does result first last Always (λ tables. other (one tables))
does_both {result = result} early late = does_then result early late (λ tables always. (tt, tt))

-- no step
pub does_nothing : {T : Type 0} {state : State} {When : Tables → Type 0} {change : Tables → Tables}
    {done : T} → ((tables : Tables) → When tables → tables ≡ change tables)
    → Does (Ok done) state state When change
does_nothing {state = state} same = record {
  survives = survives_none;
  done = λ clean. record {
    only = refl;
    made = λ tables holds when. subst (Holds state.view.trees) (same tables when) holds;
  };
  refused = λ clean. tt;
}

-- a step may be described in other words
pub does_so : {T : Type 0} {first last : State} {When Other : Tables → Type 0}
    {change told : Tables → Tables} (result : Result T StoreError)
    → Does result first last When change
    → ((tables : Tables) → Other tables → When tables × (change tables ≡ told tables))
    → Does result first last Other told
does_so {last = last} (Ok value) does so = record {
  survives = does.survives;
  done = λ clean. record {
    only = (does.done clean).only;
    made = λ tables holds other.
        let same = so tables other in
        subst (Holds last.view.trees) same.1 ((does.done clean).made tables holds same.0);
  };
  refused = λ clean. tt;
}
does_so (Err error) does so = does_err (Err error) refl does.survives does.refused

-- ---- the commit

-- the last commit stays after steps
pub stands_only : (old new : View) → OnlyWrites old new → KeepsLastCommit old new
stands_only old new only = record {
  was_open = λ is_open. sym (ap (λ (v : View). v.is_open) only) ∙ is_open;
  committed = λ is_open. ap (λ (v : View). v.committed) only;
}

-- a store whose steps were committed is at rest
pub rests : (first middle last : View) → IsAtRest first → OnlyWrites first middle → Commits middle last
    → IsAtRest last
rests first middle last rest only commits = record {
  is_open = ap (λ (v : View). v.is_open) commits.is ∙ ap (λ (v : View). v.is_open) only
      ∙ rest.is_open;
  sound = ap (λ (v : View). v.is_broken) commits.is ∙ commits.sound;
  settled = ap (λ (v : View). v.trees) commits.is
      ∙ sym (ap (λ (v : View). v.committed) commits.is);
}

-- ---- new books

-- they are written after a look, and committed
pub makes_all : {T U : Type 0} {first old middle last : State} {Known : Tables → Type 0} {made : U}
    (result : Result T StoreError) → Saw first old Known
    → (HasCleanDisk old → has_book first.view.trees ≡ false) → Makes (Ok made) old middle
    → OnOk result (HasCleanDisk last → Commits middle.view last.view)
    → Survives middle last (MayCommit middle.view) → MakesNew result first last
makes_all {T} {first = first} {old = old} {middle = middle} {last = last} result saw absent makes commits survives = record {
  survives = survives_both (survives_then saw.survives makes.survives) survives
      (λ clean trees none. absurd none)
      (λ clean trees whole. record {
        absent = absent (before clean);
        whole = λ none. subst (λ (found : Trees). Holds found new_tables) (sym whole.whole)
            (holds clean none);
      });
  absent = λ clean. on_ok result (absent (before clean));
  made = λ clean rest none. ended result commits clean rest none;
}
  where
    on_ok : {P : Type 0} (result : Result T StoreError) → P → OnOk result P
    on_ok (Ok value) said = said
    on_ok (Err error) said = tt

    behind : HasCleanDisk last → HasCleanDisk middle
    behind clean = clean_before survives clean

    before : HasCleanDisk last → HasCleanDisk old
    before clean = clean_before makes.survives (behind clean)

    same : (clean : HasCleanDisk last) → IsUnchanged first.view old.view
    same clean = (saw.seen (before clean)).same

    holds : HasCleanDisk last → HasNoRows first.view.trees → Holds middle.view.trees new_tables
    holds clean none =
        (makes.done (behind clean)).1
        (subst HasNoRows (sym (trees_same first.view old.view (same clean))) none)

    ended : (result : Result T StoreError)
        → OnOk result (HasCleanDisk last → Commits middle.view last.view)
        → HasCleanDisk last → IsAtRest first.view → HasNoRows first.view.trees
        → OnOk result (Stores last.view new_tables)
    ended (Ok value) commits clean rest none = record {
      holds = subst (λ (found : Trees). Holds found new_tables)
          (sym (ap (λ (v : View). v.trees) (commits clean).is)) (holds clean none);
      rest = rests old.view middle.view last.view
          (rest_on first.view old.view (same clean) rest)
          (makes.done (behind clean)).0 (commits clean);
    }
    ended (Err error) commits clean rest none = tt
