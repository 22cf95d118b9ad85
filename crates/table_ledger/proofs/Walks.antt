-- Walks, as calls on a store make them: a look, then a step by what it has answered, and so on.
use Rattle.std.proofs.Common.{Ok, refl}
use Rattle.table_model.specs.Words.{Tables}
use Rattle.tree_tables.proofs.Looking.{held_after_look, only_looks, survives_both, was_clean}
use Rattle.table_ledger.proofs.SurvivalLemmas.{survives_none}
use Rattle.table_ledger.proofs.Words.{Trees, OnlyWrites, Holds, HasCleanDisk, State, Survives, Does}
use Rattle.table_ledger.proofs.Words.{Looks, only_both}

-- what is known of any tables that some trees hold
abbrev pub Shows : Trees → (Tables → Type 0) → Type 0
Shows trees Known = (now : Tables) → Holds trees now → Known now

-- A walk has come so far: nothing is committed; and by the tables before the walk, where the premise
-- holds of them, this is said of the trees as they are now.
pub record WalksTo (When : Tables → Type 0) (Come : Tables → Trees → Type 0) (old new : State)
    : Type 0 where
  pub survives : Survives old new (λ trees. ⊥)
  pub only : HasCleanDisk new → OnlyWrites old.view new.view
  pub come : HasCleanDisk new → (tables : Tables) → Holds old.view.trees tables → When tables
      → Come tables new.view.trees

module _ {When : Tables → Type 0} {Come : Tables → Trees → Type 0} where
  -- before the first look
  pub walks_none : (state : State)
      → ((tables : Tables) → Holds state.view.trees tables → When tables
      → Come tables state.view.trees)
      → WalksTo When Come state state
  walks_none state starts = record {
    survives = survives_none;
    only = λ clean. refl;
    come = λ clean. starts;
  }

  module _ {old mid : State} (walks : WalksTo When Come old mid) where
    -- a look is answered, and the step by it is taken
    pub walks_on : {A T : Type 0} {seen new : State} {Answers : Tables → A → Type 0} {answer : A}
        {Before : Tables → Type 0} {change : Tables → Tables} {done : T}
        {Next : Tables → Trees → Type 0}
        → Looks (Ok answer) mid seen Answers → Does (Ok done) seen new Before change
        → ((tables : Tables) → Come tables mid.view.trees
        → Shows mid.view.trees (λ now.
        Answers now answer × (Before now → Holds new.view.trees (change now)))
        → Next tables new.view.trees)
        → WalksTo When Next old new
    walks_on looks does goes = record {
      survives = survives_both walks.survives (survives_both looks.survives does.survives);
      only = λ clean.
          let behind = was_clean does.survives clean in
          only_both old.view (walks.only (was_clean looks.survives behind))
          (only_both mid.view (only_looks mid.view (looks.found behind).same)
          (does.done clean).only);
      come = λ clean tables holds when.
          let behind = was_clean does.survives clean in
          let look = looks.found behind in
          goes tables (walks.come (was_clean looks.survives behind) tables holds when)
          (λ now held. (
            look.known now held,
            λ before. (does.done clean).made now (held_after_look mid.view look.same held) before,
          ));
    }

    -- a look finds that there is no more to do
    pub walks_all : {A T : Type 0} {new : State} {Answers : Tables → A → Type 0} {answer : A}
        {change : Tables → Tables} {done : T} → Looks (Ok answer) mid new Answers
        → ((tables : Tables) → When tables → Come tables mid.view.trees
        → Shows mid.view.trees (λ now. Answers now answer) → Holds mid.view.trees (change tables))
        → Does (Ok done) old new When change
    walks_all looks ends = record {
      survives = survives_both walks.survives looks.survives;
      done = λ clean.
          let before = was_clean looks.survives clean in
          let look = looks.found clean in
          record {
            only = only_both old.view (walks.only before) (only_looks mid.view look.same);
            made = λ tables holds when.
                held_after_look mid.view look.same
                (ends tables when (walks.come before tables holds when) look.known);
          };
      refused = λ clean. tt;
    }
