-- Walks over all records, by name, a step at each: the steps may depend on the tables before the
-- first one.
use Rattle.std.proofs.Common.{◌≡◌, ◌∙◌, ℕ, List, Option, Some, None, Ok, refl, sym, subst, ap}
use Rattle.book_model.proofs.Std.{keys}
use Rattle.table_model.specs.Words.{walk, Tables}
use Rattle.tree_tables.specs.Answers.{FindsNext}
use Rattle.tree_tables.proofs.WalkNames.{IsWalking, KeepsNames, names_stay, next_names}
use Rattle.tree_tables.proofs.WalkNames.{walking_ends}
use Rattle.table_ledger.proofs.Walks.{WalksTo, walks_all, walks_none, walks_on}
use Rattle.table_ledger.proofs.Words.{Trees, Holds, State, Does, Looks, StoredRecord}

-- A walk has reached a name; and of the tables as they are now this still holds, by those before it.
pub record HasWalked (Still : Tables → Tables → Type 0)
    (step : Tables → List ℕ → Tables → Tables) (last : Option (List ℕ)) (tables : Tables)
    (trees : Trees) : Type 0 where
  pub so_far : IsWalking (step tables) tables trees last
  pub still : Still tables so_far.now

module _ {When : Tables → Type 0} {Still : Tables → Tables → Type 0}
    {step : Tables → List ℕ → Tables → Tables} where
  -- before the first look
  pub of_none : (state : State) → ((tables : Tables) → When tables → Still tables tables)
      → WalksTo When (HasWalked Still step None) state state
  of_none state starts =
      walks_none state (λ tables holds when. record {
        so_far = record { now = tables; holds = holds; whole = refl };
        still = starts tables when;
      })

  module _ {old mid : State} {last : Option (List ℕ)}
      (walks : WalksTo When (HasWalked Still step last) old mid) where
    -- the next record is found, and its step taken
    pub of_on : {T : Type 0} {seen new : State} {Before : Tables → Type 0}
        {change : Tables → Tables} {done : T} (stored : StoredRecord)
        → ((tables : Tables) → KeepsNames (step tables))
        → Looks (Ok (Some stored)) mid seen (FindsNext last)
        → Does (Ok done) seen new Before change
        → ((tables now : Tables) → Still tables now → FindsNext last now (Some stored)
        → Before now × (change now ≡ step tables stored.name now))
        → ((tables now : Tables) → Still tables now → Still tables (step tables stored.name now))
        → WalksTo When (HasWalked Still step (Some stored.name)) old new
    of_on {new = new} stored keeps looks does so stays =
        walks_on walks looks does (λ tables walked acts.
        let so_far = walked.so_far in
        let now = so_far.now in
        let name = stored.name in
        let next = step tables name now in
        let acted = acts now so_far.holds in
        let steps = so tables now walked.still acted.0 in
        record {
          so_far = record {
            now = next;
            holds = subst (Holds new.view.trees) steps.1 (acted.1 steps.0);
            whole = ap (λ names. walk (step tables) names next)
                (names_stay (Some name) next now (keeps tables name now))
                ∙ ap (λ names. walk (step tables) names now)
                (sym (next_names last now stored acted.0))
                ∙ so_far.whole;
          };
          still = stays tables now walked.still;
        })

    -- none is found: all steps are taken, one for each name, in order
    pub of_all : {T : Type 0} {new : State} {done : T}
        → Looks (Ok None) mid new (FindsNext last)
        → Does (Ok done) old new When (λ tables. walk (step tables) (keys tables.records) tables)
    of_all looks =
        walks_all walks looks (λ tables when walked seen.
        walking_ends last walked.so_far (seen walked.so_far.now walked.so_far.holds))
