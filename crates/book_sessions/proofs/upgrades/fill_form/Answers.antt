use Rattle.std.proofs.Common.{◌≡◌, Ok, refl, subst, sym}
use Rattle.tree_tables.specs.States.{state}
use Rattle.tree_tables.specs.Steps.{Does}
use Rattle.table_ledger.proofs.SurvivalLemmas.{survives_none}
use Rattle.book_trees.specs.declared.schema.OlderForm.{OlderForm}
use Rattle.book_sessions.specs.Upgrades.{filled, written_in}
use Rattle.book_sessions.proofs.upgrades.fill_form.Goals as goal

-- the first form gets its details,
pub returns-in-First-clause-does : goal.returns-in-First-clause-does
returns-in-First-clause-does g c =
    subst (λ (form : OlderForm). Does c.fill_details.result (state g.S.Store c.args.store.now)
    (state g.S.Store c.fill_details.new.store) (λ tables. tables ≡ written_in form tables)
    (filled form)) (sym c.in-First.is) c.fill_details.ensures.does

-- and the second has them
pub returns-in-Second-clause-does : goal.returns-in-Second-clause-does
returns-in-Second-clause-does g c =
    subst (λ (form : OlderForm). Does {T = Unit {0}} (Ok tt) (state g.S.Store c.args.store.now)
    (state g.S.Store c.args.store.now) (λ tables. tables ≡ written_in form tables) (filled form))
    (sym c.in-Second.is) (record {
      survives = survives_none;
      done = λ clean. record { only = refl; made = λ tables holds when. holds };
      refused = λ clean. tt;
    })
