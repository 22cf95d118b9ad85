use Rattle.std.proofs.Common.{◌∙◌, List, ap, map}
use Rattle.book_core.specs.Effects.{effects_of}
use Rattle.tree_tables.specs.declared.found_names.FoundName.{FoundName}
use Rattle.table_ledger.specs.NamedViews.{view_named}
use Rattle.table_ledger.proofs.NamedRivals.{names_enough}
use Rattle.table_ledger.proofs.TryLemmas.{looks_known, saw_found, saw_then}
use Rattle.table_ledger.proofs.effects.look_for_effects.Goals as goal

pub returns : goal.returns
returns g c = record {
  looks =
      let through = c.args.through in
      let name = c.args.name in
      let priced = c.args.priced.now in
      looks_known
      (saw_then (saw_found c.in_ok-names.ensures.looks) (saw_found c.in_ok-view.ensures.looks))
      (λ tables known.
      c.plan.ensures.effects
      ∙ ap (λ view. effects_of view name priced) (known.1
      ∙ ap (λ (list : List FoundName). view_named through tables
      (map (λ (one : FoundName). one.name) list)) c.deref.ensures.value)
      ∙ names_enough through tables name priced c.args.identity.now c.in_ok-names.names.items
      known.0);
}
