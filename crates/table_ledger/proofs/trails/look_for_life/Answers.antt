use Rattle.book_core.specs.OfficeRulings.{ruled_in}
use Rattle.tree_tables.specs.Stored.{stored_entry}
use Rattle.std.proofs.Common.{◌∙◌, ◌++◌, ap}
use Rattle.book_model.specs.declared.trail.Deed.TheVariants.{Charged}
use Rattle.book_model.specs.Words.{turn_if}
use Rattle.table_ledger.specs.TrailReads.{charged_before}
use Rattle.table_ledger.proofs.TraceLemmas.{life_told}
use Rattle.table_ledger.proofs.TryLemmas.{looks_known, saw_found}
use Rattle.table_ledger.proofs.trails.look_for_life.Goals as goal

pub returns : goal.returns
returns g c = record {
  looks =
      let stored = c.args.stored.now in
      let ruled = ruled_in c.args.summary.now.rulings in
      looks_known (saw_found c.in_ok-turns.ensures.looks) (λ tables known.
      life_told ruled tables.lines (stored_entry stored) c.period_of_day-own.result
      c.open_number-last.result c.in_ok-turns.turns.items c.put_first.new.turns.items
      c.period_of_day-own.ensures.number c.open_number-last.ensures.number known
      (c.in_ok-put_first.ensures
      ∙ ap (λ counted. turn_if counted c.period_of_day-own.result Charged
      ++ c.in_ok-turns.turns.items)
      (c.charged_before-counted.ensures
      ∙ ap (charged_before stored.charged) c.deref.ensures.value)));
}
