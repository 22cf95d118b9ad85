use Rattle.std.proofs.Common.{◌∙◌, Some, ap, sym, option_map}
use Rattle.book_model.proofs.Std.{get}
use Rattle.table_model.specs.Words.{RecordRow, member_at}
use Rattle.tree_tables.specs.Stored.{stored_entry}
use Rattle.table_ledger.proofs.LineReadings.{found_row}
use Rattle.table_ledger.proofs.TryLemmas.{looks_known, saw_found}
use Rattle.table_ledger.proofs.effects.look_for_member.Goals as goal

-- the row that was found is that of the name
pub returns : goal.returns
returns g c = record {
  looks =
      let name = c.args.name.now in
      let stored = c.in_ok-stored.stored in
      looks_known (saw_found c.in_ok-stored.ensures.looks) (λ tables found.
      let its = found_row name stored (get tables.records name) found in
      ap (option_map (λ (row : RecordRow). member_at (name, row))) its.0
      ∙ (λ i. Some (member_at (its.1 i, (stored_entry stored).1)))
      ∙ ap Some (sym c.member_of.ensures));
}
