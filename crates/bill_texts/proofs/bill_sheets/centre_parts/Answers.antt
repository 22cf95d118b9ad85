use Rattle.bill_texts.proofs.ShiftLemmas.{shifts_add_up}
use Rattle.bill_texts.proofs.bill_sheets.centre_parts.Goals as goal

pub returns-clause-add_up : goal.returns-clause-add_up
returns-clause-add_up c = shifts_add_up
