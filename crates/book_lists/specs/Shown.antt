-- An answer with its value shown.
use Rattle.std.specs.Prelude.{Result, Ok, Err}
use Rattle.book_model.specs.declared.fault.LedgerFault.{LedgerFault}

-- the answer with its value shown; a refusal stays one
abbrev pub shown_by : {V A : Type 0} → (V → A) → Result V LedgerFault → Result A LedgerFault
shown_by show (Ok value) = Ok (show value)
shown_by show (Err fault) = Err fault
