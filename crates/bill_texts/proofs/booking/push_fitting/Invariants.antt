use Rattle.bill_texts.specs.Booked.{units_text}
use Rattle.bill_texts.proofs.booking.push_fitting.Given as goal

-- the piece is the units
abbrev pub ghost-leave_out : goal.ghost-leave_out
ghost-leave_out a = units_text a.value.now.0 a.value.now.1
