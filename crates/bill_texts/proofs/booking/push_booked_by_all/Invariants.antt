use Rattle.std.specs.Prelude.{map}
use Rattle.bill_texts.specs.Booked.{booked_of_all, booked_text, owed_by, unit_of}
use Rattle.bill_texts.proofs.booking.push_booked_by_all.Given as goal

-- the piece is what the office books
abbrev pub ghost-leave_out : goal.ghost-leave_out
ghost-leave_out a =
    booked_text a.value.now.0
    (booked_of_all (unit_of a.value.now.0) (map owed_by a.value.now.1.now))
