use Rattle.std.proofs.Common.{◌+◌, arith, length}
use Rattle.chargectl.proofs.port.Port.attend.Goals as goal

-- those behind it are fewer than are left
pub after_all-due-requires : goal.after_all-due-requires
after_all-due-requires g c =
    let count = c.answer_stream-attended.ensures.count in
    omega (arith, count, c.requires)

pub returns-clause-attended : goal.returns-clause-attended
returns-clause-attended g c = c.answer_stream-attended.ensures.attended

pub returns-clause-due : goal.returns-clause-due
returns-clause-due g c = c.after_all-due.ensures.due

pub returns-clause-most : goal.returns-clause-most
returns-clause-most g c = c.after_all-due.ensures.each
