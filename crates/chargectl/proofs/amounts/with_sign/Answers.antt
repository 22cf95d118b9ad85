use Rattle.std.proofs.Common.{arith}
use Rattle.book_model.proofs.Std.{ints}
use Rattle.chargectl.proofs.amounts.with_sign.Goals as goal

-- 63 bits hold it
pub returns-then-is_below : goal.returns-then-is_below
returns-then-is_below c =
    let small = c.requires in
    let below = c.if-is_below.true in
    rw below (omega (arith, ints, small))

pub returns : goal.returns
returns c =
    let small = c.requires in
    let above = c.if-is_below.false in
    rw above (omega (arith, ints, small))
