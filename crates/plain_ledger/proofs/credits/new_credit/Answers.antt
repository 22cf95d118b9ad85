use Rattle.std.proofs.Common.{w64}
use Rattle.book_model.proofs.Std.{to_z-of_z}
use Rattle.plain_ledger.specs.Plain.{credit_with}
use Rattle.plain_ledger.proofs.credits.new_credit.Goals as goal

pub returns : goal.returns
returns c =
    λ i. credit_with c.args.period c.args.centre (to_z-of_z w64 c.args.amount c.ranges.amount i)
    (c.in_ok-reason.ensures.ok i)
