use Rattle.std.proofs.Common.{ap, arith, length}
use Rattle.chargectl.proofs.ClientLemmas.{alone_attended}
use Rattle.chargectl.proofs.port.answer_client.Goals as goal

pub returns-in_default-clause-attended : goal.returns-in_default-clause-attended
returns-in_default-clause-attended g c =
    let alone = c.unopened-attended in
    alone_attended g.S.Repository.shelf c.args.book.now c.args.repository.now alone.result
    alone.ensures.served alone.ensures.later alone.ensures.log

pub returns-in_default-clause-count : goal.returns-in_default-clause-count
returns-in_default-clause-count g c =
    let none = ap length c.unopened-attended.ensures.later in
    omega (arith, none)
