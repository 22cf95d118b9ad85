use Rattle.std.proofs.Common.{subst, IfErr, IfOk}
use Rattle.chargectl.specs.Choices.{AreAllOf, AreLinesOf, IsListFault, front_of}
use Rattle.chargectl.proofs.choices.read_list.Goals as goal

-- what the reader had is what the file holds
pub returns-clause-all : goal.returns-clause-all
returns-clause-all g c =
    subst (λ had. IfOk c.read_front.result
    (λ listed. AreAllOf (front_of had) listed.names.items))
    c.in_ok-input.ensures c.read_front.ensures.all

pub returns-clause-placed : goal.returns-clause-placed
returns-clause-placed g c =
    subst (λ had. IfOk c.read_front.result
    (λ listed. AreLinesOf (front_of had) listed.lines.items))
    c.in_ok-input.ensures c.read_front.ensures.placed

pub returns-clause-refused : goal.returns-clause-refused
returns-clause-refused g c =
    subst (λ had. IfErr c.read_front.result (IsListFault (front_of had))) c.in_ok-input.ensures
    c.read_front.ensures.refused
