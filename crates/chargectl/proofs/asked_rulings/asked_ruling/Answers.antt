use Rattle.std.proofs.Common.{rules}
use Rattle.chargectl.proofs.asked_rulings.asked_ruling.Goals as goal

pub returns-in-Close : goal.returns-in-Close
returns-in-Close g c =
    let asks = c.asked_close.ensures (g.F.Inputs.held c.args.inputs.now) in
    search rules

pub returns-in-Choose : goal.returns-in-Choose
returns-in-Choose g c =
    let asks = c.asked_choice.ensures (g.F.Inputs.held c.args.inputs.now) in
    search rules

pub returns-in-Adopt : goal.returns-in-Adopt
returns-in-Adopt g c =
    let asks = c.asked_adoption.ensures (g.F.Inputs.held c.args.inputs.now) in
    search rules

pub returns-in-Withhold : goal.returns-in-Withhold
returns-in-Withhold g c =
    let asks = c.asked_withholding.ensures (g.F.Inputs.held c.args.inputs.now) in
    search rules

pub returns-in-Credit : goal.returns-in-Credit
returns-in-Credit g c =
    let asks = c.asked_credit.ensures (g.F.Inputs.held c.args.inputs.now) in
    search rules
