use Rattle.std.proofs.Common.{◌∙◌, sym, ap, option_copied}
use Rattle.plain_ledger.specs.Plain.{record_of}
use Rattle.plain_ledger.proofs.ChoiceLemmas.{is_withheld-by}
use Rattle.plain_ledger.proofs.choices.is_withheld.Goals as goal

pub returns-in-Some : goal.returns-in-Some
returns-in-Some c =
    is_withheld-by c.args.adopted c.args.choices.now (record_of c.args.held.now) _ _
    c.identity_by.ensures (ap option_copied (sym c.in-Some.is) ∙ c.last_of.ensures)

pub returns-in-None : goal.returns-in-None
returns-in-None c =
    is_withheld-by c.args.adopted c.args.choices.now (record_of c.args.held.now) _ _
    c.identity_by.ensures (ap option_copied (sym c.in-None.is) ∙ c.last_of.ensures)
