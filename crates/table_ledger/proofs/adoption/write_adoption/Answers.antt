use Rattle.std.proofs.Common.{Ok, refl}
use Rattle.book_model.specs.Journal.{AdoptionOf}
use Rattle.book_model.specs.Words.{note_given}
use Rattle.table_model.specs.Changed.{adopted_at}
use Rattle.table_ledger.proofs.EnteredRulings.{does_ruling}
use Rattle.table_ledger.proofs.StepLemmas.{does_both}
use Rattle.table_ledger.proofs.Words.{Always}
use Rattle.table_ledger.proofs.adoption.write_adoption.Goals as goal

-- the identities, what is charged by them, the rule, and the entry
pub returns : goal.returns
returns g c =
    does_ruling {When = Always} {change = adopted_at c.args.period c.args.through}
    (note_given c.args.note.now) {place = AdoptionOf} c.enter.result
    (does_both {result = Ok tt} c.in_ok-rename_records.ensures.does
    (does_both {result = Ok tt} c.in_ok-charge_due.ensures.does c.in_ok-set_rule.ensures.does))
    refl c.enter.ensures
