use Rattle.std.proofs.Common.{◌∙◌, Ok, ap, refl}
use Rattle.book_model.specs.Journal.{ChoiceOf}
use Rattle.book_model.specs.Words.{note_given}
use Rattle.book_model.proofs.Std.{get}
use Rattle.table_model.specs.Words.{ChoiceTable, put_withheld}
use Rattle.table_ledger.specs.Premises.{IsNext}
use Rattle.table_ledger.proofs.ChoiceTries.{same_choices}
use Rattle.table_ledger.proofs.EnteredRulings.{does_ruling}
use Rattle.table_ledger.proofs.StepLemmas.{does_then}
use Rattle.table_ledger.proofs.withholding.write_none.Goals as goal

-- the record before, the row of the choice, and the entry
pub returns : goal.returns
returns g c =
    let choice = c.args.choice.now in
    does_ruling {When = IsNext choice.number}
    {change = put_withheld choice.number choice.period choice.name choice.withdrawn}
    (note_given c.args.note.now) {place = ChoiceOf choice.number} c.enter.result
    (does_then {When = IsNext choice.number} (Ok tt) c.in_ok-withdraw.ensures.does
    c.in_ok-put_choice.ensures.does
    (λ tables next. (
      tt,
      ap (λ (choices : ChoiceTable). get choices choice.number)
          (same_choices choice.period choice.withdrawn tables) ∙ next,
    )))
    refl c.enter.ensures
