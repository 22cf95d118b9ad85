use Rattle.std.proofs.Common.{◌∙◌, Ok, ap, refl}
use Rattle.book_model.specs.Journal.{ChoiceOf}
use Rattle.book_model.specs.Words.{note_given}
use Rattle.book_model.proofs.Std.{get}
use Rattle.table_model.specs.Words.{put_choice, put_choice_row, charge_in, ChoiceTable}
use Rattle.table_ledger.specs.Premises.{IsNext}
use Rattle.table_ledger.proofs.ChoiceTries.{same_choices}
use Rattle.table_ledger.proofs.EnteredRulings.{does_ruling}
use Rattle.table_ledger.proofs.StepLemmas.{does_then}
use Rattle.table_ledger.proofs.Words.{state, Does, StoreError}
use Rattle.std.specs.Prelude.{Result}
use Rattle.table_ledger.proofs.choices.write_choice.Goals as goal

-- the record before, the chosen one, the row of the choice, and the entry
pub returns : goal.returns
returns g c =
    let choice = c.args.choice.now in
    let put : Result (Unit {0}) StoreError = Ok tt in
    let rest : Does put (state g.S.Store c.withdraw.new.tables.store)
    (state g.S.Store c.put_choice.new.self.store) (IsNext choice.number)
    (λ tables. put_choice_row choice.number choice.name choice.period
    (charge_in choice.period choice.name choice.effects.chosen tables)) =
    does_then put c.in_ok-charge.ensures.does c.in_ok-put_choice.ensures.does
    (λ tables next. (tt, next)) in
    does_ruling {When = IsNext choice.number}
    {change = put_choice choice.number choice.period choice.name choice.effects}
    (note_given c.args.note.now) {place = ChoiceOf choice.number} c.enter.result
    (does_then {When = IsNext choice.number} put c.in_ok-withdraw.ensures.does rest
    (λ tables next. (
      tt,
      ap (λ (choices : ChoiceTable). get choices choice.number)
          (same_choices choice.period choice.effects.withdrawn tables) ∙ next,
    )))
    refl c.enter.ensures
