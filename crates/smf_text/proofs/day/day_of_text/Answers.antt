use Rattle.std.proofs.Common.{◌≡◌, FitsSigned, w32, sym, ap, ◌∙◌, arith, rules, Some, true≢false}
use Rattle.std.proofs.lemmas.Int.{ints, to_z-of_z}
use Rattle.jiff_core.specs.Date.{epoch_day}
use Rattle.smf_text.proofs.DateLemmas.{date_text-day_text_of}
use Rattle.smf_text.proofs.DateTextLemmas.{epoch_day-from_text, no_day}
use Rattle.smf_text.proofs.DayOfTextLemmas.{the_day_found}
use Rattle.smf_text.proofs.day.day_of_text.Goals as goal

pub returns-in_err-date_of_text-clause-exact : goal.returns-in_err-date_of_text-clause-exact
returns-in_err-date_of_text-clause-exact c day h =
    let none = no_day _ c.in_err-date_of_text.ensures.none day h in
    (λ e. cc, λ e. absurd (none e))

pub returns-in_err-date_of_text-clause-value : goal.returns-in_err-date_of_text-clause-value
returns-in_err-date_of_text-clause-value c =
    the_day_found _ _ (returns-in_err-date_of_text-clause-exact c) (rw c.from_residual.ensures tt)

pub returns-then-is_day-clause-exact : goal.returns-then-is_day-clause-exact
returns-then-is_day-clause-exact c day h =
    let date = c.in_ok-date_of_text.field-0 in
    let told = c.in_ok-date_of_text.ensures in
    let fits : FitsSigned w32 c.to_unix_epoch_day-day.result =
    record { sfits = c.to_unix_epoch_day-day.type_inv } in
    let number =
    to_z-of_z w32 c.to_unix_epoch_day-day.result fits ∙ c.to_unix_epoch_day-day.ensures.value in (
      λ e. let is : epoch_day date ≡ day =
          cc in sym told.value ∙ date_text-day_text_of day date h is,
      λ e. ap Some (number ∙ epoch_day-from_text date day h told.year (told.value ∙ e)),
    )

pub returns-then-is_day-clause-value : goal.returns-then-is_day-clause-value
returns-then-is_day-clause-value c =
    the_day_found _ _ (returns-then-is_day-clause-exact c) (search rules)

pub returns-else-is_day-clause-exact : goal.returns-else-is_day-clause-exact
returns-else-is_day-clause-exact c day h =
    let date = c.in_ok-date_of_text.field-0 in
    let told = c.in_ok-date_of_text.ensures in
    let number = c.to_unix_epoch_day-day.ensures.value in (
      λ e. cc,
      λ e.
          let is = epoch_day-from_text date day h told.year (told.value ∙ e) in
          let is_day =
          c.is_day.ensures.1 (omega (arith, ints, number, is), omega (arith, ints, number, is)) in
          absurd (true≢false (sym is_day ∙ c.if-is_day.false)),
    )

pub returns-else-is_day-clause-value : goal.returns-else-is_day-clause-value
returns-else-is_day-clause-value c = the_day_found _ _ (returns-else-is_day-clause-exact c) tt
