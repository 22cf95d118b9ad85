use Rattle.std.proofs.Common.{◌≡◌, ◌∙◌, ap, sym, w32}
use Rattle.book_model.proofs.Std.{list_any, to_z-of_z}
use Rattle.book_model.specs.Words.{names_centre, text_names}
use Rattle.book_reports.proofs.Words.{IfOk-weaker}
use Rattle.book_reports.proofs.KeptTariffLemmas.{through_none, through_one}
use Rattle.book_reports.proofs.KnownCentreLemmas.{or_none}
use Rattle.book_reports.specs.KnownCentres.{is_named_by}
use Rattle.book_reports.proofs.known_centres.is_named_by.Goals as goal

-- it begins after the last day
pub returns-then-not-is_through-clause-named : goal.returns-then-not-is_through-clause-named
returns-then-not-is_through-clause-named c =
    let same = to_z-of_z w32 c.args.day c.ranges.day in
    let after = sym (rw same at c.is_through.ensures) ∙ c.if-not-is_through.true in
    sym (ap (list_any (names_centre c.args.centre.now))
    (through_none c.args.days.through c.args.day c.args.text.now after))

-- or by then
pub returns-clause-named : goal.returns-clause-named
returns-clause-named c =
    let same = to_z-of_z w32 c.args.day c.ranges.day in
    let begun = sym (rw same at c.is_through.ensures) ∙ c.if-not-is_through.false in
    let centre = c.args.centre.now in
    let text = c.args.text.now in
    IfOk-weaker c.text_names.result (λ named. named ≡ text_names centre text)
    (λ named. named ≡ is_named_by centre c.args.days.through c.args.day text)
    (λ named is. is ∙ sym (or_none (text_names centre text))
    ∙ sym (ap (list_any (names_centre centre))
    (through_one c.args.days.through c.args.day text begun)))
    c.text_names.ensures.named
