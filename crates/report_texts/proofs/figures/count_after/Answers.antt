use Rattle.std.proofs.Common.{◌∙◌, ℤ, Option, FitsSigned, ap, rules, sym, w32}
use Rattle.book_model.proofs.Std.{to_z-of_z}
use Rattle.report_texts.specs.Figures.{count_after, record_count_from}
use Rattle.report_texts.proofs.figures.count_after.Goals as goal

pub returns-in-Some : goal.returns-in-Some
returns-in-Some c =
    let next = c.in-Some.next in
    let rows = c.args.rows.now in
    let fits : FitsSigned w32 next = search rules in
    c.record_count_from.ensures
    ∙ ap (λ (day : ℤ). record_count_from day rows) (to_z-of_z w32 next fits)
    ∙ ap (λ (next : Option ℤ). count_after next rows) (sym c.in-Some.is)
