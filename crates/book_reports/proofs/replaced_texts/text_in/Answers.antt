use Rattle.std.proofs.Common.{FitsSigned, rules, w32}
use Rattle.book_model.proofs.Std.{to_z-of_z}
use Rattle.book_reports.proofs.replaced_texts.text_in.Goals as goal

pub returns-in-Replaced : goal.returns-in-Replaced
returns-in-Replaced c =
    let day = c.in-Replaced.day in
    let fits : FitsSigned w32 day = search rules in
    rw c.in-Replaced.is
    (rw (
      c.is_that-is_it.ensures,
      to_z-of_z w32 day fits,
      c.as_str.ensures.value,
      c.as_str-in-Replaced.ensures.value,
    ) at c.text_if.ensures)
