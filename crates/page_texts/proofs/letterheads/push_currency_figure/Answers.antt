use Rattle.std.proofs.Common.{append_assoc}
use Rattle.page_texts.specs.Letterheads.{currency_figure}
use Rattle.page_texts.proofs.letterheads.push_currency_figure.Goals as goal

pub returns-in-Some : goal.returns-in-Some
unfolding currency_figure
returns-in-Some c =
    rw (
      c.push_str-in-Some.ensures,
      c.push_escaped.ensures,
      c.as_str.ensures.value,
      c.push_str.ensures,
      c.in-Some.is,
    )
    (simp append_assoc)
