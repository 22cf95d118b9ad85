use Rattle.std.proofs.Common.{append_assoc}
use Rattle.bill_pages.specs.BillPages.{main_sum}
use Rattle.bill_pages.proofs.bill_head.push_main_sum.Goals as goal

pub returns : goal.returns
unfolding main_sum
returns c =
    rw (
      c.push_str-4.ensures,
      c.push_currency.ensures,
      c.push_figure.ensures,
      c.push_str-3.ensures,
      c.push_str-2.ensures,
      c.push_str.ensures,
    )
    (simp append_assoc)
