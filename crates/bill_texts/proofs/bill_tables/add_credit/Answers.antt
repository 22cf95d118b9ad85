use Rattle.std.proofs.Common.{refl}
use Rattle.bill_texts.specs.BillTables.{credit_row}
use Rattle.bill_texts.proofs.bill_tables.add_credit.Goals as goal

pub returns : goal.returns
unfolding credit_row
returns c =
    rw (
      c.add_row.ensures,
      c.add_given.ensures,
      c.add_blanks.ensures,
      c.add_str-4.ensures,
      c.add_str-3.ensures,
      c.add_str-2.ensures,
      c.add_str.ensures,
      c.add_number.ensures,
      c.new-fields.ensures,
      c.from.ensures,
      c.text.ensures.value,
    )
    refl
