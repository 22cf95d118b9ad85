use Rattle.std.proofs.Common.{◌∙◌, subst, sym}
use Rattle.book_model.specs.declared.row.ChargeRow.{ChargeRow}
use Rattle.book_model.specs.Words.{AreRows, row_key, same_key}
use Rattle.report_texts.proofs.CentreLemmas.{filtered_rows}
use Rattle.bill_texts.proofs.shift_sums.sums_at.Goals as goal

-- the rows at a place are some of rows that can be shown
pub row_sums-count-requires : goal.row_sums-count-requires
row_sums-count-requires c =
    subst AreRows (sym (c.deref.ensures.value ∙ c.in_ok-own.ensures))
    (filtered_rows (λ (row : ChargeRow). same_key (row_key row) c.args.place.now) c.args.rows.now
    c.requires)
