-- The words and lemmas that several proofs of this crate cite, from one place. Declares nothing.
pub use Rattle.std.proofs.lemmas.Fn.{filter_same}
pub use Rattle.book_model.specs.declared.line.Line.{Line}
pub use Rattle.book_model.specs.declared.row.ChargeRow.{ChargeRow}
pub use Rattle.report_texts.specs.AdjustmentLists.{charged_amount}
pub use Rattle.report_texts.specs.CentreAmounts.{AreAmounts, cost_among}
pub use Rattle.report_texts.specs.Charges.{FitCharges, plain_lines}
pub use Rattle.report_texts.specs.DisputeTables.{rows_from}
pub use Rattle.report_texts.specs.FocusTables.{LineSeen, head_shown, row_line}
