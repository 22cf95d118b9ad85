-- The words and lemmas that most proofs of this crate cite, from one place. Declares nothing.
pub use Rattle.std.proofs.Math.Bool.{or-true}
pub use Rattle.book_model.proofs.CountedDays.{through_at}
pub use Rattle.book_model.specs.declared.fault.LedgerFault.{LedgerFault}
pub use Rattle.book_model.specs.declared.fault.LedgerFault.TheVariants.{NoSuchPeriod}
pub use Rattle.book_model.specs.declared.line.Line.{Line}
pub use Rattle.book_model.specs.declared.row.ChargeRow.{ChargeRow}
pub use Rattle.book_model.specs.declared.row.RowKey.{RowKey}
pub use Rattle.book_model.specs.declared.trail.Deed.TheVariants.{Added, Charged, Reversed}
pub use Rattle.book_model.specs.declared.trail.Turn.{Turn}
pub use Rattle.report_texts.specs.Centres.{rows_of_centre}
pub use Rattle.book_core.proofs.TransitionLemmas.{after_all-append}
pub use Rattle.table_model.proofs.ListLemmas.{held_in}
pub use Rattle.table_model.proofs.PeriodPlaces.{at_place}
pub use Rattle.table_model.proofs.PriceSums.{some_within}
pub use Rattle.book_reports.specs.declared.report.PeriodReport.TheVariants.{Statement}
pub use Rattle.office.proofs.LeavingLemmas.{work_leaves}
pub use Rattle.book_laws.specs.ClosedPeriods.{IsClosed, IsReadAlike}
pub use Rattle.book_laws.specs.NetCounts.{net_count, one_if}
pub use Rattle.book_laws.specs.PeriodAmounts.{minus_of, plus_of}
pub use Rattle.book_laws.specs.PeriodLines.{AreReadOnce, both_lines}
