-- The words and lemmas that several proofs of this crate cite, from one place. Declares nothing.
pub use Rattle.std.proofs.KnownBytes.{Appends-nil, Appends-trans}
pub use Rattle.std.specs.Io.KnownBytes.{Appends}
pub use Rattle.streams.specs.Sinks.{has_failed, writer_of}
pub use Rattle.book_model.specs.declared.fault.LedgerFault.{LedgerFault}
pub use Rattle.book_model.specs.declared.fault.LedgerFault.TheVariants.{Memory}
pub use Rattle.book_core.proofs.TransitionLemmas.{work_as, work_then}
pub use Rattle.book_lists.specs.Cursors.{IsNext}
pub use Rattle.book_lists.specs.Faults.{report_fault_of}
pub use Rattle.book_lists.specs.Shown.{shown_by}
pub use Rattle.book_lists.specs.Streamed.{WritesAnswerUntil, WritesFirst, WritesUntilOrRefuses}
pub use Rattle.book_lists.specs.Streamed.{is_hindrance, refusal_in}
pub use Rattle.book_lists.specs.Writing.{WritesPrefix, WritesUntil, is_write_or_memory}
