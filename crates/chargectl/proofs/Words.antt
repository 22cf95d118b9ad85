-- The words and lemmas that most proofs of this crate cite, from one place. Declares nothing.
pub use Rattle.std.specs.Io.KnownBytes.{Keeps}
pub use Rattle.streams.specs.Failures.{HasFailed}
pub use Rattle.book_model.specs.declared.fault.LedgerFault.{LedgerFault}
pub use Rattle.book_core.proofs.TransitionLemmas.{work_as}
pub use Rattle.named_books.proofs.ShelfLemmas.{done_as}
pub use Rattle.named_books.specs.Shelves.{ComesBy, IsDoneTo, IsOpened, Shelf}
pub use Rattle.named_books.specs.declared.repository.RepositoryFault.{RepositoryFault}
pub use Rattle.named_books.specs.declared.repository.RepositoryFault.TheVariants.{Unseen}
pub use Rattle.book_lists.specs.declared.fault.ReportFault.{ReportFault}
pub use Rattle.office.specs.Requests.{response_by}
pub use Rattle.office.specs.declared.request.Answer.{Answer}
pub use Rattle.office.specs.declared.request.Asked.{Asked}
pub use Rattle.without_books.specs.declared.command_fault.CommandFault.{CommandFault}
