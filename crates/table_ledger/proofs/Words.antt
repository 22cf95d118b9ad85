-- The words and lemmas that most proofs of this crate cite, from one place. Declares nothing.
pub use Rattle.sqlite_trees.specs.Tree.{Trees}
pub use Rattle.sqlite_trees.specs.View.{IsClean, KeepsSchema, OnlyWrites, View}
pub use Rattle.sqlite_trees.specs.declared.error.StoreError.{StoreError}
pub use Rattle.sqlite_trees.specs.declared.store.Store.{Ghosts}
pub use Rattle.sqlite_value.specs.Order.{Row}
pub use Rattle.std.proofs.lemmas.Result.{IfOk-weaker}
pub use Rattle.std.specs.FinMap.{find}
pub use Rattle.std.specs.Map.{lookup}
pub use Rattle.book_model.specs.declared.answer.Accepted.{Accepted}
pub use Rattle.book_model.specs.declared.answer.Ruled.{Ruled}
pub use Rattle.book_model.specs.declared.answer.Ruled.TheVariants.{Done}
pub use Rattle.book_model.specs.declared.detail.Detail.{Detail}
pub use Rattle.book_model.specs.declared.dispute.Dispute.{Dispute}
pub use Rattle.book_model.specs.declared.dispute.Variant.{Variant}
pub use Rattle.book_model.specs.declared.fault.LedgerFault.{LedgerFault}
pub use Rattle.book_model.specs.declared.fault.LedgerFault.TheVariants.{Full, Memory, NoSuchPeriod}
pub use Rattle.book_model.specs.declared.fault.LedgerFault.TheVariants.{Reopen, Store}
pub use Rattle.book_model.specs.declared.line.Line.{Line}
pub use Rattle.book_model.specs.declared.row.ChargeRow.{ChargeRow}
pub use Rattle.book_model.specs.declared.row.RowKey.{RowKey}
pub use Rattle.book_core.proofs.OpenAnswers.{opens}
pub use Rattle.table_model.proofs.CountedLemmas.{counted_follows}
pub use Rattle.tree_rows.proofs.Calls.{kept_after_look}
pub use Rattle.tree_rows.proofs.Maps.{not_none}
pub use Rattle.tree_rows.proofs.Taking.{some_is}
pub use Rattle.tree_rows.specs.Rows.{IsUnchanged}
pub use Rattle.tree_tables.proofs.Looking.{kept_last, looks_after_look, only_both}
pub use Rattle.tree_tables.proofs.WalkNames.{next_stands}
pub use Rattle.tree_tables.specs.Answers.{FindsRecord, ListsLines, ListsSharing, is_charged}
pub use Rattle.tree_tables.specs.Columns.{record_columns}
pub use Rattle.tree_tables.specs.Holds.{Holds}
pub use Rattle.tree_tables.specs.LateRecords.{is_left}
pub use Rattle.tree_tables.specs.States.{HasCleanDisk, State, Survives, state}
pub use Rattle.tree_tables.specs.Steps.{Always, Does, KeepsLastCommit, Looks}
pub use Rattle.tree_tables.specs.Stored.{IsFree, book_entry, choice_entry, close_entry, signed_name}
pub use Rattle.tree_tables.specs.Stored.{stored_entry, tariff_of}
pub use Rattle.tree_tables.specs.declared.choice_rows.StoredChoice.{StoredChoice}
pub use Rattle.tree_tables.specs.declared.closed_rows.Close.{Close}
pub use Rattle.tree_tables.specs.declared.line_rows.StoredLine.{StoredLine}
pub use Rattle.tree_tables.specs.declared.stored_record.StoredRecord.{StoredRecord}
pub use Rattle.table_ledger.specs.Adoptions.{IsLastOf}
pub use Rattle.table_ledger.specs.Attempts.{Finishes}
pub use Rattle.table_ledger.specs.Commits.{IsAtRest, Saw, Stores}
pub use Rattle.table_ledger.specs.DetailReads.{seeks}
pub use Rattle.table_ledger.specs.DisputeReads.{IsIdentity, IsShownRow}
pub use Rattle.table_ledger.specs.OldForms.{names_of, uncounted}
pub use Rattle.table_ledger.specs.LedgerState.{LedgerState, ledger_state, seen_on, state_on}
pub use Rattle.table_ledger.specs.LineReads.{lines_stored}
pub use Rattle.table_ledger.specs.Loaded.{IsCloseDay, SaysRule, SaysTariff}
pub use Rattle.table_ledger.specs.OtherPrices.{AreRowsOf, AreSumsOf, SumsUp, costs_of}
pub use Rattle.table_ledger.specs.Posting.{names_in}
pub use Rattle.table_ledger.specs.Ready.{IsReadyAt, IsStoredIn, Remembers}
pub use Rattle.table_ledger.specs.ReadyBooks.{LeavesTheLast, book_of_ready}
pub use Rattle.table_ledger.specs.Repricing.{CanBeSummed, CostUnder, TakesTariff}
pub use Rattle.table_ledger.specs.Stages.{AttemptsBy, AttemptsOne, IsAt, IsAtAs, LeavesOne, MakesOf}
pub use Rattle.table_ledger.specs.Stages.{StagesAs, StagesBy, StagesMany}
pub use Rattle.table_ledger.specs.TrailReads.{choice_told}
