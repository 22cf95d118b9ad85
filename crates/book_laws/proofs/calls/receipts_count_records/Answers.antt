use Rattle.book_laws.proofs.ReceiptLemmas.{receipts_count_records}
use Rattle.book_laws.proofs.calls.receipts_count_records.Goals as goal

pub returns : goal.returns
returns c = receipts_count_records
