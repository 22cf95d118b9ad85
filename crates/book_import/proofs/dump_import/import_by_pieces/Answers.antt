use Rattle.streams.specs.InputOutput.{input}
use Rattle.book_import.specs.ReadLimits.{cut_of, piece_length}
use Rattle.book_import.proofs.PiecewiseLemmas.{input_without_note}
use Rattle.book_import.proofs.dump_import.import_by_pieces.Goals as goal

pub returns-clause-booked : goal.returns-clause-booked
returns-clause-booked g c =
    input_without_note piece_length c.args.layout c.args.reads (g.L.Ledger.seen c.args.ledger.now)
    (g.L.Ledger.seen c.import_with.new.ledger) (cut_of c.import_with.new.source)
    (input g.R.Read.remaining c.args.source.now c.import_with.new.source) c.import_with.result
    c.import_with.ensures.booked
