use Rattle.std.proofs.Common.{refl}
use Rattle.streams.specs.InputOutput.{input}
use Rattle.book_model.specs.Words.{note_given}
use Rattle.book_import.specs.ReadLimits.{cut_of, read_length}
use Rattle.book_import.proofs.PiecewiseLemmas.{no_room}
use Rattle.book_import.proofs.dump_import.import.Goals as goal

pub returns-in_default-clause-booked : goal.returns-in_default-clause-booked
returns-in_default-clause-booked g c =
    no_room (g.L.Ledger.seen c.args.ledger.now) (note_given c.args.note) read_length c.args.layout
    c.args.reads (cut_of c.args.source.now)
    (input g.R.Read.remaining c.args.source.now c.args.source.now) c.stopped.result c.stopped.ensures
    refl refl c.requires.failed c.requires.ended
