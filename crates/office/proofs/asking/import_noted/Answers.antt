use Rattle.std.proofs.Common.{◌∙◌, arith, refl, sym, subst, true≢false}
use Rattle.std.specs.Prelude.{Option}
use Rattle.streams.specs.InputOutput.{input}
use Rattle.book_model.specs.Words.{Note, note_given}
use Rattle.book_import.specs.ImportEntries.{BooksInputOf}
use Rattle.book_import.specs.ReadLimits.{cut_of, most_reads, read_length}
use Rattle.book_import.proofs.PiecewiseLemmas.{no_room}
use Rattle.office.proofs.asking.import_noted.Goals as goal

-- there was no memory for the note: nothing was read
pub returns-in_default : goal.returns-in_default
returns-in_default g c =
    let source = c.args.source.now in
    let booked = no_room (g.L.Ledger.seen c.args.ledger.now) (note_given c.args.note.now) read_length
    c.args.layout most_reads (cut_of source) (input g.R.Read.remaining source source)
    c.stopped.result c.stopped.ensures refl refl c.requires.failed c.requires.ended in
    record {
      dump = record { layout = c.args.layout; cut = cut_of source; bytes = booked.0 };
      given = record {
        form = refl;
        cut = refl;
        read = booked.1;
        at_end = λ ended. absurd (true≢false (sym ended ∙ c.requires.ended));
        reads = omega arith;
      };
      work = booked.2;
    }

pub returns : goal.returns
returns g c =
    let old = g.L.Ledger.seen c.args.ledger.now in
    let new = g.L.Ledger.seen c.import.new.ledger in
    let source = c.import.new.source in
    let booked = subst (λ (said : Option Note). BooksInputOf said read_length c.args.layout most_reads
    old new (cut_of source) (input g.R.Read.remaining c.args.source.now source) c.import.result)
    c.in-Ok.ensures c.import.ensures.booked in
    record {
      dump = record { layout = c.args.layout; cut = cut_of source; bytes = booked.0 };
      given = record {
        form = refl;
        cut = refl;
        read = booked.1;
        at_end = c.import.ensures.left;
        reads = c.import.ensures.asked;
      };
      work = booked.2;
    }
