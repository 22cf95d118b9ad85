use Rattle.std.proofs.Common.{subst}
use Rattle.std.specs.Prelude.{None, Option}
use Rattle.book_model.specs.Words.{Note, note_given}
use Rattle.book_core.specs.Transition.{IsTransition}
use Rattle.book_import.specs.ImportEntries.{ImportsOf}
use Rattle.book_import.proofs.PiecewiseLemmas.{none_imported}
use Rattle.office.proofs.asking.bytes_noted.Goals as goal

-- there was no memory for the note: nothing was done
pub returns-in_default : goal.returns-in_default
returns-in_default g c =
    none_imported (g.L.Ledger.seen c.args.ledger.now) (note_given c.args.note.now) c.args.layout None
    c.args.bytes.now c.stopped.result c.stopped.ensures

pub returns : goal.returns
returns g c =
    let old = g.L.Ledger.seen c.args.ledger.now in
    let new = g.L.Ledger.seen c.import_bytes.new.ledger in
    subst (λ (said : Option Note). IsTransition old new
    (ImportsOf said old.naming c.args.layout None c.args.bytes.now c.import_bytes.result))
    c.in-Ok.ensures c.import_bytes.ensures.booked
