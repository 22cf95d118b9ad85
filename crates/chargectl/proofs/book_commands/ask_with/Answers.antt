use Rattle.std.proofs.Common.{ap}
use Rattle.streams.specs.InputOutput.{input}
use Rattle.book_core.specs.Ledgers.{books}
use Rattle.chargectl.proofs.CommandLemmas.{asked_once}
use Rattle.chargectl.proofs.book_commands.ask_with.Goals as goal

pub returns : goal.returns
returns g c =
    let remaining = g.R.Read.remaining in
    asked_once c.args.asked.now (remaining c.args.input) c.ask.result
    (books g.L.Ledger.seen c.args.books.now c.ask.new.ledger)
    (input remaining c.new-source.result c.ask.new.source)
    (ap remaining c.new-source.ensures.reader) c.ask.ensures
