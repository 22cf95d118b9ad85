use Rattle.std.proofs.Common.{ap}
use Rattle.streams.specs.InputOutput.{input}
use Rattle.book_import.specs.ReadLimits.{cut_of}
use Rattle.chargectl.proofs.WorkLemmas.{named_of}
use Rattle.chargectl.proofs.withheld_works.read_names.Goals as goal

pub returns : goal.returns
returns g c =
    let remaining = g.R.Read.remaining in
    named_of c.args.layout (remaining c.args.reader) (cut_of c.dump_names.new.source)
    (input remaining c.new-source.result c.dump_names.new.source) c.dump_names.result
    (ap remaining c.new-source.ensures.reader) c.dump_names.ensures.named
