use Rattle.std.proofs.Common.{arith}
use Rattle.clap.specs.Matches.{found_of}
use Rattle.command_line.proofs.ReaderLemmas.{number_found}
use Rattle.command_line.proofs.given_words.number_in.Goals as goal

pub returns : goal.returns
returns c =
    let read = number_found 16 65535 (found_of c.args.found.now) c.args.name.now c.get_one.result
    c.get_one.ensures.none c.get_one.ensures.value (omega arith) in
    record { number = read.0; some = read.1 }
