use Rattle.std.proofs.Common.{refl}
use Rattle.command_line.proofs.Shared.{found_of, one_text, one_text-rows, rows_in}
use Rattle.command_line.proofs.ReaderLemmas.{ReadsUnsigned, has_rate, read_number}
use Rattle.command_line.proofs.given_words.rate_in.Goals as goal

pub returns : goal.returns
returns c =
    let found = c.args.found.now in
    let name = c.args.name.now in
    let is = one_text-rows (found_of found) name in
    record {
      rate = read_number (ReadsUnsigned 64) 64 (λ t x gives. gives.0) (rows_in found) name
          (one_text (found_of found) name) c.get_one.result is c.get_one.ensures.none
          c.get_one.ensures.value;
      some = has_rate (ReadsUnsigned 64) 64 (λ t x gives. gives.0) (rows_in found) name
          (one_text (found_of found) name) c.get_one.result refl is c.get_one.ensures.value;
    }
