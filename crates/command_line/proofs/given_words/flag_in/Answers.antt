use Rattle.command_line.proofs.Shared.{found_of, one_text, one_text-rows, rows_in}
use Rattle.command_line.proofs.ReaderLemmas.{has_flag, read_flag}
use Rattle.command_line.proofs.given_words.flag_in.Goals as goal

pub returns : goal.returns
returns c =
    let found = c.args.found.now in
    let name = c.args.name.now in
    let is = one_text-rows (found_of found) name in
    record {
      flag = read_flag _ (rows_in found) name (one_text (found_of found) name) c.get_one.result is
          c.get_one.ensures.none c.get_one.ensures.value;
      some = has_flag _ (rows_in found) name (one_text (found_of found) name) c.get_one.result is
          c.get_one.ensures.value;
    }
