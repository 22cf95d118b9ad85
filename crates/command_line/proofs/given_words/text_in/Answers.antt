use Rattle.std.proofs.Common.{◌∙◌}
use Rattle.clap.proofs.WalkLemmas.{first_value-rows}
use Rattle.command_line.proofs.Shared.{found_of, rows_in}
use Rattle.command_line.proofs.ReaderLemmas.{has_text, none_read, read_text}
use Rattle.command_line.proofs.given_words.text_in.Goals as goal

pub returns : goal.returns
returns c =
    let found = c.args.found.now in
    let is = c.get_str.ensures ∙ first_value-rows (found_of found) c.args.name.now in
    record {
      text = read_text (rows_in found) c.args.name.now c.get_str.result is;
      some = has_text (rows_in found) c.args.name.now c.get_str.result is;
      left_out = none_read (rows_in found) c.args.name.now c.get_str.result is;
    }
