use Rattle.std.proofs.lemmas.Str.Ascii.{trim_ascii_end_is}
use Rattle.program_output.specs.ListedLines.{without_blanks}
use Rattle.program_output.proofs.listed_line.without_blanks.Goals as goal

pub returns : goal.returns
unfolding without_blanks
returns c =
    trim_ascii_end_is c.args.line.now c.trim_ascii_end.result.now c.trim_ascii_end.ensures.value
