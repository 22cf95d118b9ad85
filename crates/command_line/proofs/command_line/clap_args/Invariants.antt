use Rattle.std.proofs.Common.{take}
use Rattle.command_line.specs.Shapes.{AreFor}
use Rattle.command_line.proofs.command_line.clap_args.Given as goal

abbrev pub invariant-loop-word : goal.invariant-loop-word
invariant-loop-word l = AreFor l.highest (take l.word-index l.words) l.args.items
