use Rattle.std.proofs.Common.{take}
use Rattle.command_line.specs.Shapes.{AreCommandsOf}
use Rattle.command_line.proofs.command_line.commands_of.Given as goal

abbrev pub invariant-loop-known : goal.invariant-loop-known
invariant-loop-known l = AreCommandsOf l.highest (take l.known-index l.table) l.commands.items
