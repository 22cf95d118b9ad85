use Rattle.std.proofs.Common.{ap, map, List}
use Rattle.clap.specs.Faults.{is_simple_and_free}
use Rattle.clap.specs.Simple.{is_simple}
use Rattle.report_rows.specs.ReportRows.{row_of}
use Rattle.command_line.specs.declared.known_commands.KnownCommand.{KnownCommand}
use Rattle.command_line.proofs.Shared.{list_all, Shape, command_seen, app_for, distinct, leaf}
use Rattle.command_line.specs.Known.{known_table}
use Rattle.command_line.proofs.command_line.all_commands.Goals as goal

pub returns : goal.returns
unfolding known_table row_of
returns c = record {
  is = ap (map command_seen) c.as_slice.ensures;
  free = λ program highest. ap (λ (table : List KnownCommand).
      is_simple_and_free (app_for program highest table)) c.as_slice.ensures;
  simple = λ program highest. ap (λ (table : List KnownCommand).
      is_simple (app_for program highest table)) c.as_slice.ensures;
  alone = λ program highest. ap (λ (table : List KnownCommand).
      list_all (λ (shape : Shape). distinct shape.rules) (map (leaf program highest) table))
      c.as_slice.ensures;
}
