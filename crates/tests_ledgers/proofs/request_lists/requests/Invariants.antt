use Rattle.std.proofs.Common.{All}
use Rattle.office.specs.Runs.{IsAskableWithoutReader}
use Rattle.tests_ledgers.proofs.request_lists.requests.Given as goal

abbrev pub invariant-loop-line : goal.invariant-loop-line
invariant-loop-line l = All IsAskableWithoutReader l.list.items
