use Rattle.std.proofs.Common.{◌≡◌, [], take}
use Rattle.plain_ledger.specs.Journals.{said_from}
use Rattle.plain_ledger.specs.MadeEntries.{entries_made}
use Rattle.plain_ledger.proofs.made_entries.make_entries.Given as goal

-- the entries of what was said so far
abbrev pub invariant-loop-one : goal.invariant-loop-one
invariant-loop-one l = entries_made l.made.items ≡ said_from [] (take l.one-index l.said)
