use Rattle.std.proofs.Common.{◌≡◌, map}
use Rattle.toml.specs.View.{view}
use Rattle.tariff_rules.specs.Document.{read_each}
use Rattle.tariff_rules.proofs.ReadEachLemmas.{behind, from_entry}
use Rattle.tariff_rules.proofs.rules.read_each.Given as goal

-- what was found, and what the entries ahead say, is what all say
abbrev pub invariant-loop-entry : goal.invariant-loop-entry
invariant-loop-entry g l =
    read_each g.R.Rule.rule_in (map view l.entries)
    ≡ behind l.rules.items (from_entry g.R.Rule.rule_in l.entries l.entry-index)
