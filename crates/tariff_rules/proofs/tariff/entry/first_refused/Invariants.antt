use Rattle.std.proofs.Common.{◌≡◌, map}
use Rattle.toml.specs.View.{view}
use Rattle.tariff_rules.specs.Entry.{first_refused}
use Rattle.tariff_rules.proofs.RefusedLemmas.{refused_from}
use Rattle.tariff_rules.proofs.tariff.entry.first_refused.Given as goal

-- no entry so far is refused: the first among all is the first among those ahead
abbrev pub invariant-loop-before : goal.invariant-loop-before
invariant-loop-before g l =
    first_refused g.R.Rule.rule_in (map view l.entries)
    ≡ refused_from g.R.Rule.rule_in l.entries l.before
