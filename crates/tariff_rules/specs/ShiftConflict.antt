-- Shift rules that do not agree on what a shift charges.
use Rattle.std.specs.Prelude.{◌==◌, ◌&&◌, ◌||◌, not, Bool, bytes_eq, List}
use Rattle.std.specs.List.{list_any}
use Rattle.tariff_rules.specs.Price.{base_shift}
use Rattle.tariff_rules.specs.Terms.{ShiftRule}
use Rattle.tariff_rules.specs.declared.shift.Shift.{Shift}

-- one name, and two percents
abbrev pub disagrees_with : Shift → Shift → Bool
disagrees_with shift other = bytes_eq shift.name other.name && not (shift.percent == other.percent)

-- with BASE, or with the shift of some rule
abbrev pub conflicts_with : List ShiftRule → Shift → Bool
conflicts_with rules shift =
    disagrees_with shift base_shift
    || list_any (λ rule. disagrees_with shift rule.shift) rules

abbrev pub has_conflict : List ShiftRule → Bool
has_conflict rules = list_any (λ rule. conflicts_with rules rule.shift) rules
