use Rattle.std.proofs.Common.{◌≡◌}
use Rattle.book_core.specs.OfficeRulings.{ruled_in}
use Rattle.plain_ledger.specs.Replacements.{brought_of}
use Rattle.plain_ledger.proofs.plain.places.listed_behind.Given as goal

-- none of those that were passed begins on the day
abbrev pub invariant-loop-at : goal.invariant-loop-at
invariant-loop-at l =
    brought_of l.replaced (ruled_in l.rulings).tariffs l.day l.at
    ≡ brought_of l.replaced (ruled_in l.rulings).tariffs l.day l.number
