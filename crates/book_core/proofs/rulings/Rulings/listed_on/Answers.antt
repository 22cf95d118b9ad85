use Rattle.std.proofs.Common.{◌∙◌, ap, option_and_then, w32}
use Rattle.book_model.proofs.Std.{to_z-of_z}
use Rattle.book_model.specs.Words.{tariff_seen}
use Rattle.book_core.proofs.rulings.Rulings.listed_on.Goals as goal

-- none begins on the day
pub returns-in_default-clause-shown : goal.returns-in_default-clause-shown
returns-in_default-clause-shown c =
    ap (option_and_then tariff_seen)
    (rw (to_z-of_z w32 c.args.day c.ranges.day, c.tariffs.ensures, c.in_default.is)
    at c.begun_on.ensures)

-- one does
pub returns-clause-shown : goal.returns-clause-shown
returns-clause-shown c =
    c.in_ok-found.ensures.listed
    ∙ ap (option_and_then tariff_seen)
    (rw (to_z-of_z w32 c.args.day c.ranges.day, c.tariffs.ensures, c.in-Some.is)
    at c.begun_on.ensures)
