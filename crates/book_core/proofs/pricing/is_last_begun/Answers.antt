use Rattle.std.proofs.Common.{◌∙◌, sym, ap, false, option_copied}
use Rattle.std.specs.Option.{option_map_or}
use Rattle.book_model.specs.Words.{is_effective}
use Rattle.book_core.specs.OfficeRulings.{is_last_begun}
use Rattle.book_core.proofs.pricing.is_last_begun.Goals as goal

pub returns-in-Some : goal.returns-in-Some
returns-in-Some c =
    c.has_day_of.ensures
    ∙ ap (λ found. option_map_or (is_effective c.args.other.now.effective) found false)
    (ap option_copied (sym c.in-Some.is) ∙ c.last_begun.ensures)
    ∙ ap (is_last_begun c.args.tariffs.now c.args.other.now) c.moment.ensures.day

pub returns-in-None : goal.returns-in-None
returns-in-None c =
    ap (λ found. option_map_or (is_effective c.args.other.now.effective) found false)
    (ap option_copied (sym c.in-None.is) ∙ c.last_begun.ensures)
    ∙ ap (is_last_begun c.args.tariffs.now c.args.other.now) c.moment.ensures.day
