use Rattle.std.proofs.Common.{◌∙◌, ap, false, option_copied, sym}
use Rattle.std.specs.Option.{option_map_or}
use Rattle.book_model.specs.Words.{is_effective}
use Rattle.book_core.proofs.RulingLemmas.{last_is_under}
use Rattle.table_ledger.proofs.replaced_prices.is_under.Goals as goal

pub returns-in-Some : goal.returns-in-Some
returns-in-Some c =
    c.has_day_of.ensures
    ∙ ap (λ found. option_map_or (is_effective c.args.tariff.now.effective) found false)
    (ap option_copied (sym c.in-Some.is) ∙ c.last_begun.ensures)
    ∙ last_is_under c.args.tariffs.now c.args.tariff.now c.args.stored.now.priced.day c.requires

pub returns-in-None : goal.returns-in-None
returns-in-None c =
    ap (λ found. option_map_or (is_effective c.args.tariff.now.effective) found false)
    (ap option_copied (sym c.in-None.is) ∙ c.last_begun.ensures)
    ∙ last_is_under c.args.tariffs.now c.args.tariff.now c.args.stored.now.priced.day c.requires
