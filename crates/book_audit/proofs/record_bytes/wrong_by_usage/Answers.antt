use Rattle.std.proofs.Common.{◌≡◌, rules, subst}
use Rattle.tariff_rules.specs.Price.{IsPriced}
use Rattle.book_audit.proofs.record_bytes.wrong_by_usage.Goals as goal

-- the price is that of the tariff
pub returns-clause-priced : goal.returns-clause-priced
returns-clause-priced c none =
    let same : c.price.result ≡ c.args.stored.now.priced = search rules in
    subst IsPriced same c.price.ensures.bounds
