use Rattle.std.proofs.Common.{rules}
use Rattle.plain_ledger.specs.Repricing.{price_replaced}
use Rattle.plain_ledger.proofs.RepricingLemmas.{retain-reprices}
use Rattle.plain_ledger.proofs.repricing.replace_prices.Goals as goal

pub returns : goal.returns
returns c =
    retain-reprices _ (price_replaced c.args.tariffs.now c.args.tariff.now) _
    (λ name old answer new next called. (search rules, search rules)) _ _
    c.retain.ensures.filtered
