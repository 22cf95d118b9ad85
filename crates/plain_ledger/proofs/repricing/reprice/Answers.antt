use Rattle.std.proofs.Common.{rules}
use Rattle.plain_ledger.specs.Repricing.{price_anew}
use Rattle.plain_ledger.proofs.RepricingLemmas.{retain-reprices}
use Rattle.plain_ledger.proofs.repricing.reprice.Goals as goal

pub returns : goal.returns
returns c =
    retain-reprices _ (price_anew c.args.tariff.now) _
    (λ name old answer new next called. (search rules, search rules)) _ _
    c.retain.ensures.filtered
