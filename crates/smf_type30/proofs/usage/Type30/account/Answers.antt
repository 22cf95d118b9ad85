use Rattle.smf_type30.proofs.AccountLemmas.{is_account}
use Rattle.smf_type30.proofs.UsageFacts.{usage_accounts}
use Rattle.smf_type30.proofs.usage.Type30.account.Goals as goal

pub returns-clause-field : goal.returns-clause-field
returns-clause-field c =
    let there = usage_accounts _ c.self.invariant.usage in
    rw (← c.self.view_is, c.account.ensures) (is_account _ _ there)
