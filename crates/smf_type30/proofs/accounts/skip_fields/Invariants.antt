use Rattle.smf_type30.specs.AccountWalk.{LeavesRest}
use Rattle.smf_type30.proofs.accounts.skip_fields.Given as goal

abbrev pub invariant-loop : goal.invariant-loop
invariant-loop l = LeavesRest l.counter l.text l.rest
