use Rattle.std.proofs.Common.{◌≡◌, ◌∙◌, arith}
use Rattle.smf_type30.specs.Usage.{identity_of}
use Rattle.smf_type30.proofs.IdentityLemmas.{five_parts}
use Rattle.smf_type30.proofs.usage.Type30.identity.Goals as goal

pub returns : goal.returns
unfolding identity_of
returns c =
    let system = c.self.invariant.system_is in
    let job = c.job.ensures.value in
    let reader = c.identified.ensures.value in
    let subtype = c.part.ensures.value in
    let step = c.step.ensures.value in
    let value : c.put-5.new.buffer ≡ identity_of c.args.self.now =
    five_parts _ _ _ _ _ _ _ _ _ _ (omega arith)
    c.put.ensures c.put-2.ensures c.put-3.ensures c.put-4.ensures c.put-5.ensures
    ∙ rw (system, job, reader, subtype, c.self.view_is, step) in
    record { value = value; len = rw (← value) (omega arith) }
