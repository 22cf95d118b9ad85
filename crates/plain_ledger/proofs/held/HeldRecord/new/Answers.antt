use Rattle.std.proofs.Common.{◌∙◌, sym, ap}
use Rattle.smf_type30.proofs.IdentityLength.{identity-long}
use Rattle.book_model.specs.Words.{identity_of, identity2_of}
use Rattle.book_core.proofs.IdentityInForce.{first_in_second}
use Rattle.plain_ledger.proofs.held.HeldRecord.new.Goals as goal

pub invariant_of-result-clause-first : goal.invariant_of-result-clause-first
invariant_of-result-clause-first c =
    let bytes = c.args.bytes.now in
    first_in_second bytes _ (c.identity2.ensures.value ∙ ap identity2_of c.requires.same)
    (identity-long bytes c.requires.usage.usage)
    ∙ ap identity_of (sym c.in_ok-from_slice.ensures.ok)
