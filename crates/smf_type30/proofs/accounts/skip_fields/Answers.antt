use Rattle.std.proofs.Common.{◌≡◌, refl, sym, arith}
use Rattle.smf_type30.proofs.FieldLemmas.{fields_in-past, is_some-fields_in, leaves_more}
use Rattle.smf_type30.proofs.accounts.skip_fields.Goals as goal

pub returns-in_err-after-clause-inside : goal.returns-in_err-after-clause-inside
returns-in_err-after-clause-inside c =
    let none = c.in_err-after.ensures.none refl in
    rw (c.from_residual.ensures, fields_in-past _ _ _ _ c.loop-test.true c.loop.invariant none)

pub returns-in_err-after-clause-none : goal.returns-in_err-after-clause-none
returns-in_err-after-clause-none c =
    let none = c.in_err-after.ensures.none refl in
    λ _ more. fields_in-past _ _ _ _ (omega arith) c.loop.invariant none

pub loop-preserved : goal.loop-preserved
loop-preserved c = leaves_more _ _ _ _ _ c.loop.invariant c.in_ok-after.ensures.some

pub returns-clause-inside : goal.returns-clause-inside
returns-clause-inside c =
    let e : c.args.count ≡ c.loop.counter = omega arith in
    rw e (sym (is_some-fields_in _ _ _ c.loop.invariant))
