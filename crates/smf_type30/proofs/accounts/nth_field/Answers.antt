use Rattle.std.proofs.Common.{refl, sym, arith}
use Rattle.smf_type30.proofs.FieldLemmas.{nth_of-past, nth_of-rest, fields_in-past, fields_in-ends}
use Rattle.smf_type30.proofs.accounts.nth_field.Goals as goal

pub returns-then-count-n : goal.returns-then-count-n
returns-then-count-n c = sym (nth_of-past _ _ _ c.if-count-n.true)

pub returns-in_err-skip_fields : goal.returns-in_err-skip_fields
returns-in_err-skip_fields c =
    let ends = c.in_err-skip_fields.ensures.none refl in
    rw (c.from_residual.ensures, fields_in-ends c.args.n c.args.count _ (omega arith) ends)

pub returns-in_err-field : goal.returns-in_err-field
returns-in_err-field c =
    let leaves = c.in_ok-skip_fields.ensures.some in
    let none = c.in_err-field.ensures.none refl in
    rw (c.from_residual-in_err-field.ensures, fields_in-past _ _ _ _ c.if-count-n.false leaves none)

pub returns : goal.returns
returns c =
    let leaves = c.in_ok-skip_fields.ensures.some in
    sym (nth_of-rest _ _ _ _ _ _ c.if-count-n.false c.requires leaves c.in_ok-field.ensures.some)
