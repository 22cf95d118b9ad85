use Rattle.std.proofs.Common.{rules, refl, sym}
use Rattle.book_http.specs.Framing as spec
use Rattle.book_http.proofs.FramingLemmas.{any_at, none_more}
use Rattle.book_http.proofs.framing.has_field.Goals as goal

pub loop-field-init : goal.loop-field-init
unfolding spec.has_field
loop-field-init c = refl

pub returns-then-is_field_named : goal.returns-then-is_field_named
unfolding spec.has_field
returns-then-is_field_named c =
    sym (any_at (λ field. spec.is_field_named c.args.wanted.now field.0) c.args.bytes.now
    c.args.fields.now c.loop-field.field-index c.loop-field-test.true (search rules))

pub loop-field-preserved : goal.loop-field-preserved
unfolding spec.has_field
loop-field-preserved c =
    none_more (λ field. spec.is_field_named c.args.wanted.now field.0) c.args.bytes.now
    c.args.fields.now c.loop-field.field-index c.loop-field-test.true c.loop-field.invariant
    (search rules)
