use Rattle.std.proofs.Common.{rules, refl, sym}
use Rattle.book_http.specs.Hosts as spec
use Rattle.book_http.proofs.FramingLemmas.{any_at, none_more}
use Rattle.book_http.proofs.host.is_foreign.Goals as goal

pub loop-field-init : goal.loop-field-init
unfolding spec.has_foreign_field
loop-field-init c = refl

pub returns-then-is_foreign_field : goal.returns-then-is_foreign_field
unfolding spec.has_foreign_field
returns-then-is_foreign_field c =
    sym (any_at spec.is_foreign_field c.args.bytes.now c.args.fields.now c.loop-field.field-index
    c.loop-field-test.true (search rules))

pub loop-field-preserved : goal.loop-field-preserved
unfolding spec.has_foreign_field
loop-field-preserved c =
    none_more spec.is_foreign_field c.args.bytes.now c.args.fields.now c.loop-field.field-index
    c.loop-field-test.true c.loop-field.invariant (search rules)
