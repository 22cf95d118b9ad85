use Rattle.std.proofs.Common.{rules, refl}
use Rattle.book_http.specs.Framing as spec
use Rattle.book_http.proofs.FramingLemmas.{declared_more}
use Rattle.book_http.proofs.framing.declared.Goals as goal

pub loop-field-init : goal.loop-field-init
unfolding spec.declared
loop-field-init c = refl

pub loop-field-preserved : goal.loop-field-preserved
loop-field-preserved c =
    let more = declared_more c.args.bytes.now c.args.fields.now c.loop-field.field-index
    c.loop-field-test.true in
    rw (more, ← c.loop-field.invariant) (search rules)
