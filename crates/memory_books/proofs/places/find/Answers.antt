use Rattle.std.proofs.Common.{◌∙◌, sym}
use Rattle.std.specs.Cmp.Lexicographic.{bytes_decides}
use Rattle.memory_books.proofs.KeptLemmas.{found_here, found_later}
use Rattle.memory_books.proofs.places.find.Goals as goal

-- this one has the name
pub returns-then-eq : goal.returns-then-eq
returns-then-eq g c =
    found_here c.args.kept.now c.args.name.now c.loop-one.one-index c.one-item.result
    c.loop-one-test.true c.loop-one.invariant c.one-item.is
    (sym c.as_str.ensures.value
    ∙ (bytes_decides c.as_str.result.now c.args.name.now).0 (sym c.eq.ensures ∙ c.if-eq.true))

-- or it does not
pub loop-one-preserved : goal.loop-one-preserved
loop-one-preserved g c =
    found_later c.args.kept.now c.args.name.now c.loop-one.one-index c.one-item.result
    c.loop-one-test.true c.loop-one.invariant c.one-item.is
    (rw (sym c.as_str.ensures.value) (sym c.eq.ensures ∙ c.if-eq.false))
