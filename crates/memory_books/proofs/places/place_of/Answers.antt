use Rattle.std.proofs.Common.{◌∙◌, sym}
use Rattle.std.specs.Cmp.Lexicographic.{bytes_decides}
use Rattle.memory_books.proofs.KeptLemmas.{found_later, place_found}
use Rattle.memory_books.proofs.places.place_of.Goals as goal

-- this one has the name
pub returns-then-eq : goal.returns-then-eq
returns-then-eq g c =
    place_found c.args.kept.now c.args.name.now c.loop-i.i c.index-kept-i.result
    c.loop-i-test.true c.loop-i.invariant c.index-kept-i.is
    (sym c.as_str.ensures.value
    ∙ (bytes_decides c.as_str.result.now c.args.name.now).0 (sym c.eq.ensures ∙ c.if-eq.true))

-- or it does not
pub loop-i-preserved : goal.loop-i-preserved
loop-i-preserved g c =
    found_later c.args.kept.now c.args.name.now c.loop-i.i c.index-kept-i.result
    c.loop-i-test.true c.loop-i.invariant c.index-kept-i.is
    (rw (sym c.as_str.ensures.value) (sym c.eq.ensures ∙ c.if-eq.false))
