use Rattle.std.proofs.Common.{refl, subst}
use Rattle.memory_books.specs.Kept.{IsAt}
use Rattle.memory_books.proofs.KeptLemmas.{put_here}
use Rattle.memory_books.proofs.places.visit_kept.Goals as goal

pub returns : goal.returns
returns g c =
    let one = c.index_mut.result.now in
    record {
      visits = (
        one.books,
        c.visit.new.books,
        put_here c.args.kept.now.items c.args.name.now c.in_ok-at.at one
            (record { name = one.name; books = c.visit.new.books })
            (subst (λ kept. IsAt kept c.args.name.now c.in_ok-at.at) c.as_slice.ensures.value
            c.in_ok-at.ensures)
            c.index_mut.ensures.value refl,
        c.visit.ensures.done,
        c.visit.ensures.came,
      );
    }
