use Rattle.std.proofs.Common.{rules}
use Rattle.without_books.proofs.FirstByteLemmas.{more_taken}
use Rattle.without_books.proofs.first_bytes.fill.Goals as goal

pub room-preserved : goal.room-preserved
room-preserved g c =
    let so_far = c.room.invariant in
    record {
      within = search (rules, c.in-Ok.ensures.bound);
      size = search rules;
      taken = more_taken _ _ _ c.room.room c.read.new.buf c.room.count c.in-Ok.came so_far.within
          c.in-Ok.ensures.bound.0 so_far.taken c.in-Ok.ensures.bytes.0;
    }
