use Rattle.std.proofs.Common.{rules}
use Rattle.book_audit.specs.Rulings.{IsNextClose}
use Rattle.book_audit.proofs.rulings.next_close.Goals as goal

pub returns : goal.returns
returns c =
    let next : IsNextClose c.args.days.now c.in-Ok.close = search rules in
    record { close = c.in-Ok.close; is = c.in-Ok.ensures.read; next = next; through = search rules }
