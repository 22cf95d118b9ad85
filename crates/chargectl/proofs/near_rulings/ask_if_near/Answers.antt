use Rattle.chargectl.proofs.NearLemmas.{far_left, near_done}
use Rattle.chargectl.proofs.near_rulings.ask_if_near.Goals as goal

pub returns-then-is_far : goal.returns-then-is_far
returns-then-is_far g c =
    far_left (g.L.Ledger.seen c.args.books.now) c.args.asked.now c.args.is_far c.if-is_far.true

pub returns : goal.returns
returns g c =
    near_done (g.L.Ledger.seen c.args.books.now) (g.L.Ledger.seen c.ask_with.new.books)
    c.args.asked.now c.args.is_far c.ask_with.result c.if-is_far.false c.ask_with.ensures
