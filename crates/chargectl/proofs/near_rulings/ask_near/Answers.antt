use Rattle.chargectl.proofs.NearLemmas.{near_asked, near_failed}
use Rattle.chargectl.proofs.near_rulings.ask_near.Goals as goal

-- the newest day was read, and then the ruling was asked for, or not
pub returns-in-Ok : goal.returns-in-Ok
returns-in-Ok g c =
    let seen = g.L.Ledger.seen in
    near_asked (seen c.args.books.now) (seen c.is_far_asked.new.books) (seen c.ask_if_near.new.books)
    c.args.today c.args.asked.now c.in-Ok.is_far c.ask_if_near.result c.in-Ok.ensures
    c.ask_if_near.ensures

pub returns-in-Err : goal.returns-in-Err
returns-in-Err g c =
    near_failed (g.L.Ledger.seen c.args.books.now) (g.L.Ledger.seen c.is_far_asked.new.books)
    c.args.today c.args.asked.now c.in-Err.fault c.requires c.in-Err.ensures
