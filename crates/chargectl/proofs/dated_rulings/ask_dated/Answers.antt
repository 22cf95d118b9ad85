use Rattle.std.proofs.Common.{subst, sym}
use Rattle.book_core.specs.Transition.{IsTransition}
use Rattle.office.specs.Requests.{response_by}
use Rattle.chargectl.specs.Commands.{AsksDated}
use Rattle.chargectl.proofs.FarLemmas.{asked_dated, failed_dated}
use Rattle.chargectl.proofs.dated_rulings.ask_dated.Goals as goal

-- the newest day was read, and then the ruling was asked for
pub returns-in-Ok : goal.returns-in-Ok
returns-in-Ok g c =
    let seen = g.L.Ledger.seen in
    let old = c.args.books.now in
    let told = c.ask_with-answer.result in
    subst (λ noticed. IsTransition (seen old) (seen c.ask_with-answer.new.books)
    (AsksDated (seen old).naming c.args.today c.args.asked.now (response_by told) noticed))
    (sym c.notice_by-notice.ensures)
    (asked_dated (seen old) (seen c.is_far_asked.new.books) (seen c.ask_with-answer.new.books)
    c.args.today c.args.asked.now c.in-Ok.is_far told c.in-Ok.ensures c.ask_with-answer.ensures)

pub returns-in-Err : goal.returns-in-Err
returns-in-Err g c =
    failed_dated (g.L.Ledger.seen c.args.books.now) (g.L.Ledger.seen c.is_far_asked.new.books)
    c.args.today c.args.asked.now c.in-Err.fault c.requires c.in-Err.ensures
