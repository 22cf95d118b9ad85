use Rattle.std.proofs.Common.{◌≡◌, List, ap, arith, length, refl, reverse, subst, sym}
use Rattle.std.proofs.lemmas.List.{length-reverse}
use Rattle.book_http.specs.declared.served.Served.{Served}
use Rattle.chargectl.specs.ClientRequests.{AsksBehind}
use Rattle.chargectl.proofs.ClientLemmas.{nobody_asked}
use Rattle.chargectl.proofs.client_requests.ask_behind.Goals as goal

-- a client that leads none
pub returns-then-not-leads-clause-behind : goal.returns-then-not-leads-clause-behind
returns-then-not-leads-clause-behind g c =
    subst
    (λ leads. AsksBehind g.L.Ledger.seen leads c.args.books.now c.args.books.now
    (reverse c.new.result.items)) (sym c.if-not-leads.true) (refl, ap reverse c.new.ensures.items)

pub returns-then-not-leads-clause-count : goal.returns-then-not-leads-clause-count
returns-then-not-leads-clause-count g c =
    let none : length (reverse c.new.result.items) ≡ 0 =
    ap (λ (later : List Served). length (reverse later)) c.new.ensures.items in
    omega (arith, none)

pub returns-in-Ok-clause-behind : goal.returns-in-Ok-clause-behind
returns-in-Ok-clause-behind g c =
    subst
    (λ leads. AsksBehind g.L.Ledger.seen leads c.args.books.now c.answer_more.new.books
    (reverse c.in-Ok.later.items)) (sym c.if-not-leads.false) c.in-Ok.ensures.answered

pub returns-in-Ok-clause-count : goal.returns-in-Ok-clause-count
returns-in-Ok-clause-count g c =
    let left = c.in-Ok.ensures.left in
    let long = length-reverse c.in-Ok.later.items in
    omega (arith, left, long)

-- without memory nobody was asked for
pub returns-in-Err-clause-behind : goal.returns-in-Err-clause-behind
returns-in-Err-clause-behind g c =
    subst
    (λ leads. AsksBehind g.L.Ledger.seen leads c.args.books.now c.answer_more.new.books
    (reverse c.new-in-Err.result.items)) (sym c.if-not-leads.false)
    (nobody_asked g.L.Ledger.seen c.args.books.now c.answer_more.new.books c.new-in-Err.result.items
    c.in-Err.ensures.books c.new-in-Err.ensures.items)

pub returns-in-Err-clause-count : goal.returns-in-Err-clause-count
returns-in-Err-clause-count g c =
    let none : length (reverse c.new-in-Err.result.items) ≡ 0 =
    ap (λ (later : List Served). length (reverse later)) c.new-in-Err.ensures.items in
    let kept = ap g.C.Arrivals.left c.in-Err.ensures.none in
    omega (arith, none, kept)
