use Rattle.std.proofs.Common.{◌≡◌, ◌∙◌, ◌+◌, List, [], ◌∷◌, ◌++◌, length, reverse, ap, arith, rules}
use Rattle.std.proofs.Common.{length-append, subst, sym}
use Rattle.std.proofs.lemmas.List.{reverse-append}
use Rattle.book_core.specs.Transition.{IsTransition}
use Rattle.book_http.specs.declared.served.Served.{Served}
use Rattle.request_bursts.specs.Bursts.{AnswersMore}
use Rattle.request_bursts.proofs.BurstLemmas.{more_looked, more_more, more_none}
use Rattle.request_bursts.proofs.arrivals.answer_more.Goals as goal

pub loop-init : goal.loop-init
loop-init g c =
    let seen = g.L.Ledger.seen c.args.books.now in
    let left = g.A.Arrivals.left c.args.arrivals.now in
    let none = sym c.in_ok-later.ensures.items in
    record {
      answered = subst (λ (items : List Served). IsTransition seen seen
          (AnswersMore seen.naming (reverse items))) none (more_none seen);
      left = subst (λ (items : List Served). left + length items ≡ left) none (omega arith);
      count = search rules;
      room = search rules;
    }

-- one more was answered
pub loop-preserved : goal.loop-preserved
loop-preserved g c =
    let seen = g.L.Ledger.seen in
    let items = c.loop.later.items in
    let what = c.in-Some.what in
    let before = c.loop.invariant in
    let pushed = c.in_ok-push-in-Some.ensures.items in
    let turned : reverse c.push.new.self.items ≡ what ∷ reverse items =
    ap reverse pushed ∙ reverse-append items (what ∷ []) in
    let longer : length c.push.new.self.items ≡ length items + 1 =
    ap length pushed ∙ length-append items (what ∷ []) in
    record {
      answered = subst (λ (told : List Served). IsTransition (seen c.args.books.now)
          (seen c.next_open.new.books) (AnswersMore (seen c.args.books.now).naming told)) (sym turned)
          (more_more (seen c.args.books.now) (seen c.loop.books) (seen c.next_open.new.books)
          (reverse items) what before.answered c.in-Some.ensures.answered);
      left = omega (arith, c.in-Some.ensures.left, before.left, longer);
      count = search rules;
      room = search rules;
    }

pub returns-in-None-clause-answered : goal.returns-in-None-clause-answered
returns-in-None-clause-answered g c =
    let seen = g.L.Ledger.seen in
    more_looked (seen c.args.books.now) (seen c.loop.books) (seen c.next_open.new.books)
    (reverse c.loop.later.items) c.loop.invariant.answered c.in-None.ensures.answered

pub returns-in-None-clause-left : goal.returns-in-None-clause-left
returns-in-None-clause-left g c = omega (arith, c.in-None.ensures.left, c.loop.invariant.left)
