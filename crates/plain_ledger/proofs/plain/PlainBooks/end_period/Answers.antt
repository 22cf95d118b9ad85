use Rattle.std.proofs.Common.{◌≡◌, ◌∙◌, ◌+◌, [], ◌∷◌, Some, length, sym, subst, ap, length-append}
use Rattle.book_model.specs.Words.{Rulings, with_close}
use Rattle.plain_ledger.specs.Plain.{ruled_by}
use Rattle.plain_ledger.specs.PlainBook.{book_in}
use Rattle.plain_ledger.specs.Treatments.{IsPeriodEnd, charges, has_name_in, treatment_at}
use Rattle.plain_ledger.proofs.BookLemmas.{book-closed, kept_ruled}
use Rattle.book_model.proofs.DayLemmas.{day_kept}
use Rattle.plain_ledger.proofs.NameLemmas.{named-closed}
use Rattle.plain_ledger.proofs.plain.PlainBooks.end_period.Given.{Over}
use Rattle.plain_ledger.proofs.plain.PlainBooks.end_period.Goals.{After-put_close}
use Rattle.plain_ledger.proofs.plain.PlainBooks.end_period.Goals as goal

-- the rulings then
ruled : (g : Over) (c : After-put_close g)
    → ruled_by c.put_close.new.self c.args.self.now.choices.items c.args.self.now.replaced.items
    c.args.self.now.credits.items
    ≡ with_close c.args.through (book_in c.args.self.now).rulings
ruled g c =
    let book = book_in c.args.self.now in
    let all : Rulings → Rulings = λ own. record book.rulings {
      tariffs = own.tariffs;
      closes = own.closes;
      adopted = own.adopted;
    } in
    ap all c.put_close.ensures
    ∙ (λ i. all (with_close (day_kept c.args.through c.requires.day i)
    (c.reserve_close.ensures.same i)))

pub returns-clause-book : goal.returns-clause-book
returns-clause-book g c =
    let ledger = c.args.self.now in
    let through = c.args.through in
    book-closed ledger.kept ledger.rising ledger.posted ledger.closed.items
    c.in_ok-period_end.period_end _ c.in_ok-posted.posted _ c.push.new.self.items through
    (ruled g (goal.at.returns-clause-book g c).After-put_close) c.in_ok-push.ensures.items
    (subst (λ day. IsPeriodEnd ledger.held.entries (book_in ledger).rulings (Some day)
    c.in_ok-period_end.period_end) (day_kept through c.requires.day) c.in_ok-period_end.ensures)
    c.in_ok-posted.ensures c.in_ok-treatments.ensures

pub invariant_of-self-2 : goal.invariant_of-self-2
invariant_of-self-2 g c =
    let ledger = c.args.self.now in
    let closed = ledger.closed.items in
    let pushed = c.in_ok-push.ensures.items in
    let period_end = c.in_ok-period_end.period_end in
    let rulings = ruled g (goal.at.invariant_of-self-2 g c).After-put_close in
    record {
      rising = ledger.rising;
      kept = kept_ruled _ (ap (λ (rulings : Rulings). rulings.tariffs) rulings) ledger.kept;
      recalls = ledger.recalls;
      named = named-closed (λ entry. charges period_end entry.1)
          (λ entry. treatment_at period_end (has_name_in ledger.posted entry) entry.1) ledger.held.entries
          ledger.posted c.in_ok-posted.posted closed _ c.push.new.self.items
          pushed ledger.named c.in_ok-posted.ensures c.in_ok-treatments.ensures;
      few = ledger.few;
      few_replaced = ledger.few_replaced;
      few_credits = ledger.few_credits;
      counted = ap length pushed ∙ length-append closed _
          ∙ ap (λ n. n + 1) ledger.counted
          ∙ sym (length-append (book_in ledger).rulings.closes (c.args.through ∷ []))
          ∙ ap (λ (rulings : Rulings). length rulings.closes) (sym rulings);
    }
