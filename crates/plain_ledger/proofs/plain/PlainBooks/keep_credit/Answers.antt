use Rattle.std.proofs.Common.{◌∙◌, ◌++◌, [], ◌∷◌, List, ap, arith, map, refl, w64}
use Rattle.std.proofs.lemmas.List.{length-map}
use Rattle.book_model.proofs.Std.{map-append, to_z-of_z}
use Rattle.book_model.specs.Words.{Credit, credit_shown}
use Rattle.plain_ledger.specs.Plain.{credit_with}
use Rattle.plain_ledger.specs.PlainBook.{book_in, book_with}
use Rattle.plain_ledger.proofs.BookLemmas.{kept_ruled}
use Rattle.plain_ledger.proofs.plain.PlainBooks.keep_credit.Goals as goal

pub returns-clause-book : goal.returns-clause-book
returns-clause-book g c =
    let ledger = c.args.self.now in
    let rulings = (book_in ledger).rulings in
    let credits = ledger.credits.items in
    let one = c.in_ok-credit.ensures
    ∙ (λ i. credit_with (c.open_number-period.ensures.number i) c.args.centre
    (to_z-of_z w64 c.args.amount c.ranges.amount i) c.args.reason.now) in
    ap (λ (all : List Credit). book_with (record rulings { credits = all }) ledger.held.entries
    ledger.posted ledger.closed.items)
    (ap (map credit_shown) c.in_ok-push.ensures.items
    ∙ map-append credit_shown credits (c.in_ok-credit.credit ∷ [])
    ∙ ap (λ last. map credit_shown credits ++ last ∷ []) one)

-- one more of them at most
pub invariant_of-self : goal.invariant_of-self
invariant_of-self g c =
    let ledger = c.args.self.now in
    let long = length-map ledger.credits.items credit_shown in
    let room = c.requires.room in
    let before = ledger.credits.ok.0 in
    let after = c.push.new.self.ok.0 in
    let more = c.push.ensures.upper_bound in
    record {
      rising = ledger.rising;
      kept = kept_ruled _ refl ledger.kept;
      recalls = ledger.recalls;
      named = ledger.named;
      few = ledger.few;
      few_replaced = ledger.few_replaced;
      few_credits = omega (arith, long, room, before, after, more);
      counted = ledger.counted;
    }
