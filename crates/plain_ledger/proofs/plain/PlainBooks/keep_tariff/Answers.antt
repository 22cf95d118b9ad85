use Rattle.std.proofs.Common.{◌≡◌, ◌∙◌, sym, ap, subst, Some, length}
use Rattle.book_model.proofs.Std.{IsStrictlySortedBy}
use Rattle.book_model.specs.Words.{Rulings, by_bytes, has, with_tariff}
use Rattle.book_core.specs.Words.{ruled_in}
use Rattle.plain_ledger.specs.Plain.{AreBooked, ruled_by, AllPass}
use Rattle.plain_ledger.specs.PlainBook.{book_in, book_with}
use Rattle.plain_ledger.specs.Repricing.{price_anew}
use Rattle.plain_ledger.proofs.RepricingLemmas.{book_stays, held_stay, names_stay, still_named-anew}
use Rattle.book_model.proofs.Lemmas.{later-before, rising-behind, tariff_passes}
use Rattle.plain_ledger.proofs.TariffLemmas.{each_anew, fits_anew, kept_anew}
use Rattle.plain_ledger.proofs.plain.PlainBooks.keep_tariff.Given.{Over}
use Rattle.plain_ledger.proofs.plain.PlainBooks.keep_tariff.Goals.{After-put_tariff}
use Rattle.plain_ledger.proofs.plain.PlainBooks.keep_tariff.Goals as goal

-- the rulings then
ruled : (g : Over) (c : After-put_tariff g)
    → ruled_by c.put_tariff.new.self c.args.self.now.choices.items c.args.self.now.replaced.items
    c.args.self.now.credits.items
    ≡ with_tariff (Some c.args.text.now) c.args.tariff (book_in c.args.self.now).rulings
ruled g c =
    let book = book_in c.args.self.now in
    let all : Rulings → Rulings = λ own. record book.rulings {
      tariffs = own.tariffs;
      closes = own.closes;
      adopted = own.adopted;
    } in
    let terms = c.args.tariff in
    ap all c.put_tariff.ensures
    ∙ (λ i. all (with_tariff (Some (c.in_ok-text.ensures.ok i)) terms
    (c.reserve_tariff.ensures.same i)))

pub returns-clause-book : goal.returns-clause-book
returns-clause-book g c =
    let ledger = c.args.self.now in
    let closed = ledger.closed.items in
    book_stays c.reprice.ensures
    (ruled_by c.put_tariff.new.self ledger.choices.items ledger.replaced.items ledger.credits.items)
    ledger.posted closed
    ∙ ap (λ rulings. book_with rulings ledger.held.entries ledger.posted closed)
    (ruled g (goal.at.returns-clause-book g c).After-put_tariff)

pub invariant_of-self-2 : goal.invariant_of-self-2
invariant_of-self-2 g c =
    let ledger = c.args.self.now in
    let names = g.N.Naming.name_of ledger.naming in
    let terms = c.args.tariff in
    let after = with_tariff (Some c.args.text.now) terms (book_in ledger).rulings in
    let taken = tariff_passes (book_in ledger) c.args.text.now terms c.requires.done in
    let later = later-before terms.effective (book_in ledger).rulings taken.later in
    let each = each_anew ledger.kept (Some c.args.text.now) terms later in
    let small = fits_anew ledger.kept after (price_anew terms) each ledger.rising taken.fits in
    let in_order = rising-behind (book_in ledger).rulings.tariffs
    (record { text = Some c.args.text.now; terms = terms }) ledger.kept.in_order later in
    let anew = c.reprice.new.held.entries in
    let rulings = sym (ruled g (goal.at.invariant_of-self-2 g c).After-put_tariff) in
    record {
      rising = subst (IsStrictlySortedBy by_bytes) (sym (names_stay c.reprice.ensures))
          ledger.rising;
      kept = subst (λ rulings. AreBooked names rulings anew c.args.total) rulings
          (subst (AreBooked names _ anew) (sym c.requires.total)
          (kept_anew ledger.kept after (price_anew terms) each in_order anew c.reprice.ensures
          small));
      recalls = subst (λ held. AllPass (has held) ledger.cache)
          (sym (held_stay c.reprice.ensures)) ledger.recalls;
      named = still_named-anew c.reprice.ensures ledger.posted ledger.closed.items ledger.named;
      few = ledger.few;
      few_replaced = ledger.few_replaced;
      few_credits = ledger.few_credits;
      counted = ledger.counted ∙ ap (λ (rulings : Rulings). length rulings.closes) rulings;
    }
