use Rattle.std.proofs.Common.{◌≡◌, ◌∙◌, length, Bool, true, false, sym, ap, refl, None, Some}
use Rattle.std.proofs.Common.{nat_le}
use Rattle.std.proofs.lemmas.List.{length-map}
use Rattle.book_model.specs.declared.answer.Ruled.{Ruled}
use Rattle.book_model.specs.Words.{Book, IsBookCall, after_any, if_done, is_withheld, most_choices}
use Rattle.book_model.specs.Words.{withhold_outcome}
use Rattle.plain_ledger.specs.Choices.{choice_of}
use Rattle.plain_ledger.specs.Plain.{record_of, ruled_beside, rulings_of}
use Rattle.plain_ledger.specs.PlainBook.{book_in, book_with}
use Rattle.plain_ledger.proofs.ChosenLemmas.{at_least, below, none_by, ruled-chosen}
use Rattle.plain_ledger.proofs.ChosenLemmas.{withhold_calls-found, withhold_calls-missing}
use Rattle.book_core.proofs.RulingLemmas.{withheld_by}
use Rattle.plain_ledger.proofs.plain.PlainBooks.withhold_named.Given.{Over}
use Rattle.plain_ledger.proofs.plain.PlainBooks.withhold_named.Goals.{After-is_withheld, After-len}
use Rattle.plain_ledger.proofs.plain.PlainBooks.withhold_named.Goals as goal

pub returns-in_default : goal.returns-in_default
returns-in_default g c =
    let ledger = c.args.self.now in
    record {
      call = withhold_calls-missing ledger.kept ledger.rising ledger.posted ledger.closed.items
          c.args.name (sym c.in_default.ensures.value);
      naming = refl;
    }

-- the test of the choices, on the rulings
withheld_is : (g : Over) (c : After-is_withheld g) → c.is_withheld.result
    ≡ is_withheld (book_in c.args.self.now).rulings (record_of c.in-Some.held.now)
withheld_is g c =
    c.is_withheld.ensures
    ∙ (λ i. is_withheld (rulings_of (c.deref.ensures.value i) (c.adopted-adopted.ensures i))
    (record_of c.in-Some.held.now))

-- the call where a record has the name, by the tests that come
found_call : (g : Over) (c : After-is_withheld g) (new : Book) (withheld full : Bool)
    → c.is_withheld.result ≡ withheld
    → full ≡ nat_le most_choices (length (book_in c.args.self.now).rulings.choices)
    → new ≡ after_any (if_done (withheld_by None (Some (record_of c.in-Some.held.now)))
    (none_by withheld full)) (book_in c.args.self.now)
    → IsBookCall (λ (value : Ruled). value) (book_in c.args.self.now) new (none_by withheld full)
    (withhold_outcome (g.N.Naming.name_of c.args.self.now.naming) None c.args.name)
found_call g c new withheld full is full_is changed =
    let ledger = c.args.self.now in
    withhold_calls-found ledger.kept ledger.rising ledger.posted ledger.closed.items c.args.name
    c.in-Some.held.now new withheld full (sym c.in-Some.ensures.value)
    (sym is ∙ withheld_is g c) full_is changed

-- the number of choices
count_is : (g : Over) (c : After-len g)
    → c.len.result ≡ length (book_in c.args.self.now).rulings.choices
count_is g c =
    c.len.ensures ∙ sym c.deref.ensures.len ∙ ap length c.deref.ensures.value
    ∙ sym (length-map c.args.self.now.choices.items choice_of)

pub returns-then-is_withheld : goal.returns-then-is_withheld
returns-then-is_withheld g c =
    let at = goal.at.returns-then-is_withheld g c in
    record {
      call = found_call g at.After-is_withheld _ true _ c.if-is_withheld.true refl refl;
      naming = refl;
    }

pub returns-then-len-ge-MAX_CHOICES : goal.returns-then-len-ge-MAX_CHOICES
returns-then-len-ge-MAX_CHOICES g c =
    let at = goal.at.returns-then-len-ge-MAX_CHOICES g c in
    record {
      call = found_call g at.After-is_withheld _ false true c.if-is_withheld.false
          (at_least most_choices c.len.result c.if-len-ge-MAX_CHOICES.true
          ∙ ap (nat_le most_choices) (count_is g at.After-len)) refl;
      naming = refl;
    }

pub returns : goal.returns
returns g c =
    let at = goal.at.returns g c in
    let ledger = c.args.self.now in
    record {
      call = found_call g at.After-is_withheld _ false false c.if-is_withheld.false
          (below most_choices c.len.result c.if-len-ge-MAX_CHOICES.false
          ∙ ap (nat_le most_choices) (count_is g at.After-len))
          (ap (λ rulings. book_with rulings ledger.held.entries ledger.posted ledger.closed.items)
          (ruled-chosen (ruled_beside ledger.rulings ledger.replaced.items ledger.credits.items)
          ledger.choices.items c.push.new.self.items c.in_ok-choice.choice false
          (record_of c.in-Some.held.now) c.in_ok-push.ensures.items c.in_ok-choice.ensures.bytes
          c.in_ok-choice.ensures.counts
          (c.in_ok-choice.ensures.period ∙ c.open_number.ensures.number)));
      naming = refl;
    }
