use Rattle.std.proofs.Common.{◌≡◌, ◌∙◌, [], length, Bool, true, false, sym, ap, refl, Some, nat_le}
use Rattle.std.proofs.Common.{None, not, ◌&&◌}
use Rattle.std.proofs.lemmas.List.{length-map}
use Rattle.book_model.specs.declared.answer.Ruled.{Ruled}
use Rattle.book_model.specs.Words.{Book, IsBookCall, after_any, choose_outcome, if_done, is_chosen}
use Rattle.book_model.specs.Words.{is_withheld, most_choices, was_withheld}
use Rattle.plain_ledger.specs.Choices.{choice_of}
use Rattle.plain_ledger.specs.Plain.{is_alone, record_of, ruled_beside, rulings_of}
use Rattle.plain_ledger.specs.PlainBook.{book_in, book_with}
use Rattle.plain_ledger.proofs.ChosenLemmas.{at_least, below, chosen_by, ruled-chosen}
use Rattle.plain_ledger.proofs.ChosenLemmas.{choose_calls-found, choose_calls-missing}
use Rattle.book_core.proofs.RulingLemmas.{meant_by}
use Rattle.plain_ledger.proofs.plain.PlainBooks.choose_named.Given.{Over}
use Rattle.plain_ledger.proofs.plain.PlainBooks.choose_named.Goals.{After-is_current}
use Rattle.plain_ledger.proofs.plain.PlainBooks.choose_named.Goals.{After-is_unopposed, After-len}
use Rattle.plain_ledger.proofs.plain.PlainBooks.choose_named.Goals as goal

pub returns-in_default : goal.returns-in_default
returns-in_default g c =
    let ledger = c.args.self.now in
    record {
      call = choose_calls-missing ledger.kept ledger.rising ledger.posted ledger.closed.items
          c.args.name (sym c.in_default.ensures.value);
      naming = refl;
    }

-- the test that there is nothing to choose, on the entries and the rulings
unopposed_is : (g : Over) (c : After-is_unopposed g) → c.is_unopposed.result
    ≡ (is_alone (book_in c.args.self.now).rulings c.args.self.now.held.entries
    (c.args.name, c.in-Some.held.now)
    && not (was_withheld (book_in c.args.self.now).rulings (record_of c.in-Some.held.now)))
unopposed_is g c =
    c.is_unopposed.ensures
    ∙ (λ i. is_alone (rulings_of [] (c.adopted-adopted.ensures i)) c.args.self.now.held.entries
    (c.args.name, c.in-Some.held.now)
    && not (was_withheld (rulings_of (c.deref.ensures.value i) (c.adopted-adopted.ensures i))
    (record_of c.in-Some.held.now)))

-- the call where a record has the name, by the tests that come
found_call : (g : Over) (c : After-is_unopposed g) (new : Book) (alone chosen full : Bool)
    → c.is_unopposed.result ≡ alone
    → chosen ≡ (is_chosen (book_in c.args.self.now).rulings (record_of c.in-Some.held.now)
    && not (is_withheld (book_in c.args.self.now).rulings (record_of c.in-Some.held.now)))
    → full ≡ nat_le most_choices (length (book_in c.args.self.now).rulings.choices)
    → new ≡ after_any (if_done (meant_by None (Some (record_of c.in-Some.held.now)))
    (chosen_by alone chosen full)) (book_in c.args.self.now)
    → IsBookCall (λ (value : Ruled). value) (book_in c.args.self.now) new
    (chosen_by alone chosen full)
    (choose_outcome (g.N.Naming.name_of c.args.self.now.naming) None c.args.name)
found_call g c new alone chosen full is_alone' is_chosen' is_full changed =
    let ledger = c.args.self.now in
    choose_calls-found ledger.kept ledger.rising ledger.posted ledger.closed.items c.args.name
    c.in-Some.held.now new alone chosen full (sym c.in-Some.ensures.value)
    (sym is_alone' ∙ unopposed_is g c) is_chosen' is_full changed

-- the test of the choice, on the rulings
current_is : (g : Over) (c : After-is_current g) → c.is_current.result
    ≡ (is_chosen (book_in c.args.self.now).rulings (record_of c.in-Some.held.now)
    && not (is_withheld (book_in c.args.self.now).rulings (record_of c.in-Some.held.now)))
current_is g c =
    c.is_current.ensures
    ∙ (λ i. is_chosen (rulings_of (c.deref-2.ensures.value i) (c.adopted-adopted.ensures i))
    (record_of c.in-Some.held.now)
    && not (is_withheld (rulings_of (c.deref-2.ensures.value i) (c.adopted-adopted.ensures i))
    (record_of c.in-Some.held.now)))

-- the number of choices
count_is : (g : Over) (c : After-len g)
    → c.len.result ≡ length (book_in c.args.self.now).rulings.choices
count_is g c =
    c.len.ensures ∙ sym c.deref.ensures.len ∙ ap length c.deref.ensures.value
    ∙ sym (length-map c.args.self.now.choices.items choice_of)

pub returns-then-is_unopposed : goal.returns-then-is_unopposed
returns-then-is_unopposed g c =
    let at = goal.at.returns-then-is_unopposed g c in
    record {
      call = found_call g at.After-is_unopposed _ true _ _ c.if-is_unopposed.true refl refl refl;
      naming = refl;
    }

pub returns-then-is_current : goal.returns-then-is_current
returns-then-is_current g c =
    let at = goal.at.returns-then-is_current g c in
    record {
      call = found_call g at.After-is_unopposed _ false true _ c.if-is_unopposed.false
          (sym c.if-is_current.true ∙ current_is g at.After-is_current) refl refl;
      naming = refl;
    }

pub returns-then-len-ge-MAX_CHOICES : goal.returns-then-len-ge-MAX_CHOICES
returns-then-len-ge-MAX_CHOICES g c =
    let at = goal.at.returns-then-len-ge-MAX_CHOICES g c in
    record {
      call = found_call g at.After-is_unopposed _ false false true c.if-is_unopposed.false
          (sym c.if-is_current.false ∙ current_is g at.After-is_current)
          (at_least most_choices c.len.result c.if-len-ge-MAX_CHOICES.true
          ∙ ap (nat_le most_choices) (count_is g at.After-len)) refl;
      naming = refl;
    }

pub returns : goal.returns
returns g c =
    let at = goal.at.returns g c in
    let ledger = c.args.self.now in
    record {
      call = found_call g at.After-is_unopposed _ false false false c.if-is_unopposed.false
          (sym c.if-is_current.false ∙ current_is g at.After-is_current)
          (below most_choices c.len.result c.if-len-ge-MAX_CHOICES.false
          ∙ ap (nat_le most_choices) (count_is g at.After-len))
          (ap (λ rulings. book_with rulings ledger.held.entries ledger.posted ledger.closed.items)
          (ruled-chosen (ruled_beside ledger.rulings ledger.replaced.items ledger.credits.items)
          ledger.choices.items c.push.new.self.items c.in_ok-choice.choice true
          (record_of c.in-Some.held.now) c.in_ok-push.ensures.items c.in_ok-choice.ensures.bytes
          c.in_ok-choice.ensures.counts
          (c.in_ok-choice.ensures.period ∙ c.open_number.ensures.number)));
      naming = refl;
    }
