-- Work on books that are those of a history continues it.
use Rattle.std.proofs.Common.{◌≡◌, ◌∙◌, ℕ, Bool, true, false, List, [], ◌++◌, refl, sym, ap, subst}
use Rattle.std.proofs.Common.{Result, Ok, Err, ◌⊎◌, inl, inr, append_assoc, eqb-true, ◌==◌}
use Rattle.std.proofs.Common.{if◌then◌else◌, IfSome, Option, Some, None, ◌∷◌}
use Rattle.book_model.specs.declared.answer.Accepted.{Accepted}
use Rattle.book_model.specs.declared.answer.Accepted.TheVariants.{Kept, Known, Unpriced}
use Rattle.book_model.specs.declared.answer.Ruled.{Ruled}
use Rattle.book_model.specs.declared.answer.Ruled.TheVariants.{Done, Already}
use Rattle.book_model.specs.MadeByCalls.{AreMadeOf}
use Rattle.book_model.specs.declared.fault.LedgerFault.{LedgerFault}
use Rattle.book_model.specs.declared.fault.LedgerFault.TheVariants.{Memory, Store, Reopen, OldRule}
use Rattle.book_model.specs.declared.fault.LedgerFault.TheVariants.{NoSuchRecord}
use Rattle.book_model.specs.Words.{Terms, terms_in, Naming, Book, new_book, Event, PeriodClosed}
use Rattle.book_model.specs.Words.{RulingGiven, SecondRuleAdopted, after_all, accept_answer}
use Rattle.book_model.specs.Words.{tariff_answer, close_answer, Outcome, accept_event, if_done}
use Rattle.book_model.specs.Words.{ruled_as, rule_outcome, book_after, book_of, IsAnswered}
use Rattle.book_model.specs.Words.{IsMadeByCalls, Note, choose_answer, record_named, adopt_answer}
use Rattle.book_model.specs.Words.{rule_by, second_rule, TariffFault, RulingAsked, TariffAsked}
use Rattle.book_model.specs.Words.{CloseAsked, ChoiceAsked, AdoptionAsked, CreditAsked, CreditGiven}
use Rattle.book_model.specs.Words.{ReplacementAsked, WithholdingAsked, credit_answer}
use Rattle.book_model.specs.Words.{replacing_answer, withhold_answer, withhold_outcome}
use Rattle.book_model.proofs.Lemmas.{books_follow_history, closed_open, credited_open}
use Rattle.book_core.specs.Words.{Seen, Transition, NoEvent, Then, IsTransition, Makes, Calls}
use Rattle.book_core.specs.Words.{TakesWorks, Withholds, first_of, listed, MakesAnswered}
use Rattle.book_core.specs.Follow.{FollowsHistory}
use Rattle.book_core.specs.Withholdings.{told_as}
use Rattle.book_core.specs.declared.withheld.Withheld.{Withheld}
use Rattle.book_core.proofs.RulingLemmas.{meant_by, replaced_by, said_by, withheld_by}
use Rattle.book_core.proofs.NamedLemmas.{its_name}
use Rattle.book_core.proofs.TransitionLemmas.{after_all-append}

-- work without an event makes none
pub none_answered : (naming : Naming) → MakesAnswered naming NoEvent
none_answered naming = λ book was events is none.
    subst (AreMadeOf naming book) (sym none.none) tt

-- what calls made of a book, and then of what that left, they made of the book
pub made_more : (naming : Naming) (late early : List Event) (book : Book)
    → AreMadeOf naming (after_all early book) late → AreMadeOf naming book early
    → AreMadeOf naming book (late ++ early)
made_more naming [] early book later first = first
made_more naming (event ∷ late) early book later first = (
  subst (λ (left : Book). IsAnswered naming event left) (sym (after_all-append late early book))
      later.0,
  made_more naming late early book later.1 first,
)

-- and so a history that they made goes on
pub history_goes_on : (naming : Naming) (events history : List Event)
    → AreMadeOf naming (book_after history) events → IsMadeByCalls naming history
    → IsMadeByCalls naming (events ++ history)
history_goes_on naming [] history made answered = answered
history_goes_on naming (event ∷ older) history made answered = (
  subst (λ (left : Book). IsAnswered naming event left)
      (sym (after_all-append older history new_book)) made.0,
  history_goes_on naming older history made.1 answered,
)

-- the book after events is that of the history with them
pub after_all-book_of : (events history : List Event)
    → after_all events (book_of history) ≡ book_of (events ++ history)
after_all-book_of events history =
    ap (after_all events) (sym (books_follow_history history))
    ∙ sym (after_all-append events history new_book) ∙ books_follow_history (events ++ history)

-- so work that has its events answered follows the history
pub follows : (old new : Seen) (Made : Transition) → MakesAnswered old.naming Made
    → IsTransition old new Made → FollowsHistory old new Made
follows old new Made answers work honest books history of book stands =
    let come = work.moves honest books book stands in
    let was : come.before ≡ book_of history = of come.before come.stood in
    let made : Made old.must_reopen (book_of history) come.events new.must_reopen =
    subst (λ before. Made old.must_reopen before come.events new.must_reopen) was come.made in
    record {
      events = come.events;
      made = made;
      answered = history_goes_on old.naming come.events history
          (answers (book_after history) old.must_reopen come.events new.must_reopen
          (subst (λ before. Made old.must_reopen before come.events new.must_reopen)
          (sym (books_follow_history history)) made));
      is = come.leads ∙ ap (after_all come.events) was ∙ after_all-book_of come.events history;
    }

-- work, and then other work
pub then_answered : (naming : Naming) (First Next : Transition) → MakesAnswered naming First
    → MakesAnswered naming Next → MakesAnswered naming (Then First Next)
then_answered naming First Next first next book was events is both =
    subst (AreMadeOf naming book) (sym both.all)
    (made_more naming both.late both.early book
    (next (after_all both.early book) both.between both.late is both.next)
    (first book was both.early both.between both.first))

-- a call makes the event of its outcome, or none
pub called_events : {V A : Type 0} (view : V → A) (outcome : Outcome A)
    (result : Result V LedgerFault) (events : List Event)
    → Makes view outcome result events → (events ≡ []) ⊎ (events ≡ listed outcome.event)
called_events view outcome (Ok value) events is = inr is.1
called_events view outcome (Err Memory) events is = inl is
called_events view outcome (Err Store) events is = is
called_events view outcome (Err Reopen) events is = inl is
called_events view outcome (Err fault) events is = inl is.1

-- a call that has its outcome's event answered
pub calls_answered : {V A : Type 0} (naming : Naming) (view : V → A) (outcome : Book → Outcome A)
    (result : Result V LedgerFault)
    → ((book : Book) → AreMadeOf naming book (listed (outcome book).event))
    → MakesAnswered naming (Calls view outcome result)
calls_answered naming view outcome result answers book was events is called =
    elim (called_events view (outcome book) result events called.makes) [
      | inl none ↦ subst (AreMadeOf naming book) (sym none) tt
      | inr all ↦ subst (AreMadeOf naming book) (sym all) (answers book)
    ]

-- the event of the answer to a record
pub accept_event-answered : (naming : Naming) (bytes : List ℕ) (book : Book)
    (answer : Result Accepted LedgerFault) → accept_answer naming book bytes ≡ answer
    → AreMadeOf naming book (listed (accept_event bytes answer))
accept_event-answered naming bytes book (Ok Kept) is = (is, tt)
accept_event-answered naming bytes book (Ok Known) is = tt
accept_event-answered naming bytes book (Ok Unpriced) is = tt
accept_event-answered naming bytes book (Err fault) is = tt

-- the event of a ruling is answered, where what was submitted is answered if it is done
if_done-answered : (naming : Naming) (book : Book) (submitted : Option Event)
    (answer : Result Ruled LedgerFault)
    → (answer ≡ Ok Done → IfSome submitted (λ event. IsAnswered naming event book))
    → AreMadeOf naming book (listed (if_done submitted answer))
if_done-answered naming book None (Ok Done) done = tt
if_done-answered naming book (Some event) (Ok Done) done = (done refl, tt)
if_done-answered naming book submitted answer done = tt

rulings_answered : {V : Type 0} (naming : Naming) (view : V → Ruled)
    (submitted : Book → Option Event) (answer : Book → Result Ruled LedgerFault)
    (result : Result V LedgerFault)
    → ((book : Book) → answer book ≡ Ok Done
    → IfSome (submitted book) (λ event. IsAnswered naming event book))
    → MakesAnswered naming (Calls view (λ book. ruled_as (submitted book) (answer book)) result)
rulings_answered naming view submitted answer result done =
    calls_answered naming view (λ book. ruled_as (submitted book) (answer book)) result
    (λ book. if_done-answered naming book (submitted book) (answer book) (done book))

-- a tariff that a text says
tariff_done : (naming : Naming) (noted : Option Note) (text : List ℕ)
    (said : Result Terms TariffFault) (book : Book) → tariff_answer book text said ≡ Ok Done
    → IfSome (said_by noted text said) (λ event. IsAnswered naming event book)
tariff_done naming noted text (Ok terms) book done = done
tariff_done naming noted text (Err fault) book done = tt

-- the choice of a record that is meant
choice_done : (naming : Naming) (noted : Option Note) (name : List ℕ) (book : Book)
    (meant : Option (List ℕ))
    → record_named naming book.held name ≡ meant → choose_answer naming book name ≡ Ok Done
    → IfSome (meant_by noted meant) (λ event. IsAnswered naming event book)
choice_done naming noted name book None found done = tt
choice_done naming noted name book (Some bytes) found done =
    let named = sym (its_name naming book.held name bytes found) in (
      subst (λ name. choose_answer naming book name ≡ Ok Done) named done,
      subst (λ name. record_named naming book.held name ≡ Some bytes) named found,
    )

-- a tariff in the place of another
replacement_done : (naming : Naming) (noted : Option Note) (text : List ℕ)
    (said : Result Terms TariffFault) (book : Book) → replacing_answer book text said ≡ Ok Done
    → IfSome (replaced_by noted text said) (λ event. IsAnswered naming event book)
replacement_done naming noted text (Ok terms) book done = done
replacement_done naming noted text (Err fault) book done = tt

-- the choice of none of the work of a record that is meant
withholding_done : (naming : Naming) (noted : Option Note) (name : List ℕ) (book : Book)
    (meant : Option (List ℕ))
    → record_named naming book.held name ≡ meant → withhold_answer naming book name ≡ Ok Done
    → IfSome (withheld_by noted meant) (λ event. IsAnswered naming event book)
withholding_done naming noted name book None found done = tt
withholding_done naming noted name book (Some bytes) found done =
    let named = sym (its_name naming book.held name bytes found) in (
      subst (λ name. withhold_answer naming book name ≡ Ok Done) named done,
      subst (λ name. record_named naming book.held name ≡ Some bytes) named found,
    )

-- a rule that is adopted is the second one
second_done : (rule : ℕ) (book : Book) → adopt_answer book.rulings rule ≡ Ok Done
    → adopt_answer book.rulings second_rule ≡ Ok Done
second_done rule book done =
    subst (λ rule. adopt_answer book.rulings rule ≡ Ok Done)
    (by_tests (rule == rule_by book.rulings) (rule == second_rule) refl done) done
  where
    by_tests : (same second : Bool) → (rule == second_rule) ≡ second
        → (if same then Ok Already else if second then Ok Done else Err OldRule) ≡ Ok Done
        → rule ≡ second_rule
    by_tests true second is done = cc
    by_tests false true is done = eqb-true rule second_rule is
    by_tests false false is done = cc

-- a ruling makes only an event that the books answered
pub ruling_answered : {V : Type 0} (naming : Naming) (view : V → Ruled) (noted : Option Note)
    (ruling : RulingAsked) (result : Result V LedgerFault)
    → MakesAnswered naming (Calls view (rule_outcome naming noted ruling) result)
ruling_answered naming view noted (TariffAsked text) result =
    rulings_answered naming view (λ book. said_by noted text (terms_in text))
    (λ book. tariff_answer book text (terms_in text)) result
    (tariff_done naming noted text (terms_in text))
ruling_answered naming view noted (CloseAsked number day) result =
    rulings_answered naming view (λ book. Some (PeriodClosed noted day))
    (λ book. close_answer book.rulings number day) result (λ book done.
    subst (λ number. close_answer book.rulings number day ≡ Ok Done)
    (closed_open book number day done) done)
ruling_answered naming view noted (ChoiceAsked name) result =
    rulings_answered naming view (λ book. meant_by noted (record_named naming book.held name))
    (λ book. choose_answer naming book name) result
    (λ book. choice_done naming noted name book (record_named naming book.held name) refl)
ruling_answered naming view noted (AdoptionAsked rule) result =
    rulings_answered naming view (λ book. Some (RulingGiven noted SecondRuleAdopted))
    (λ book. adopt_answer book.rulings rule) result (second_done rule)
ruling_answered naming view noted (ReplacementAsked text) result =
    rulings_answered naming view (λ book. replaced_by noted text (terms_in text))
    (λ book. replacing_answer book text (terms_in text)) result
    (replacement_done naming noted text (terms_in text))
ruling_answered naming view noted (WithholdingAsked name) result =
    rulings_answered naming view (λ book. withheld_by noted (record_named naming book.held name))
    (λ book. withhold_answer naming book name) result
    (λ book. withholding_done naming noted name book (record_named naming book.held name) refl)
ruling_answered naming view noted (CreditAsked number centre amount reason) result =
    rulings_answered naming view
    (λ book. Some (RulingGiven noted (CreditGiven centre amount reason)))
    (λ book. credit_answer book.rulings number centre amount reason) result (λ book done.
    subst (λ number. credit_answer book.rulings number centre amount reason ≡ Ok Done)
    (credited_open book number centre amount reason done) done)

-- so do works that are withheld one after another,
withholds_answered : (naming : Naming) (noted : Option Note) (names : List (List ℕ)) (answers : List (Option Ruled))
    → MakesAnswered naming (Withholds naming noted names answers)
withholds_answered naming noted names [] = none_answered naming
withholds_answered naming noted [] (answer ∷ later) = λ book was events is never. absurd never
withholds_answered naming noted (name ∷ rest) (answer ∷ later) =
    then_answered naming
    (Calls (λ (ruled : Ruled). ruled) (withhold_outcome naming noted name) (told_as answer))
    (Withholds naming noted rest later)
    (ruling_answered naming (λ (ruled : Ruled). ruled) noted (WithholdingAsked name) (told_as answer))
    (withholds_answered naming noted rest later)

-- also several together
pub works_answered : (naming : Naming) (noted : Option Note) (names : List (List ℕ)) (told : Result Withheld LedgerFault)
    → MakesAnswered naming (TakesWorks naming noted names told)
works_answered naming noted names (Ok told) = λ book was events is takes.
    withholds_answered naming noted names takes.answers book was events is takes.made
works_answered naming noted names (Err Store) = λ book was events is keeps.
    withholds_answered naming noted names keeps.answers book false events false keeps.kept
works_answered naming noted names (Err NoSuchRecord) = λ book was events is never. absurd never
works_answered naming noted names (Err fault) =
    ruling_answered naming (λ (ruled : Ruled). ruled) noted (WithholdingAsked (first_of names)) (Err fault)
