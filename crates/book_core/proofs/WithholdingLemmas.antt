-- Works that are withheld together.
use Rattle.std.proofs.Common.{◌≡◌, ◌∙◌, ◌<◌, ◌+◌, ℕ, Bool, true, false, List, [], ◌∷◌, ◌++◌, length}
use Rattle.std.proofs.Common.{refl, sym, ap, subst, Result, Ok, Err, ◌⊎◌, inl, inr, arith, drop, get_or}
use Rattle.std.proofs.Common.{length-append, sum_by, take, ◌||◌, true≢false, take-append-drop}
use Rattle.std.proofs.Common.{Option, Some}
use Rattle.book_model.proofs.Std.{sum_by_push}
use Rattle.book_model.specs.declared.answer.Ruled.{Ruled}
use Rattle.book_model.specs.declared.fault.LedgerFault.{LedgerFault}
use Rattle.book_model.specs.declared.fault.LedgerFault.TheVariants.{Memory, NoSuchRecord, Reopen}
use Rattle.book_model.specs.declared.fault.LedgerFault.TheVariants.{Store}
use Rattle.book_model.specs.Words.{Book, Event, Naming, Note, RulingGiven, WorkWithheld, after_all}
use Rattle.book_model.specs.Words.{if_done, record_named, withhold_answer, withhold_outcome}
use Rattle.book_core.specs.Calls.{Calls, IsCall, listed}
use Rattle.book_core.specs.Ledgers.{Seen}
use Rattle.book_core.specs.Submissions.{first_of}
use Rattle.book_core.specs.Transition.{IsTransition}
use Rattle.book_core.specs.Withholdings.{KeepsWithheld, TakesSome, TakesWorks, Withholds}
use Rattle.book_core.specs.Withholdings.{absent_in, done_in, is_not_held, told_as, with_answer}
use Rattle.book_core.specs.Withholdings.{withheld_of}
use Rattle.book_core.specs.declared.withheld.Withheld.{Withheld}
use Rattle.book_core.proofs.RulingLemmas.{withheld_by}
use Rattle.book_core.proofs.ThenLemmas.{nothing_more}
use Rattle.book_core.proofs.TransitionLemmas.{Implies, wanting, failed, to_reopen, refused, fails}
use Rattle.book_core.proofs.TransitionLemmas.{work_as}

-- what the books say of a ruling is its answer
abbrev said : Ruled → Ruled
said ruled = ruled

-- ---- counts

-- one more answer is counted
pub more_withheld : (answers : List (Option Ruled)) (answer : Option Ruled)
    → with_answer (withheld_of answers) answer ≡ withheld_of (answers ++ answer ∷ [])
more_withheld answers answer =
    λ i. record {
      taken = sym (length-append answers (answer ∷ [])) i;
      done = sym (sum_by_push done_in answers answer) i;
      absent = sym (sum_by_push absent_in answers answer) i;
    }

-- where none is counted there is no answer
pub none_withheld : (told : Withheld) (answers : List (Option Ruled)) → told ≡ withheld_of answers
    → told.taken ≡ 0 → answers ≡ []
none_withheld told [] counts none = refl
none_withheld told (answer ∷ answers) counts none =
    let long = ap (λ (one : Withheld). one.taken) counts in absurd (omega (arith, long, none))

-- ---- the first of them

-- the first name
pub first_name : (names : List (List ℕ)) (d : List ℕ) → 0 < length names
    → first_of names ≡ get_or names 0 d
first_name [] d some = absurd (omega arith)
first_name (name ∷ rest) d some = refl

-- the fault of a record that is not held is one
pub absent_fault : (fault : LedgerFault) → is_not_held fault ≡ true → fault ≡ NoSuchRecord
absent_fault NoSuchRecord is = refl
absent_fault fault is = absurd (true≢false (sym is))

-- the first name was answered
pub withholds_one : (naming : Naming) (noted : Option Note) (names : List (List ℕ)) (answer : Option Ruled)
    → 0 < length names
    → Implies (Calls said (withhold_outcome naming noted (first_of names)) (told_as answer))
    (Withholds naming noted names (answer ∷ []))
withholds_one naming noted [] answer some was before events is called = absurd (omega arith)
withholds_one naming noted (name ∷ rest) answer some was before events is called =
    nothing_more (Calls said (withhold_outcome naming noted name) (told_as answer)) was before events is
    called

-- the event of a work that is refused is none
refused_event : (naming : Naming) (noted : Option Note) (name : List ℕ) (before : Book) (fault : LedgerFault)
    → withhold_answer naming before name ≡ Err fault
    → listed (withhold_outcome naming noted name before).event ≡ []
refused_event naming noted name before fault is =
    ap (λ answer. listed (if_done (withheld_by noted (record_named naming before.held name)) answer)) is

-- the store failed, and the event of the first work was made, if its answer makes one
first_kept : (naming : Naming) (noted : Option Note) (names : List (List ℕ)) (before : Book) (events : List Event)
    (answer : Result Ruled LedgerFault) → 0 < length names
    → withhold_answer naming before (first_of names) ≡ answer
    → events ≡ listed (withhold_outcome naming noted (first_of names) before).event
    → KeepsWithheld naming noted names false before events true
first_kept naming noted names before events (Ok answer) some is made = record {
  was_open = refl;
  closed = refl;
  answers = Some answer ∷ [];
  kept = withholds_one naming noted names (Some answer) some false before events false (record {
    makes = (is, made);
    reopens = record { reopen = refl; store = refl };
  });
}
first_kept naming noted names before events (Err fault) some is made = record {
  was_open = refl;
  closed = refl;
  answers = [];
  kept = record {
    none = made ∙ refused_event naming noted (first_of names) before fault is;
    same = refl;
  };
}

-- the store of open books failed, before or after the event of the first work
store_keeps : (naming : Naming) (noted : Option Note) (names : List (List ℕ)) (was : Bool) (before : Book)
    (events : List Event) (is : Bool) → 0 < length names → was ≡ false → is ≡ true
    → (events ≡ []) ⊎ (events ≡ listed (withhold_outcome naming noted (first_of names) before).event)
    → KeepsWithheld naming noted names was before events is
store_keeps naming noted names was before events is some opened closed (inl none) = record {
  was_open = opened;
  closed = closed;
  answers = [];
  kept = record { none = none; same = refl };
}
store_keeps naming noted names was before events is some opened closed (inr made) =
    let keeps = first_kept naming noted names before events (withhold_answer naming before (first_of names))
    some refl made in
    record { was_open = opened; closed = closed; answers = keeps.answers; kept = keeps.kept }

-- the first work was refused in a call of its own, and its record is held
pub refused_work : (naming : Naming) (noted : Option Note) (names : List (List ℕ)) (fault : LedgerFault) → 0 < length names
    → is_not_held fault ≡ false
    → Implies (Calls said (withhold_outcome naming noted (first_of names)) (Err fault))
    (TakesWorks naming noted names (Err fault))
refused_work naming noted names Store some held was before events is called =
    elim (fails said (withhold_outcome naming noted (first_of names)) Store was before events is called) [
      | wanting memory none same ↦ absurd (cc)
      | failed store opened closed either ↦
          store_keeps naming noted names was before events is some opened closed either
      | to_reopen reopen opened closed none ↦ absurd (cc)
      | refused answer opened closed none ↦
          absurd (true≢false (sym (called.reopens.store ∙ ap (λ b. b || true) opened) ∙ closed))
    ]
refused_work naming noted names NoSuchRecord some held was before events is called =
    absurd (true≢false held)
refused_work naming noted names fault some held was before events is called = called

-- ---- a change that takes one work, by a call of its own

pub one_refused : {old new : Seen} {name : List ℕ} {fault : LedgerFault}
    (noted : Option Note) (names : List (List ℕ)) (told : Result Withheld LedgerFault) → told ≡ Err fault → 0 < length names
    → is_not_held fault ≡ false → first_of names ≡ name
    → IsCall said old new (Err fault) (withhold_outcome old.naming noted name)
    → IsTransition old new (TakesWorks old.naming noted names told)
one_refused {old} {new} {name} {fault} noted names told is some held first called =
    subst (λ told. IsTransition old new (TakesWorks old.naming noted names told)) (sym is)
    (work_as old new (Calls said (withhold_outcome old.naming noted name) (Err fault))
    (TakesWorks old.naming noted names (Err fault))
    (λ was before events leaves call. refused_work old.naming noted names fault some held was before events
    leaves
    (subst (λ name. Calls said (withhold_outcome old.naming noted name) (Err fault) was before events leaves)
    (sym first) call)) called.work)

pub one_withheld : {old new : Seen} {names : List (List ℕ)} {name : List ℕ} {told : Withheld}
    (noted : Option Note) (answer : Option Ruled) → told ≡ withheld_of (answer ∷ []) → 0 < length names
    → first_of names ≡ name
    → IsCall said old new (told_as answer) (withhold_outcome old.naming noted name)
    → IsTransition old new (TakesWorks old.naming noted names (Ok told))
one_withheld {old} {new} {names} {name} {told} noted answer counts some first called =
    work_as old new (Calls said (withhold_outcome old.naming noted name) (told_as answer))
    (TakesSome old.naming noted names told)
    (λ was before events leaves call. record {
      answers = answer ∷ [];
      made = withholds_one old.naming noted names answer some was before events leaves
          (subst (λ name. Calls said (withhold_outcome old.naming noted name) (told_as answer) was before events
          leaves)
          (sym first) call);
      counts = counts;
    }) called.work

-- ---- a change that is handed the first of some names

-- what was withheld of the first names was withheld of all
withholds_further : (naming : Naming) (noted : Option Note) (early later : List (List ℕ)) (answers : List (Option Ruled))
    → Implies (Withholds naming noted early answers) (Withholds naming noted (early ++ later) answers)
withholds_further naming noted early later [] was before events is withholds = withholds
withholds_further naming noted [] later (answer ∷ rest) was before events is withholds = absurd withholds
withholds_further naming noted (name ∷ early) later (answer ∷ rest) was before events is withholds = record {
  between = withholds.between;
  early = withholds.early;
  late = withholds.late;
  first = withholds.first;
  next = withholds_further naming noted early later rest withholds.between
      (after_all withholds.early before) withholds.late is withholds.next;
  all = withholds.all;
}

-- the first of them is the first of all
first_further : (early later : List (List ℕ)) → 0 < length early
    → first_of early ≡ first_of (early ++ later)
first_further [] later some = absurd (omega arith)
first_further (name ∷ rest) later some = refl

-- what the change took of the first names it took of all
takes_further : (naming : Naming) (noted : Option Note) (early later : List (List ℕ)) (told : Result Withheld LedgerFault)
    → 0 < length early → Implies (TakesWorks naming noted early told) (TakesWorks naming noted (early ++ later) told)
takes_further naming noted early later (Ok told) some was before events is takes = record {
  answers = takes.answers;
  made = withholds_further naming noted early later takes.answers was before events is takes.made;
  counts = takes.counts;
}
takes_further naming noted early later (Err Store) some was before events is takes = record {
  was_open = takes.was_open;
  closed = takes.closed;
  answers = takes.answers;
  kept = withholds_further naming noted early later takes.answers false before events false takes.kept;
}
takes_further naming noted early later (Err NoSuchRecord) some was before events is takes = absurd takes
takes_further naming noted early later (Err fault) some was before events is takes =
    subst (λ name. Calls said (withhold_outcome naming noted name) (Err fault) was before events is)
    (first_further early later some) takes

-- So a change that is handed the first of some names takes some first of all.
pub works_part : (naming : Naming) (noted : Option Note) (names : List (List ℕ)) (count : ℕ) (part : List (List ℕ))
    (told : Result Withheld LedgerFault) → part ≡ take count names → 0 < length part
    → Implies (TakesWorks naming noted part told) (TakesWorks naming noted names told)
works_part naming noted names count part told is_part some was before events is takes =
    subst (λ all. TakesWorks naming noted all told was before events is)
    (ap (λ part. part ++ drop count names) is_part ∙ take-append-drop count names)
    (takes_further naming noted part (drop count names) told some was before events is takes)
