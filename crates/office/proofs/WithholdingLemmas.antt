-- Works that are withheld by the names of records, one change after the other.
use Rattle.std.proofs.Common.{◌≡◌, ◌∙◌, ℕ, ◌+◌, ◌-◌, ◌<◌, ◌≤◌, List, [], ◌∷◌, ◌++◌, Option, Some}
use Rattle.std.proofs.Common.{None, Ok, Err, refl, sym, ap, subst, arith, append_assoc, append-nil}
use Rattle.std.proofs.Common.{drop, length, length-append, sum_by, take, take-append-drop}
use Rattle.std.proofs.lemmas.List.{length-take-le}
use Rattle.std.proofs.lemmas.List.Sums.{sum_by-append, sum_by-cons}
use Rattle.book_model.specs.declared.answer.Ruled.{Ruled}
use Rattle.book_model.specs.declared.answer.Ruled.TheVariants.{Already, Done}
use Rattle.book_model.specs.declared.fault.LedgerFault.{LedgerFault}
use Rattle.book_model.specs.Words.{Naming, Note, WithholdingAsked, after_all, withhold_outcome}
use Rattle.book_core.specs.Calls.{Calls}
use Rattle.book_core.specs.Follow.{MakesAnswered}
use Rattle.book_core.specs.Ledgers.{Seen}
use Rattle.book_core.specs.Transition.{IsTransition, NoEvent, Then}
use Rattle.book_core.specs.Withholdings.{TakesWorks, Withholds, absent_in, done_in, told_as}
use Rattle.book_core.specs.Withholdings.{withheld_of}
use Rattle.book_core.specs.declared.withheld.Withheld.{Withheld}
use Rattle.book_core.proofs.FollowLemmas.{none_answered, ruling_answered, then_answered}
use Rattle.book_core.proofs.FollowLemmas.{works_answered}
use Rattle.book_core.proofs.ThenLemmas.{last_two, next_as, nothing_then}
use Rattle.book_core.proofs.TransitionLemmas.{Implies, no_work, work_as, work_then}
use Rattle.office.specs.Withholdings.{WithholdsEach, WithholdsSo, already_in, answered, no_works}
use Rattle.office.specs.Withholdings.{with_answers, with_taken}
use Rattle.office.specs.declared.withholding.WorkCounts.{WorkCounts}

-- ---- counts

-- the answer to a work is of one kind
one_kind : (answer : Option Ruled)
    → already_in answer + (done_in answer + absent_in answer) ≡ 1
one_kind (Some Done) = refl
one_kind (Some Already) = refl
one_kind None = refl

-- so are those of a change
three_kinds : (answers : List (Option Ruled))
    → sum_by already_in answers + (sum_by done_in answers + sum_by absent_in answers)
    ≡ length answers
three_kinds [] = refl
three_kinds (answer ∷ later) =
    let rest = three_kinds later in
    let kind = one_kind answer in
    let already = sum_by-cons already_in answer later in
    let done = sum_by-cons done_in answer later in
    let absent = sum_by-cons absent_in answer later in
    omega (arith, already, done, absent, kind, rest)

-- the counts with the works of a change are those with its answers
taken_counts : (counts : WorkCounts) (answers : List (Option Ruled)) (told : Withheld)
    → told ≡ withheld_of answers → with_taken counts told ≡ with_answers counts answers
taken_counts counts answers told is =
    let done : told.done ≡ sum_by done_in answers = ap (λ (one : Withheld). one.done) is in
    let absent : told.absent ≡ sum_by absent_in answers = ap (λ (one : Withheld). one.absent) is in
    let taken : told.taken ≡ length answers = ap (λ (one : Withheld). one.taken) is in
    let kinds = three_kinds answers in
    let new : counts.withheld + told.done ≡ counts.withheld + sum_by done_in answers =
    omega (arith, done) in
    let known : counts.already + (told.taken - (told.done + told.absent))
    ≡ counts.already + sum_by already_in answers =
    omega (arith, done, absent, taken, kinds) in
    let none : counts.not_held + told.absent ≡ counts.not_held + sum_by absent_in answers =
    omega (arith, absent) in
    λ i. record { withheld = new i; already = known i; not_held = none i }

-- the counts with answers, and then with more
more_counts : (counts : WorkCounts) (early later : List (Option Ruled))
    → with_answers (with_answers counts early) later ≡ with_answers counts (early ++ later)
more_counts counts early later =
    let new_sum = sum_by-append done_in early later in
    let known_sum = sum_by-append already_in early later in
    let absent_sum = sum_by-append absent_in early later in
    let new : (counts.withheld + sum_by done_in early) + sum_by done_in later
    ≡ counts.withheld + sum_by done_in (early ++ later) =
    omega (arith, new_sum) in
    let known : (counts.already + sum_by already_in early) + sum_by already_in later
    ≡ counts.already + sum_by already_in (early ++ later) =
    omega (arith, known_sum) in
    let none : (counts.not_held + sum_by absent_in early) + sum_by absent_in later
    ≡ counts.not_held + sum_by absent_in (early ++ later) =
    omega (arith, absent_sum) in
    λ i. record { withheld = new i; already = known i; not_held = none i }

-- ---- answers

-- the works of a change are those of the first names, each of which has its answer
taken_each : (said : Option Note) (naming : Naming) (names : List (List ℕ))
    (answers : List (Option Ruled))
    → Implies (Withholds naming said names answers)
    (WithholdsEach said naming (take (length answers) names) answers None)
taken_each said naming names [] was before events is none = none
taken_each said naming [] (answer ∷ later) was before events is never = absurd never
taken_each said naming (name ∷ rest) (answer ∷ later) was before events is both =
    next_as (taken_each said naming rest later) was before events is both

-- works that were all answered, and then others
each_then : (said : Option Note) (naming : Naming) (names : List (List ℕ))
    (answers : List (Option Ruled))
    (others : List (List ℕ)) (more : List (Option Ruled)) (refusal : Option LedgerFault)
    → Implies
    (Then (WithholdsEach said naming names answers None) (WithholdsEach said naming others more
    refusal))
    (WithholdsEach said naming (names ++ others) (answers ++ more) refusal)
each_then said naming [] [] others more refusal was before events is both =
    nothing_then (WithholdsEach said naming others more refusal) was before events is both
each_then said naming [] (answer ∷ answers) others more refusal was before events is both =
    absurd both.first
each_then said naming (name ∷ names) [] others more refusal was before events is both = absurd
    both.first
each_then said naming (name ∷ names) (answer ∷ answers) others more refusal was before events is
    both =
    next_as (each_then said naming names answers others more refusal) was before events is
    (last_two was before events is both)

-- ---- one change after the other

-- the works of the first of some names were withheld so, and these are left
pub record SoFar (said : Option Note) (old now : Seen) (names rest : List (List ℕ))
    (counts : WorkCounts) : Type 0 where
  pub passed : List (List ℕ)
  pub parts : passed ++ rest ≡ names
  pub work : IsTransition old now (WithholdsSo said old.naming passed counts None)
  pub count : answered counts ≡ length passed

-- of none nothing was withheld
nothing_withheld : (said : Option Note) (naming : Naming) (counts : WorkCounts) → counts ≡ no_works
    → Implies NoEvent (WithholdsSo said naming [] counts None)
nothing_withheld said naming counts none was before events is nothing =
    record { answers = []; made = nothing; told = none }

pub none_passed : (said : Option Note) (seen : Seen) (names : List (List ℕ))
    (counts : WorkCounts) → counts ≡ no_works
    → SoFar said seen seen names names counts
none_passed said seen names counts none = record {
  passed = [];
  parts = refl;
  work = work_as seen seen NoEvent (WithholdsSo said seen.naming [] counts None)
      (nothing_withheld said seen.naming counts none) (no_work seen);
  count = ap answered none;
}

-- the first of those that were left are answered
withholds_more : (said : Option Note) (naming : Naming) (passed rest : List (List ℕ))
    (counts : WorkCounts)
    (told : Withheld)
    → Implies (Then (WithholdsSo said naming passed counts None)
    (TakesWorks naming said rest (Ok told)))
    (WithholdsSo said naming (passed ++ take told.taken rest) (with_taken counts told) None)
withholds_more said naming passed rest counts told was before events is both = record {
  answers = both.first.answers ++ both.next.answers;
  made = subst (λ taken. WithholdsEach said naming (passed ++ take taken rest)
      (both.first.answers ++ both.next.answers) None was before events is)
      (sym (ap (λ (one : Withheld). one.taken) both.next.counts))
      (each_then said naming passed both.first.answers (take (length both.next.answers) rest)
      both.next.answers None was before events is (record {
        between = both.between;
        early = both.early;
        late = both.late;
        first = both.first.made;
        next = taken_each said naming rest both.next.answers both.between
            (after_all both.early before)
            both.late is both.next.made;
        all = both.all;
      }));
  told = taken_counts counts both.next.answers told both.next.counts
      ∙ ap (λ (counts : WorkCounts). with_answers counts both.next.answers) both.first.told
      ∙ more_counts no_works both.first.answers both.next.answers;
}

-- nothing of them comes twice
parts_moved : (passed rest names : List (List ℕ)) (taken : ℕ) (later : List (List ℕ))
    → passed ++ rest ≡ names → later ≡ drop taken rest
    → (passed ++ take taken rest) ++ later ≡ names
parts_moved passed rest names taken later parts is =
    append_assoc passed (take taken rest) later
    ∙ ap (λ back. passed ++ (take taken rest ++ back)) is
    ∙ ap (λ rest. passed ++ rest) (take-append-drop taken rest) ∙ parts

pub passes : {said : Option Note} {old now : Seen} (new : Seen) {names rest : List
    (List ℕ)} {counts : WorkCounts}
    (so : SoFar said old now names rest counts) (told : Withheld) (more : WorkCounts)
    (later : List (List ℕ)) → IsTransition now new (TakesWorks now.naming said rest (Ok told))
    → more ≡ with_taken counts told → answered more ≡ answered counts + told.taken
    → told.taken ≤ length rest → later ≡ drop told.taken rest
    → SoFar said old new names later more
passes {said} {old} {now} new {names} {rest} {counts} so told more later made counted adds within
    is =
    let made_so = subst (λ naming. IsTransition now new (TakesWorks naming said rest (Ok told)))
    so.work.naming made in
    let both = work_then old now new (WithholdsSo said old.naming so.passed counts None)
    (TakesWorks old.naming said rest (Ok told)) so.work made_so in
    record {
      passed = so.passed ++ take told.taken rest;
      parts = parts_moved so.passed rest names told.taken later so.parts is;
      work = subst (λ more. IsTransition old new
          (WithholdsSo said old.naming (so.passed ++ take told.taken rest) more None)) (sym counted)
          (work_as old new
          (Then (WithholdsSo said old.naming so.passed counts None)
          (TakesWorks old.naming said rest (Ok told)))
          (WithholdsSo said old.naming (so.passed ++ take told.taken rest)
          (with_taken counts told) None)
          (withholds_more said old.naming so.passed rest counts told) both);
      count = omega (
        arith,
        adds,
        so.count,
        length-append so.passed (take told.taken rest),
        length-take-le told.taken rest within,
      );
    }

-- a refusal of the first of those that were left
withholds_stop : (said : Option Note) (naming : Naming) (passed rest : List (List ℕ))
    (counts : WorkCounts)
    (fault : LedgerFault) → 0 < length rest
    → Implies (Then (WithholdsSo said naming passed counts None)
    (TakesWorks naming said rest (Err fault)))
    (WithholdsSo said naming (passed ++ rest) counts (Some fault))
withholds_stop said naming passed [] counts fault some was before events is both = absurd
    (omega arith)
withholds_stop said naming passed (name ∷ rest) counts fault some was before events is both =
    record {
      answers = both.first.answers ++ [];
      made = each_then said naming passed both.first.answers (name ∷ rest) []
          (Some fault) was before events is
          (record {
            between = both.between;
            early = both.early;
            late = both.late;
            first = both.first.made;
            next = both.next;
            all = both.all;
          });
      told = both.first.told ∙ ap (with_answers no_works) (sym (append-nil both.first.answers));
    }

pub stopped_at : {said : Option Note} {old now : Seen} (new : Seen) {names rest : List
    (List ℕ)} {counts : WorkCounts}
    (so : SoFar said old now names rest counts) (fault : LedgerFault) → 0 < length rest
    → IsTransition now new (TakesWorks now.naming said rest (Err fault))
    → IsTransition old new (WithholdsSo said old.naming names counts (Some fault))
stopped_at {said} {old} {now} new {names} {rest} {counts} so fault some made =
    let made_so = subst (λ naming. IsTransition now new (TakesWorks naming said rest (Err fault)))
    so.work.naming made in
    let both = work_then old now new (WithholdsSo said old.naming so.passed counts None)
    (TakesWorks old.naming said rest (Err fault)) so.work made_so in
    subst (λ names. IsTransition old new (WithholdsSo said old.naming names counts
    (Some fault))) so.parts
    (work_as old new
    (Then (WithholdsSo said old.naming so.passed counts None)
    (TakesWorks old.naming said rest (Err fault)))
    (WithholdsSo said old.naming (so.passed ++ rest) counts (Some fault))
    (withholds_stop said old.naming so.passed rest counts fault some) both)

-- none is left
pub all_passed : {said : Option Note} {old now : Seen} {names : List (List ℕ)} {counts : WorkCounts}
    (rest : List (List ℕ)) (so : SoFar said old now names rest counts) → length rest ≡ 0
    → IsTransition old now (WithholdsSo said old.naming names counts None)
all_passed {said} {old} {now} {names} {counts} [] so none =
    subst (λ names. IsTransition old now (WithholdsSo said old.naming names counts None))
    (sym (append-nil so.passed) ∙ so.parts) so.work
all_passed {said} {old} {now} {names} {counts} (name ∷ rest) so none = absurd (omega (arith, none))

-- ---- such works make only events that the books answered

each_answered : (said : Option Note) (naming : Naming) (names : List (List ℕ))
    (answers : List (Option Ruled))
    (refusal : Option LedgerFault) → MakesAnswered naming (WithholdsEach said naming names answers
    refusal)
each_answered said naming [] [] None = none_answered naming
each_answered said naming [] [] (Some fault) = λ book was events is never. absurd never
each_answered said naming [] (answer ∷ answers) refusal = λ book was events is never. absurd never
each_answered said naming (name ∷ names) [] None = λ book was events is never. absurd never
each_answered said naming (name ∷ names) [] (Some fault) =
    works_answered naming said (name ∷ names) (Err fault)
each_answered said naming (name ∷ names) (answer ∷ answers) refusal =
    then_answered naming
    (Calls (λ (ruled : Ruled). ruled) (withhold_outcome naming said name) (told_as answer))
    (WithholdsEach said naming names answers refusal)
    (ruling_answered naming (λ (ruled : Ruled). ruled) said (WithholdingAsked name)
    (told_as answer))
    (each_answered said naming names answers refusal)

pub so_answered : (said : Option Note) (naming : Naming) (names : List (List ℕ))
    (counts : WorkCounts)
    (refusal : Option LedgerFault) → MakesAnswered naming (WithholdsSo said naming names counts
    refusal)
so_answered said naming names counts refusal book was events is so =
    each_answered said naming names so.answers refusal book was events is so.made
