-- Choices, one after the other: one more, what they make, and what the definitions say of them.
use Rattle.std.proofs.Common.{◌≡◌, ◌∙◌, Bool, false, ℕ, List, [], ◌∷◌, ◌++◌, Option, Some, None}
use Rattle.std.proofs.Common.{Result, Ok, Err, sym, ap, subst, append_assoc, append-nil}
use Rattle.std.proofs.Common.{◌+◌, ◌<◌, drop, get_or, length, take, take-append-drop}
use Rattle.std.proofs.lemmas.List.{take_more}
use Rattle.book_model.specs.declared.answer.Ruled.{Ruled}
use Rattle.book_model.specs.declared.fault.LedgerFault.{LedgerFault}
use Rattle.book_model.specs.declared.fault.LedgerFault.TheVariants.{Memory, Store, Reopen}
use Rattle.book_model.specs.Words.{Book, Event, Naming, Note, Outcome, after_all}
use Rattle.book_core.specs.Calls.{listed}
use Rattle.book_core.specs.Follow.{MakesAnswered}
use Rattle.book_core.specs.Ledgers.{Seen}
use Rattle.book_core.specs.Transition.{IsTransition, NoEvent, Then}
use Rattle.book_core.proofs.FollowLemmas.{none_answered, ruling_answered, then_answered}
use Rattle.book_core.proofs.ThenLemmas.{last_two, next_as, nothing_more, nothing_then}
use Rattle.book_core.proofs.TransitionLemmas.{Implies, work_as, work_then}
use Rattle.office.specs.Choices.{Chooses, ChoosesEach, ChoicesOutcome, are_hindered}
use Rattle.office.specs.Choices.{choice_asked, choices_after, choices_by, choices_outcome}
use Rattle.office.specs.Choices.{named_outcome}

-- choices that were all answered, and then others
choices_then : (said : Option Note) (withheld : Bool) (naming : Naming) (names : List (List ℕ))
    (answers : List Ruled)
    (others : List (List ℕ)) (more : List Ruled) (refusal : Option LedgerFault)
    → Implies
    (Then (ChoosesEach said withheld naming names answers None)
    (ChoosesEach said withheld naming others more refusal))
    (ChoosesEach said withheld naming (names ++ others) (answers ++ more) refusal)
choices_then said withheld naming [] [] others more refusal was before events is both =
    nothing_then (ChoosesEach said withheld naming others more refusal) was before events is both
choices_then said withheld naming [] (ruled ∷ answers) others more refusal was before events is
    both =
    absurd both.first
choices_then said withheld naming (name ∷ names) [] others more refusal was before events is both =
    absurd both.first
choices_then said withheld naming (name ∷ names) (ruled ∷ answers) others more refusal was before
    events is both =
    next_as (choices_then said withheld naming names answers others more refusal) was before events
    is
    (last_two was before events is both)

-- nothing was chosen yet
pub none_chosen : (said : Option Note) (withheld : Bool) (naming : Naming) (told : List Ruled)
    → told ≡ []
    → (was : Bool) (before : Book) (events : List Event) (is : Bool) → NoEvent was before events is
    → ChoosesEach said withheld naming [] told None was before events is
none_chosen said withheld naming told so was before events is none =
    subst (λ told. ChoosesEach said withheld naming [] told None was before events is) (sym so) none

-- one more choice was answered
pub one_more_chosen : (said : Option Note) (withheld : Bool) (naming : Naming)
    (names all : List (List ℕ))
    (answers told : List Ruled)
    (name : List ℕ) (ruled : Ruled) → names ++ name ∷ [] ≡ all → told ≡ answers ++ ruled ∷ []
    → (was : Bool) (before : Book) (events : List Event) (is : Bool)
    → Then (ChoosesEach said withheld naming names answers None)
    (Chooses said withheld naming name (Ok ruled)) was before events is
    → ChoosesEach said withheld naming all told None was before events is
one_more_chosen said withheld naming names all answers told name ruled more so was before
    events is both =
    subst (λ all. ChoosesEach said withheld naming all told None was before events is) more
    (subst (λ told. ChoosesEach said withheld naming (names ++ name ∷ []) told None was before
    events is)
    (sym so)
    (choices_then said withheld naming names answers (name ∷ [])
    (ruled ∷ []) None was before events is
    (next_as (nothing_more (Chooses said withheld naming name
    (Ok ruled))) was before events is both)))

-- the next one was refused
pub refused_after : (said : Option Note) (withheld : Bool) (naming : Naming)
    (names all : List (List ℕ))
    (answers : List Ruled)
    (name : List ℕ) (more : List (List ℕ)) (refusal : LedgerFault) → names ++ name ∷ more ≡ all
    → (was : Bool) (before : Book) (events : List Event) (is : Bool)
    → Then (ChoosesEach said withheld naming names answers None)
    (Chooses said withheld naming name (Err refusal)) was before events
    is
    → ChoosesEach said withheld naming all answers (Some refusal) was before events is
refused_after said withheld naming names all answers name more refusal whole was before events is
    both =
    subst (λ all. ChoosesEach said withheld naming all answers
    (Some refusal) was before events is) whole
    (subst (λ told. ChoosesEach said withheld naming (names ++ name ∷ more) told (Some refusal) was
    before events is)
    (append-nil answers)
    (choices_then said withheld naming names answers (name ∷ more) []
    (Some refusal) was before events is
    both))

-- a step of choices in a loop: one more was answered
pub choice_kept : (said : Option Note) (withheld : Bool) (old now new : Seen)
    (names : List (List ℕ))
    (answers told : List Ruled) (i : ℕ)
    (d : List ℕ) (ruled : Ruled) → i < length names → told ≡ answers ++ ruled ∷ []
    → IsTransition old now (ChoosesEach said withheld old.naming (take i names) answers None)
    → IsTransition now new (Chooses said withheld now.naming (get_or names i d) (Ok ruled))
    → IsTransition old new (ChoosesEach said withheld old.naming (take (i + 1) names) told None)
choice_kept said withheld old now new names answers told i d ruled small so before made =
    let name : List ℕ = get_or names i d in
    let made_so = subst (λ naming. IsTransition now new (Chooses said withheld naming name
    (Ok ruled)))
    before.naming
    made in
    let both = work_then old now new (ChoosesEach said withheld old.naming
    (take i names) answers None)
    (Chooses said withheld old.naming name (Ok ruled)) before made_so in
    work_as old new _ (ChoosesEach said withheld old.naming (take (i + 1) names) told None)
    (one_more_chosen said withheld old.naming (take i names) (take
    (i + 1) names) answers told name ruled
    (sym (take_more names i d small)) so) both

-- the next one was refused
pub choice_refused : (said : Option Note) (withheld : Bool) (old now new : Seen)
    (names : List (List ℕ))
    (answers : List Ruled) (i : ℕ) (d : List ℕ) (refusal : LedgerFault) → i < length names
    → IsTransition old now (ChoosesEach said withheld old.naming (take i names) answers None)
    → IsTransition now new (Chooses said withheld now.naming (get_or names i d) (Err refusal))
    → IsTransition old new (ChoosesEach said withheld old.naming names answers (Some refusal))
choice_refused said withheld old now new names answers i d refusal small before made =
    let name : List ℕ = get_or names i d in
    let later : List (List ℕ) = drop (i + 1) names in
    let whole : take i names ++ name ∷ later ≡ names =
    sym (append_assoc (take i names) (name ∷ []) later)
    ∙ ap (λ front. front ++ later) (sym (take_more names i d small))
    ∙ take-append-drop (i + 1) names in
    let made_so = subst (λ naming. IsTransition now new
    (Chooses said withheld naming name (Err refusal)))
    before.naming made in
    let both = work_then old now new (ChoosesEach said withheld old.naming
    (take i names) answers None)
    (Chooses said withheld old.naming name (Err refusal)) before made_so in
    work_as old new _ (ChoosesEach said withheld old.naming names answers (Some refusal))
    (refused_after said withheld old.naming (take i names) names answers name later refusal whole)
    both

-- choices make only events that the books answered
pub choices_answered : (said : Option Note) (withheld : Bool) (naming : Naming)
    (names : List (List ℕ))
    (answers : List Ruled) (refusal : Option LedgerFault)
    → MakesAnswered naming (ChoosesEach said withheld naming names answers refusal)
choices_answered said withheld naming [] [] None = none_answered naming
choices_answered said withheld naming [] [] (Some refusal) = λ book was events is never. absurd
    never
choices_answered said withheld naming [] (ruled ∷ answers) refusal =
    λ book was events is never. absurd never
choices_answered said withheld naming (name ∷ names) [] None = λ book was events is never. absurd
    never
choices_answered said withheld naming (name ∷ names) [] (Some refusal) =
    ruling_answered naming (λ ruled. ruled) said (choice_asked withheld name) (Err refusal)
choices_answered said withheld naming (name ∷ names) (ruled ∷ answers) refusal =
    then_answered naming (Chooses said withheld naming name (Ok ruled))
    (ChoosesEach said withheld naming names answers refusal)
    (ruling_answered naming (λ ruled. ruled) said (choice_asked withheld name) (Ok ruled))
    (choices_answered said withheld naming names answers refusal)

-- a refusal of open books is the one that the definitions say, unless memory or the store hindered it
refusal_done : (said : Option Note) (withheld : Bool) (naming : Naming) (name : List ℕ)
    (refusal : LedgerFault)
    (book : Book) (events : List Event) (is : Bool)
    → Chooses said withheld naming name (Err refusal) false book events is
    → are_hindered (Some refusal) ≡ false
    → ((named_outcome said withheld naming name book).answer ≡ Err refusal) × (events ≡ [])
refusal_done said withheld naming name Memory book events is called free = cc free
refusal_done said withheld naming name Store book events is called free = cc free
refusal_done said withheld naming name Reopen book events is called free =
    let no = called.reopens.reopen in cc no
refusal_done said withheld naming name refusal book events is called free = called.makes

-- what is said of choices by the answer to the first
choices_of : (outcome : Outcome Ruled) (book : Book) (later : Book → ChoicesOutcome)
    (told : Result Ruled LedgerFault) → outcome.answer ≡ told
    → choices_after outcome book later
    ≡ choices_by told (listed outcome.event) (later (after_all (listed outcome.event) book))
choices_of outcome book later told is =
    ap (λ told. choices_by told (listed outcome.event)
    (later (after_all (listed outcome.event) book))) is

-- choices of open books came to what the definitions say, unless memory or the store hindered one
pub choices_done : (said : Option Note) (withheld : Bool) (naming : Naming) (names : List (List ℕ))
    (answers : List Ruled) (refusal : Option LedgerFault) (book : Book) (events : List Event)
    (is : Bool)
    → ChoosesEach said withheld naming names answers refusal false book events is
    → are_hindered refusal ≡ false
    → choices_outcome said withheld naming names book
    ≡ record { answers = answers; refusal = refusal; events = events }
choices_done said withheld naming [] [] None book events is made free =
    ap (λ events. record { answers = []; refusal = None; events = events }) (sym made.none)
choices_done said withheld naming [] [] (Some refusal) book events is made free = absurd made
choices_done said withheld naming [] (ruled ∷ answers) refusal book events is made free = absurd
    made
choices_done said withheld naming (name ∷ names) [] None book events is made free = absurd made
choices_done said withheld naming (name ∷ names) [] (Some refusal) book events is made free =
    let done = refusal_done said withheld naming name refusal book events is made free in
    choices_of (named_outcome said withheld naming name book) book
    (choices_outcome said withheld naming names) (Err refusal) done.0
    ∙ ap (λ events. record { answers = []; refusal = Some refusal; events = events }) (sym done.1)
choices_done said withheld naming (name ∷ names) (ruled ∷ answers) refusal book events is made free
    =
    let outcome = named_outcome said withheld naming name book in
    let one = made.first in
    let still : made.between ≡ false = one.reopens.store in
    let middle : Book = after_all (listed outcome.event) book in
    let early : after_all made.early book ≡ middle =
    ap (λ events. after_all events book) one.makes.1 in
    let next = subst (λ book. ChoosesEach said withheld naming names answers refusal false book
    made.late
    is) early
    (subst (λ was. ChoosesEach said withheld naming names answers refusal was
    (after_all made.early book)
    made.late is)
    still made.next) in
    let rest = choices_done said withheld naming names answers refusal middle made.late is next
    free in
    choices_of outcome book (choices_outcome said withheld naming names) (Ok ruled) one.makes.0
    ∙ ap (choices_by (Ok ruled) (listed outcome.event)) rest
    ∙ ap (λ events. record { answers = ruled ∷ answers; refusal = refusal; events = events })
    (ap (λ event. made.late ++ event) (sym one.makes.1) ∙ sym made.all)
