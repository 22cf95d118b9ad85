-- Rulings of a day: the newest day is read, and then the ruling is asked for.
use Rattle.std.proofs.Common.{◌≡◌, ◌∙◌, Bool, false, List, [], ◌++◌, append-nil, refl, sym, ap}
use Rattle.std.proofs.Common.{subst, Option, None, Some, Result, Ok, Err, ◌⊎◌, inl, inr, ℕ, ℤ}
use Rattle.std.proofs.Common.{IsErrAnd}
use Rattle.std.proofs.lemmas.Result.{err_from_is_err_and}
use Rattle.streams.specs.InputOutput.{Input, ReaderSeen}
use Rattle.book_model.specs.declared.fault.LedgerFault.TheVariants.{Memory, Store, Reopen}
use Rattle.book_model.specs.Words.{Book, Event, Naming, Outcome, after_all}
use Rattle.book_core.specs.Words.{Calls, IsCall, Seen, IsTransition, Then}
use Rattle.book_core.proofs.TransitionLemmas.{work_then}
use Rattle.book_lists.proofs.ReadingLemmas.{IsReading, Tells, goes_on, read_as, read_then}
use Rattle.book_lists.proofs.WritingLemmas.{same_value}
use Rattle.book_reports.specs.declared.figures.OpenPeriod.{OpenPeriod}
use Rattle.book_reports.specs.Figures.{open_outcome}
use Rattle.office.specs.declared.request.Asked.TheVariants.{Rule}
use Rattle.office.specs.Requests.{Asks, Gives, IsAskableRuling, IsAskableUnread, no_dump}
use Rattle.named_books.specs.Shelves.{IsThere}
use Rattle.chargectl.specs.declared.dated_rulings.DatedAnswer.{DatedAnswer}
use Rattle.chargectl.specs.declared.far.RulingDay.{RulingDay}
use Rattle.chargectl.specs.Commands.{AsksDated, AsksDatedBy, AsksOnceBy, answer_told}
use Rattle.chargectl.specs.Far.{day_asked, far_on_outcome, far_outcome, is_far_asked, is_far_on}
use Rattle.chargectl.specs.Far.{notice_by}
use Rattle.chargectl.proofs.Words.{LedgerFault, work_as, RepositoryFault, Unseen, Answer, Asked}
use Rattle.chargectl.proofs.Words.{response_by, IsDoneTo, IsOpened, Shelf, done_as}

-- a ruling may be asked for with any reader
pub ruling_unread : (asked : Asked) → IsAskableRuling asked → IsAskableUnread asked
ruling_unread (Rule ruling said) may = may
ruling_unread asked may = absurd may

-- ---- what is read

-- without memory for what is made of it, a call that was answered is one without memory
pub memory_gone : {V A U B : Type 0} {view : V → A} {show : U → B} {old new : Seen} {value : V}
    {outcome : Book → Outcome A} {other : Book → Outcome B} (result : Result U LedgerFault)
    (fault : LedgerFault) → IsErrAnd result (λ given. given ≡ fault) → fault ≡ Memory
    → IsReading outcome → IsReading other → IsCall view old new (Ok value) outcome
    → IsCall show old new result other
memory_gone result fault is memory none no_other call =
    let failed = err_from_is_err_and result is in
    rw (failed.1, failed.2, memory)
    (read_as none no_other (record { reopen = refl; store = refl }) (λ book said. tt) call)

-- the day is far from the book whose open period was read
far_at : (today : Option ℤ) (asked : Asked) (day : Option RulingDay) (period : OpenPeriod)
    (book : Book) → day ≡ day_asked today asked → (open_outcome book).answer ≡ Ok period
    → is_far_on period day book ≡ is_far_asked today asked book
far_at today asked day period book is early =
    ap (λ day. is_far_on period day book) is
    ∙ ap (λ period. is_far_on period (day_asked today asked) book) (sym (same_value early))

-- the open period was read, and then its rows
pub far_read : {old mid new : Seen} (today : Option ℤ) (asked : Asked) (day : Option RulingDay)
    (period : OpenPeriod) (result : Result Bool LedgerFault) → day ≡ day_asked today asked
    → IsCall (λ (found : OpenPeriod). found) old mid (Ok period) open_outcome
    → IsCall (λ (far : Bool). far) mid new result (far_on_outcome period day)
    → IsCall (λ (far : Bool). far) old new result (far_outcome today asked)
far_read today asked day period result is one next =
    read_then (λ book. refl) (λ book. refl) (λ book. refl) (record { reopen = refl; store = refl })
    (λ book early. subst (Tells (λ (far : Bool). far) result)
    (ap Ok (far_at today asked day period book is early))) one next

-- ---- what is asked for

-- the newest day was read, which is no event, and then the ruling was asked for
dated_of : (naming : Naming) (today : Option ℤ) (asked : Asked) (far : Bool)
    (told : Result Answer LedgerFault)
    (was : Bool) (before : Book) (events : List Event) (is : Bool)
    → Then (Calls (λ (far : Bool). far) (far_outcome today asked) (Ok far))
    (AsksOnceBy naming asked (Some []) told) was before events is
    → AsksDated naming today asked (response_by told) (notice_by far (response_by told)) was before
    events is
dated_of naming today asked far told was before events is both =
    let early : both.early ≡ [] = both.first.makes.1 in
    let open_still : both.between ≡ was = goes_on far was both.between both.first.reopens in
    let same : is_far_asked today asked before ≡ far = same_value both.first.makes.0 in
    let all : events ≡ both.late = both.all ∙ ap (λ early. both.late ++ early) early
    ∙ append-nil both.late in
    let next : AsksOnceBy naming asked (Some []) told was before both.late is =
    subst (λ between. AsksOnceBy naming asked (Some []) told between before both.late is) open_still
    (subst (λ early. AsksOnceBy naming asked (Some []) told both.between (after_all early before)
    both.late is) early both.next) in
    record {
      once = subst (λ events. AsksOnceBy naming asked (Some []) told was before events is) (sym all)
          next;
      notice = ap (λ far. notice_by far (response_by told)) (sym same);
    }

-- what was read, and then asked for, as one piece of work
pub looked_first : (old mid new : Seen) (today : Option ℤ) (asked : Asked) (far : Bool)
    (told : Result Answer LedgerFault)
    → IsCall (λ (far : Bool). far) old mid (Ok far) (far_outcome today asked)
    → IsTransition mid new (AsksOnceBy mid.naming asked (Some []) told)
    → IsTransition old new (Then (Calls (λ (far : Bool). far) (far_outcome today asked) (Ok far))
    (AsksOnceBy old.naming asked (Some []) told))
looked_first old mid new today asked far told one next =
    (work_then old mid new (Calls (λ (far : Bool). far) (far_outcome today asked) (Ok far))
    (AsksOnceBy old.naming asked (Some []) told) one.work
    (subst (λ naming. IsTransition mid new (AsksOnceBy naming asked (Some []) told)) one.work.naming
    next))

pub asked_dated : (old mid new : Seen) (today : Option ℤ) (asked : Asked) (far : Bool)
    (told : Result Answer LedgerFault)
    → IsCall (λ (far : Bool). far) old mid (Ok far) (far_outcome today asked)
    → IsTransition mid new (AsksOnceBy mid.naming asked (Some []) told)
    → IsTransition old new
    (AsksDated old.naming today asked (response_by told) (notice_by far (response_by told)))
asked_dated old mid new today asked far told one next =
    work_as old new
    (Then (Calls (λ (far : Bool). far) (far_outcome today asked) (Ok far))
    (AsksOnceBy old.naming asked (Some []) told))
    (AsksDated old.naming today asked (response_by told) (notice_by far (response_by told)))
    (dated_of old.naming today asked far told)
    (looked_first old mid new today asked far told one next)

-- where the newest day could not be read, no call of the ledger can be answered
unread : {A : Type 0} (outcome : Book → Outcome A) (today : Option ℤ) (asked : Asked)
    (fault : LedgerFault) (was : Bool) (before : Book) (events : List Event) (is : Bool)
    → Calls (λ (far : Bool). far) (far_outcome today asked) (Err fault) was before events is
    → Calls (λ (told : A). told) outcome (Err fault) was before events is
unread outcome today asked Memory was before events is called = record {
  makes = called.makes;
  reopens = record { reopen = called.reopens.reopen; store = called.reopens.store };
}
unread outcome today asked Store was before events is called = record {
  makes = inl (either_way called.makes);
  reopens = record { reopen = called.reopens.reopen; store = called.reopens.store };
}
  where
    either_way : {events : List Event} → (events ≡ []) ⊎ (events ≡ []) → events ≡ []
    either_way (inl is) = is
    either_way (inr is) = is
unread outcome today asked Reopen was before events is called = record {
  makes = called.makes;
  reopens = record { reopen = called.reopens.reopen; store = called.reopens.store };
}
unread outcome today asked fault was before events is called = cc called.makes.0

-- a reader that nobody asks
abbrev no_reader : ReaderSeen
no_reader = record { left = Some []; reads = 0; has_failed = false; has_ended = false }

abbrev no_input : Input
no_input = record { old = no_reader; new = no_reader }

-- nothing was asked for, since the newest day could not be read
not_asked_for : (naming : Naming) (today : Option ℤ) (asked : Asked) (fault : LedgerFault)
    (was : Bool) (before : Book) (events : List Event) (is : Bool)
    → Gives asked no_dump (Err fault) no_input
    → Asks naming asked no_dump (Err fault) was before events is
    → AsksDated naming today asked (Err fault) None was before events is
not_asked_for naming today asked fault was before events is given made = record {
  once = record { dump = no_dump; input = no_input; begun = refl; given = given; made = made };
  notice = refl;
}

pub failed_of : (naming : Naming) (today : Option ℤ) (asked : Asked) (fault : LedgerFault)
    → IsAskableRuling asked → (was : Bool) (before : Book) (events : List Event) (is : Bool)
    → Calls (λ (far : Bool). far) (far_outcome today asked) (Err fault) was before events is
    → AsksDated naming today asked (Err fault) None was before events is
failed_of naming today (Rule ruling said) fault may was before events is called =
    not_asked_for naming today (Rule ruling said) fault was before events is
    (record { is = refl; same = refl })
    (unread _ today (Rule ruling said) fault was before events is called)
failed_of naming today asked fault may was before events is called = absurd may

pub failed_dated : (old new : Seen) (today : Option ℤ) (asked : Asked) (fault : LedgerFault)
    → IsAskableRuling asked
    → IsCall (λ (far : Bool). far) old new (Err fault) (far_outcome today asked)
    → IsTransition old new (AsksDated old.naming today asked (Err fault) None)
failed_dated old new today asked fault may call =
    work_as old new (Calls (λ (far : Bool). far) (far_outcome today asked) (Err fault))
    (AsksDated old.naming today asked (Err fault) None) (failed_of old.naming today asked fault may)
    call.work

-- what was done to books to ask for a ruling of a day is that it was asked for
once_done : (today : Option ℤ) (asked : Asked) (book : List ℕ) (old new : Shelf)
    (dated : DatedAnswer) → IsDoneTo book (AsksDatedBy old.naming today asked dated) old new
    → IsDoneTo book (AsksOnceBy old.naming asked (Some []) dated.answer) old new
once_done today asked book old new dated done =
    done_as book (AsksDatedBy old.naming today asked dated)
    (AsksOnceBy old.naming asked (Some []) dated.answer) old new
    (λ before events is made. made.once)
    done

-- whatever is told of it, there are such books, or the name is still free
pub there_told : (book : List ℕ) (old new : Shelf) (told : Result DatedAnswer RepositoryFault)
    → IsThere book old new told → IsThere book old new (answer_told told)
there_told book old new (Ok dated) there = there
there_told book old new (Err fault) there = there

-- books that were opened for a ruling of a day were opened to ask for it
pub once_opened : (today : Option ℤ) (asked : Asked) (book : List ℕ) (old new : Shelf)
    (told : Result DatedAnswer RepositoryFault)
    → IsOpened (AsksDatedBy old.naming today asked) book old new told
    → IsOpened (AsksOnceBy old.naming asked (Some [])) book old new (answer_told told)
once_opened today asked book old new (Ok dated) done = once_done today asked book old new dated done
once_opened today asked book old new (Err Unseen) (refused, inl seen) =
    (refused, inl (seen.0.answer, once_done today asked book old new seen.0 seen.1))
once_opened today asked book old new (Err Unseen) (refused, inr none) = (refused, inr none)
once_opened today asked book old new (Err fault) none = none
