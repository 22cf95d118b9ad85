-- One request to the books, as work.
use Rattle.std.proofs.Common.{◌≡◌, Bool, List, Result, Ok, Err, sym, ap, subst}
use Rattle.std.proofs.Props.{props}
use Rattle.streams.specs.InputOutput.{ReaderSeen, Input}
use Rattle.book_model.specs.declared.fault.LedgerFault.{LedgerFault}
use Rattle.book_model.specs.declared.fault.LedgerFault.TheVariants.{Memory, Store, Reopen}
use Rattle.book_model.specs.Words.{Book, CloseAsked, CreditAsked, Event, MayBeAsked, Outcome}
use Rattle.book_model.specs.Words.{RulingAsked}
use Rattle.book_core.specs.Calls.{Calls}
use Rattle.book_core.specs.Ledgers.{Seen, Books}
use Rattle.book_core.specs.Transition.{IsTransition}
use Rattle.book_core.proofs.TransitionLemmas.{work_as}
use Rattle.book_reports.specs.BookTexts.{shown_by}
use Rattle.office.specs.declared.request.Asked.{Asked}
use Rattle.office.specs.declared.request.Asked.TheVariants.{Import, Rule}
use Rattle.office.specs.declared.request.Answer.{Answer}
use Rattle.office.specs.Requests.{Dump, Response, response_outcome, response_by, IsAskable, IsAskableUnread, Gives, Asks}
use Rattle.office.specs.Requests.{IsAskableRuling, IsAsked, ruling_of}
use Rattle.office.specs.Runs.{IsAskableWithoutReader}

-- a call of the ledger, as an answer
pub calls_told : {V A : Type 0} (view : V → A) (say : A → Response) (outcome : Book → Outcome A)
    (result : Result V LedgerFault) (was : Bool) (before : Book) (events : List Event) (is : Bool)
    → Calls view outcome result was before events is
    → Calls (λ told. told) (response_outcome say outcome) (shown_by
    (λ value. say (view value)) result)
    was before events is
calls_told view say outcome (Ok value) was before events is called = record {
  makes = (ap (shown_by say) called.makes.0, called.makes.1);
  reopens = record { reopen = called.reopens.reopen; store = called.reopens.store };
}
calls_told view say outcome (Err Memory) was before events is called = record {
  makes = called.makes;
  reopens = record { reopen = called.reopens.reopen; store = called.reopens.store };
}
calls_told view say outcome (Err Store) was before events is called = record {
  makes = called.makes;
  reopens = record { reopen = called.reopens.reopen; store = called.reopens.store };
}
calls_told view say outcome (Err Reopen) was before events is called = record {
  makes = called.makes;
  reopens = record { reopen = called.reopens.reopen; store = called.reopens.store };
}
calls_told view say outcome (Err fault) was before events is called = record {
  makes = (ap (shown_by say) called.makes.0, called.makes.1);
  reopens = record { reopen = called.reopens.reopen; store = called.reopens.store };
}

-- so is the work of a request
pub work_told : {V A : Type 0} {old new : Seen} {view : V → A} (say : A → Response)
    {outcome : Book → Outcome A} {result : Result V LedgerFault} {told : Result Response
    LedgerFault}
    → told ≡ shown_by (λ value. say (view value)) result
    → IsTransition old new (Calls view outcome result)
    → IsTransition old new (Calls (λ told. told) (response_outcome say outcome) told)
work_told {old = old} {new = new} {view = view} say {outcome = outcome} {result = result}
    {told = told} is work =
    subst (λ told. IsTransition old new (Calls (λ told. told) (response_outcome say outcome) told))
    (sym is)
    (work_as old new (Calls view outcome result) _ (calls_told view say outcome result) work)

module _ {old new : Seen} {asked : Asked} {answer : Result Answer LedgerFault} {reader : ReaderSeen}
  where
    -- a request that reads nothing
    pub unread : (dump : Dump)
        → Gives asked dump (response_by answer) (record { old = reader; new = reader })
        → IsTransition old new (Asks old.naming asked dump (response_by answer))
        → IsAsked asked answer (record { old = old; new = new })
        (record { old = reader; new = reader })
    unread dump given work = record { dump = dump; given = given; work = work }

pub as_asked : {books : Books} {asked : Asked} {answer : Result Answer LedgerFault} (same : Asked)
    {input : Input} → asked ≡ same → IsAsked same answer books input
    → IsAsked asked answer books input
as_asked {books = books} {answer = answer} same {input = input} is done =
    subst (λ asked. IsAsked asked answer books input) (sym is) done

-- there is at most one proof that a ruling may be asked for,
asked_once : (ruling : RulingAsked) → IsProp (MayBeAsked ruling)
asked_once (CloseAsked period through) = hlevel props
asked_once (CreditAsked period centre amount reason) = hlevel props
asked_once other = hlevel props

-- nor more than one that it may be asked,
pub askable_once : (asked : Asked) → IsProp (IsAskableUnread asked)
askable_once (Rule ruling said) = asked_once (ruling_of ruling)
askable_once other = hlevel props

-- nor more than one that it is a ruling that may be
pub ruling_once : (asked : Asked) → IsProp (IsAskableRuling asked)
ruling_once (Rule ruling said) = asked_once (ruling_of ruling)
ruling_once other = hlevel props

-- a ruling may be asked with no reader at hand
pub ruling_alone : (asked : Asked) → IsAskableRuling asked → IsAskableWithoutReader asked
ruling_alone (Rule ruling said) may = may
ruling_alone other may = absurd may

-- it may be asked whatever reader is at hand
pub askable_with : (asked : Asked) (reader : ReaderSeen) → IsAskableWithoutReader asked
    → IsAskable asked reader
askable_with (Rule ruling said) reader alone = alone
askable_with (Import layout said) reader alone = absurd alone
askable_with other reader alone = tt
