-- Records that are submitted together.
use Rattle.std.proofs.Common.{◌≡◌, ◌∙◌, ◌<◌, ℕ, Bool, true, false, List, [], ◌∷◌, ◌++◌, length}
use Rattle.std.proofs.Common.{refl, sym, ap, subst, Result, Ok, Err, ◌⊎◌, inl, inr, Vec, Global}
use Rattle.std.proofs.Common.{arith, drop, get_or, take, ◌||◌, true≢false, take-append-drop, All}
use Rattle.std.proofs.Common.{◌==◌, Option, Some, None, append-nil}
use Rattle.std.proofs.lemmas.List.{map-append}
use Rattle.std.proofs.lemmas.List.Elements.{All-cons, All-nil}
use Rattle.book_model.specs.declared.answer.Accepted.{Accepted}
use Rattle.book_model.specs.declared.answer.Accepted.TheVariants.{Kept, Known, Unpriced}
use Rattle.book_model.specs.declared.fault.LedgerFault.{LedgerFault}
use Rattle.book_model.specs.declared.fault.LedgerFault.TheVariants.{Memory, Reopen, Store}
use Rattle.book_model.specs.declared.note.Share.{Share}
use Rattle.book_model.specs.declared.note.Stop.{Stop}
use Rattle.book_model.specs.JournalLaws.{unjournaled}
use Rattle.book_model.specs.Words.{Book, Event, Naming, accept_outcome, accept_answer, accept_event}
use Rattle.book_model.specs.Words.{AreMadeOf, ImportBegun, ImportEnded, ImportRead, IsUsageRecord}
use Rattle.book_model.specs.Words.{Note, PeriodClosed, Reading, RecordKept, RulingGiven, after_all}
use Rattle.book_model.specs.Words.{keep, note_shown, read_with, reading_shown, told, told_by}
use Rattle.book_model.specs.Words.{told_end}
use Rattle.book_core.specs.Calls.{Calls, IsCall, Reopens, listed}
use Rattle.book_core.specs.Follow.{MakesAnswered}
use Rattle.book_core.specs.Ledgers.{Seen}
use Rattle.book_core.specs.Submissions.{Accepts, AcceptsOf, KeepsFirst, Takes, TakesOf, first_of}
use Rattle.book_core.specs.Submissions.{records_in}
use Rattle.book_core.specs.Transition.{IsTransition}
use Rattle.book_core.proofs.ThenLemmas.{nothing_more, then_nothing}
use Rattle.book_core.proofs.TransitionLemmas.{Implies, wanting, failed, to_reopen, refused, fails}
use Rattle.book_core.proofs.TransitionLemmas.{work_as}

-- ---- the first of them

-- the bytes of the first
pub first_is : (records : List (Vec ℕ Global)) (found : Vec ℕ Global) → 0 < length records
    → found ≡ get_or records 0 found → first_of (records_in records) ≡ found.items
first_is [] found some is = absurd (omega arith)
first_is (one ∷ rest) found some is = sym (ap (λ (one : Vec ℕ Global). one.items) is)

-- where there are records, there are bytes of records
pub some_in : (records : List (Vec ℕ Global)) → 0 < length records
    → 0 < length (records_in records)
some_in [] some = absurd (omega arith)
some_in (one ∷ rest) some = omega arith

-- ---- a change that takes one record

-- one record was accepted
pub accepts_one : (naming : Naming) (records : List (List ℕ)) (answer : Accepted)
    → 0 < length records
    → Implies (Calls (λ (accepted : Accepted). accepted) (accept_outcome naming (first_of records))
    (Ok answer)) (Accepts naming records (answer ∷ []))
accepts_one naming [] answer some was before events is called = absurd (omega arith)
accepts_one naming (bytes ∷ rest) answer some was before events is called =
    nothing_more (Calls (λ (accepted : Accepted). accepted) (accept_outcome naming bytes)
    (Ok answer)) was before events is called

-- the store failed, and the event of the first record was made, if its answer makes one
first_kept : (naming : Naming) (records : List (List ℕ)) (before : Book) (events : List Event)
    (answer : Result Accepted LedgerFault) → 0 < length records
    → accept_answer naming before (first_of records) ≡ answer
    → events ≡ listed (accept_event (first_of records) (accept_answer naming before (first_of records)))
    → KeepsFirst naming records false before events true
first_kept naming records before events (Ok answer) some is made = record {
  was_open = refl;
  closed = refl;
  answers = answer ∷ [];
  kept = accepts_one naming records answer some false before events false (record {
    makes = (is, made);
    reopens = record { reopen = refl; store = refl };
  });
}
first_kept naming records before events (Err fault) some is made = record {
  was_open = refl;
  closed = refl;
  answers = [];
  kept = record {
    none = made ∙ ap (λ answer. listed (accept_event (first_of records) answer)) is;
    same = refl;
  };
}

-- the store of open books failed, before or after the event of the first record
store_keeps : (naming : Naming) (records : List (List ℕ)) (was : Bool) (before : Book)
    (events : List Event) (is : Bool) → 0 < length records → was ≡ false → is ≡ true
    → (events ≡ []) ⊎ (events ≡ listed (accept_outcome naming (first_of records) before).event)
    → KeepsFirst naming records was before events is
store_keeps naming records was before events is some opened closed (inl none) = record {
  was_open = opened;
  closed = closed;
  answers = [];
  kept = record { none = none; same = refl };
}
store_keeps naming records was before events is some opened closed (inr made) =
    let keeps = first_kept naming records before events
    (accept_answer naming before (first_of records)) some refl made in
    record { was_open = opened; closed = closed; answers = keeps.answers; kept = keeps.kept }

-- the first record was refused in a call of its own
pub refused_one : (naming : Naming) (records : List (List ℕ)) (fault : LedgerFault)
    → 0 < length records
    → Implies (Calls (λ (accepted : Accepted). accepted) (accept_outcome naming (first_of records))
    (Err fault)) (Takes naming records (Err fault))
refused_one naming records Store some was before events is called =
    elim (fails (λ (accepted : Accepted). accepted) (accept_outcome naming (first_of records)) Store
    was before events is called) [
      | wanting memory none same ↦ absurd (cc)
      | failed store opened closed either ↦
          store_keeps naming records was before events is some opened closed either
      | to_reopen reopen opened closed none ↦ absurd (cc)
      | refused answer opened closed none ↦
          absurd (true≢false (sym (called.reopens.store ∙ ap (λ b. b || true) opened) ∙ closed))
    ]
refused_one naming records fault some was before events is called = called

-- ---- a change that is handed the first of some records

-- what was accepted of the first records was accepted of all
pub accepts_further : (naming : Naming) (early later : List (List ℕ)) (answers : List Accepted)
    → Implies (Accepts naming early answers) (Accepts naming (early ++ later) answers)
accepts_further naming early later [] was before events is accepts = accepts
accepts_further naming [] later (answer ∷ rest) was before events is accepts = absurd accepts
accepts_further naming (bytes ∷ early) later (answer ∷ rest) was before events is accepts = record {
  between = accepts.between;
  early = accepts.early;
  late = accepts.late;
  first = accepts.first;
  next = accepts_further naming early later rest accepts.between (after_all accepts.early before)
      accepts.late is accepts.next;
  all = accepts.all;
}

-- the first of them is the first of all
pub first_further : (early later : List (List ℕ)) → 0 < length early
    → first_of early ≡ first_of (early ++ later)
first_further [] later some = absurd (omega arith)
first_further (bytes ∷ rest) later some = refl

-- what the change took of the first records it took of all
takes_further : (naming : Naming) (early later : List (List ℕ))
    (result : Result (Vec Accepted Global) LedgerFault) → 0 < length early
    → Implies (Takes naming early result) (Takes naming (early ++ later) result)
takes_further naming early later (Ok answers) some was before events is takes =
    accepts_further naming early later answers.items was before events is takes
takes_further naming early later (Err Store) some was before events is takes = record {
  was_open = takes.was_open;
  closed = takes.closed;
  answers = takes.answers;
  kept = accepts_further naming early later takes.answers false before events false takes.kept;
}
takes_further naming early later (Err fault) some was before events is takes =
    subst (λ bytes. Calls (λ (accepted : Accepted). accepted) (accept_outcome naming bytes)
    (Err fault) was before events is) (first_further early later some) takes

-- So a change that is handed the first of some records takes some first of all.
pub takes_part : (naming : Naming) (records : List (Vec ℕ Global)) (count : ℕ)
    (part : List (Vec ℕ Global)) (result : Result (Vec Accepted Global) LedgerFault)
    → part ≡ take count records → 0 < length part
    → Implies (Takes naming (records_in part) result) (Takes naming (records_in records) result)
takes_part naming records count part result is_part some was before events is takes =
    subst (λ all. Takes naming all result was before events is)
    (sym (map-append (λ (one : Vec ℕ Global). one.items) part (drop count records))
    ∙ ap (λ part. records_in (part ++ drop count records)) is_part
    ∙ ap records_in (take-append-drop count records))
    (takes_further naming (records_in part) (records_in (drop count records)) result
    (some_in part some) was before events is takes)

-- ---- a change that is handed one record alone

-- there is one,
pub alone_some : (records : List (Vec ℕ Global)) (bytes : List ℕ)
    → records_in records ≡ bytes ∷ [] → 0 < length records
alone_some [] bytes is = absurd (cc is)
alone_some (one ∷ rest) bytes is = omega arith

-- and that is it
pub alone_usage : (records : List (Vec ℕ Global)) (bytes : List ℕ)
    → records_in records ≡ bytes ∷ [] → IsUsageRecord bytes
    → All (λ (one : Vec ℕ Global). IsUsageRecord one.items) records
alone_usage [] bytes is usage = absurd (cc is)
alone_usage (one ∷ []) bytes is usage =
    let IsOne : Vec ℕ Global → Type 0 = λ one. IsUsageRecord one.items in
    All-cons IsOne one [] (subst IsUsageRecord (sym (ap first_of is)) usage) (All-nil IsOne)
alone_usage (one ∷ other ∷ rest) bytes is usage = absurd (cc is)

-- what was answered to it was answered in a call of its own,
accepts_alone : (naming : Naming) (bytes : List ℕ) (answer : Accepted) (later : List Accepted)
    → Implies (Accepts naming (bytes ∷ []) (answer ∷ later))
    (Calls (λ (accepted : Accepted). accepted) (accept_outcome naming bytes) (Ok answer))
accepts_alone naming bytes answer [] was before events is accepts =
    then_nothing
    (Calls (λ (accepted : Accepted). accepted) (accept_outcome naming bytes) (Ok answer)) was before
    events is accepts
accepts_alone naming bytes answer (other ∷ later) was before events is accepts =
    absurd accepts.next

-- where the store failed, its event was made, or none,
kept_alone : (naming : Naming) (bytes : List ℕ) (answers : List Accepted) (before : Book)
    (events : List Event) → Accepts naming (bytes ∷ []) answers false before events false
    → (events ≡ []) ⊎ (events ≡ listed (accept_outcome naming bytes before).event)
kept_alone naming bytes [] before events accepts = inl accepts.none
kept_alone naming bytes (answer ∷ later) before events accepts =
    let called = accepts_alone naming bytes answer later false before events false accepts in
    inr called.makes.1

-- and what refused it refused that call
refused_alone : (naming : Naming) (bytes : List ℕ) (fault : LedgerFault)
    → Implies (Takes naming (bytes ∷ []) (Err fault))
    (Calls (λ (accepted : Accepted). accepted) (accept_outcome naming bytes) (Err fault))
refused_alone naming bytes Store was before events is keeps = record {
  makes = kept_alone naming bytes keeps.answers before events keeps.kept;
  reopens = record {
    reopen = sym keeps.was_open;
    store = keeps.closed ∙ ap (λ was. was || true) (sym keeps.was_open);
  };
}
refused_alone naming bytes fault was before events is takes = takes

-- a fault says the same of any call about whether books are to be reopened
pub reopens_as : (V W : Type 0) (fault : LedgerFault) (was is : Bool)
    → Reopens {V = V} (Err fault) was is → Reopens {V = W} (Err fault) was is
reopens_as V W Memory was is reopens =
    record { reopen = reopens.reopen; store = reopens.store }
reopens_as V W Store was is reopens =
    record { reopen = reopens.reopen; store = reopens.store }
reopens_as V W Reopen was is reopens =
    record { reopen = reopens.reopen; store = reopens.store }
reopens_as V W fault was is reopens =
    record { reopen = reopens.reopen; store = reopens.store }

-- So a change that is handed one record alone is a call of its own.
module _ {old new : Seen} (naming : Naming) (bytes : List ℕ) where
  pub called_alone : (answers : Vec Accepted Global) (answer : Accepted) (later : List Accepted)
      → answers.items ≡ answer ∷ later
      → IsTransition old new (Takes naming (bytes ∷ []) (Ok answers))
      → Reopens {V = Vec Accepted Global} (Ok answers) old.must_reopen new.must_reopen
      → IsCall (λ (accepted : Accepted). accepted) old new (Ok answer)
      (accept_outcome naming bytes)
  called_alone answers answer later first work reopens = record {
    work = work_as old new (Accepts naming (bytes ∷ []) (answer ∷ later))
        (Calls (λ (accepted : Accepted). accepted) (accept_outcome naming bytes) (Ok answer))
        (accepts_alone naming bytes answer later)
        (subst (λ answers. IsTransition old new (Accepts naming (bytes ∷ []) answers)) first work);
    reopens = record { reopen = reopens.reopen; store = reopens.store };
  }

  pub refusal_alone : (fault : LedgerFault)
      → IsTransition old new (Takes naming (bytes ∷ []) (Err fault))
      → Reopens {V = Vec Accepted Global} (Err fault) old.must_reopen new.must_reopen
      → IsCall (λ (accepted : Accepted). accepted) old new (Err fault)
      (accept_outcome naming bytes)
  refusal_alone fault work reopens = record {
    work = work_as old new (Takes naming (bytes ∷ []) (Err fault))
        (Calls (λ (accepted : Accepted). accepted) (accept_outcome naming bytes) (Err fault))
        (refused_alone naming bytes fault) work;
    reopens = reopens_as (Vec Accepted Global) Accepted fault old.must_reopen new.must_reopen reopens;
  }

-- ---- what an import says of itself

-- with no word of an import, a change takes what it takes of records alone,
pub without_import : (naming : Naming) (records : List (List ℕ))
    (result : Result (Vec Accepted Global) LedgerFault)
    → Implies (Takes naming records result) (TakesOf naming None records result)
without_import naming records (Ok answers) was before events is takes =
    record { kept = events; accepts = takes; told = refl }
without_import naming records (Err Store) was before events is takes = record {
  was_open = takes.was_open;
  closed = takes.closed;
  answers = takes.answers;
  kept = record { kept = events; accepts = takes.kept; told = refl };
}
without_import naming records (Err fault) was before events is takes = takes

-- and no more
pub of_no_import : (naming : Naming) (records : List (List ℕ))
    (result : Result (Vec Accepted Global) LedgerFault)
    → Implies (TakesOf naming None records result) (Takes naming records result)
of_no_import naming records (Ok answers) was before events is takes =
    subst (λ made. Accepts naming records answers.items was before made is) (sym takes.told)
    takes.accepts
of_no_import naming records (Err Store) was before events is takes = record {
  was_open = takes.was_open;
  closed = takes.closed;
  answers = takes.answers;
  kept = subst (λ made. Accepts naming records takes.answers false before made false)
      (sym takes.kept.told) takes.kept.accepts;
}
of_no_import naming records (Err fault) was before events is takes = takes

-- it says nothing where none was kept
no_end : (ending : Option Stop) (whole : Bool) → told_end ending whole [] ≡ []
no_end None whole = refl
no_end (Some stop) true = refl
no_end (Some stop) false = refl

pub none_told : (import : Option Share) (whole : Bool) (answers : List Accepted)
    → told_by import whole answers [] ≡ []
none_told None whole answers = refl
none_told (Some share) whole answers = no_end share.ending whole

-- the events of records that were kept
abbrev pub AreKept : List Event → Type 0
AreKept [] = Unit {0}
AreKept (RecordKept bytes ∷ older) = AreKept older
AreKept (event ∷ older) = ⊥

both_kept : (late early : List Event) → AreKept late → AreKept early → AreKept (late ++ early)
both_kept [] early of_late of_early = of_early
both_kept (RecordKept bytes ∷ late) early of_late of_early = both_kept late early of_late of_early
both_kept (PeriodClosed said day ∷ late) early of_late of_early = absurd of_late
both_kept (RulingGiven said ruling ∷ late) early of_late of_early = absurd of_late
both_kept (ImportBegun note ∷ late) early of_late of_early = absurd of_late
both_kept (ImportRead reading ∷ late) early of_late of_early = absurd of_late
both_kept (ImportEnded ending ∷ late) early of_late of_early = absurd of_late

-- an answer to a record keeps that one, or none
pub one_kept : (bytes : List ℕ) (answer : Result Accepted LedgerFault)
    → AreKept (listed (accept_event bytes answer))
one_kept bytes (Ok Kept) = tt
one_kept bytes (Ok Known) = tt
one_kept bytes (Ok Unpriced) = tt
one_kept bytes (Err fault) = tt

-- so do the answers to some
pub all_kept : (naming : Naming) (records : List (List ℕ)) (answers : List Accepted) (was : Bool)
    (before : Book) (events : List Event) (is : Bool)
    → Accepts naming records answers was before events is → AreKept events
all_kept naming records [] was before events is accepts = subst AreKept (sym accepts.none) tt
all_kept naming [] (answer ∷ later) was before events is accepts = absurd accepts
all_kept naming (bytes ∷ rest) (answer ∷ later) was before events is accepts =
    subst AreKept (sym accepts.all)
    (both_kept accepts.late accepts.early
    (all_kept naming rest later accepts.between (after_all accepts.early before) accepts.late is
    accepts.next)
    (subst AreKept (sym accepts.first.makes.1) (one_kept bytes (accept_answer naming before bytes))))

-- records that calls keep are kept so where an import has begun before them
begun_too : (naming : Naming) (note : Note) (kept : List Event) (book : Book) → AreKept kept
    → AreMadeOf naming book kept → AreMadeOf naming book (kept ++ ImportBegun note ∷ [])
begun_too naming note [] book all made = (tt, tt)
begun_too naming note (RecordKept bytes ∷ kept) book all made = (
  ap (λ (left : Book). accept_answer naming left bytes) (beside kept book note all) ∙ made.0,
  begun_too naming note kept book all made.1,
)
  where
    beside : (kept : List Event) (book : Book) (note : Note) → AreKept kept
        → unjournaled (after_all (kept ++ ImportBegun note ∷ []) book)
        ≡ unjournaled (after_all kept book)
    beside [] book note all = refl
    beside (RecordKept bytes ∷ kept) book note all =
        ap (λ before. unjournaled (keep bytes before)) (beside kept book note all)
    beside (PeriodClosed said day ∷ kept) book note all = absurd all
    beside (RulingGiven said ruling ∷ kept) book note all = absurd all
    beside (ImportBegun other ∷ kept) book note all = absurd all
    beside (ImportRead reading ∷ kept) book note all = absurd all
    beside (ImportEnded ending ∷ kept) book note all = absurd all
begun_too naming note (PeriodClosed said day ∷ kept) book all made = absurd all
begun_too naming note (RulingGiven said ruling ∷ kept) book all made = absurd all
begun_too naming note (ImportBegun other ∷ kept) book all made = absurd all
begun_too naming note (ImportRead reading ∷ kept) book all made = absurd all
begun_too naming note (ImportEnded ending ∷ kept) book all made = absurd all

-- and so is all that an import says with them
all_told : (naming : Naming) (note : Note) (begun : Bool) (reading : Reading) (kept : List Event)
    (book : Book) → AreKept kept → AreMadeOf naming book kept
    → AreMadeOf naming book (told note begun reading kept)
all_told naming note begun reading [] book all made = made
all_told naming note true reading (newest ∷ earlier) book all made =
    (tt, subst (AreMadeOf naming book) (sym (append-nil (newest ∷ earlier))) made)
all_told naming note false reading (newest ∷ earlier) book all made =
    (tt, begun_too naming note (newest ∷ earlier) book all made)

end_told : (naming : Naming) (stop : Option Stop) (whole : Bool) (events : List Event)
    (book : Book) → AreMadeOf naming book events
    → AreMadeOf naming book (told_end stop whole events)
end_told naming None whole events book made = made
end_told naming (Some stop) false events book made = made
end_told naming (Some stop) true [] book made = made
end_told naming (Some stop) true (newest ∷ earlier) book made = (tt, made)

told_answered : (naming : Naming) (import : Option Share) (whole : Bool) (answers : List Accepted)
    (kept : List Event) (book : Book) → AreKept kept → AreMadeOf naming book kept
    → AreMadeOf naming book (told_by import whole answers kept)
told_answered naming None whole answers kept book all made = made
told_answered naming (Some share) whole answers kept book all made =
    end_told naming share.ending whole
    (told (note_shown share.note) share.begun (read_with answers (reading_shown share.reading)) kept)
    book
    (all_told naming (note_shown share.note) share.begun
    (read_with answers (reading_shown share.reading)) kept book all made)

-- So where calls made the records that a change kept, they made all that it says.
pub of_answered : (naming : Naming) (import : Option Share) (records : List (List ℕ))
    (answers : List Accepted) → MakesAnswered naming (Accepts naming records answers)
    → MakesAnswered naming (AcceptsOf naming import records answers)
of_answered naming import records answers accepted book was events is of =
    subst (AreMadeOf naming book) (sym of.told)
    (told_answered naming import (length answers == length records) answers of.kept book
    (all_kept naming records answers was book of.kept is of.accepts)
    (accepted book was of.kept is of.accepts))
