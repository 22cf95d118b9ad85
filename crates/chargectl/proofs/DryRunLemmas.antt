-- A ruling that is tried: what is read before it, the ruling, and what is read after it, as one piece
-- of work.
use Rattle.std.proofs.Common.{◌≡◌, ◌∙◌, ◌⊎◌, ℕ, Bool, false, true≢false, List, [], ◌++◌, append-nil}
use Rattle.std.proofs.Common.{Option, None, Some, Result, Ok, Err, ap, inl, inr, refl, subst, sym}
use Rattle.std.proofs.Common.{IfOk, IsErr, IsErrAnd, Vec, string_bytes, Global, ℤ}
use Rattle.book_model.specs.declared.answer.Ruled.{Ruled}
use Rattle.book_model.specs.declared.fault.LedgerFault.TheVariants.{Memory}
use Rattle.book_model.specs.Words.{Book, Event, Naming, Outcome, adopt_outcome, after_all}
use Rattle.book_model.specs.Words.{after_any, choose_outcome, close_outcome, note_given}
use Rattle.book_model.specs.Words.{tariff_answer}
use Rattle.book_model.specs.Words.{rule_outcome, tariff_outcome, credit_outcome, replace_outcome}
use Rattle.book_model.specs.Words.{replacing_answer, withhold_outcome}
use Rattle.book_core.specs.Words.{Calls, IsCall, listed, Seen, IsTransition, Then, Transition}
use Rattle.book_core.proofs.FollowLemmas.{called_events}
use Rattle.book_core.proofs.TransitionLemmas.{Fails, failed, fails, refused, to_reopen, wanting}
use Rattle.book_core.proofs.TransitionLemmas.{work_then}
use Rattle.report_texts.specs.declared.dry_runs.TriedRuling.{TriedRuling}
use Rattle.report_texts.specs.declared.figures.Figures.{Figures}
use Rattle.report_texts.specs.DryRuns.{dry_answer, dry_answered, dry_run_of, dry_run_text}
use Rattle.report_texts.specs.Figures.{figures, period_open}
use Rattle.book_import.specs.declared.receipt.Receipt.{Receipt}
use Rattle.book_lists.proofs.ReadingLemmas.{IsReading, goes_on}
use Rattle.book_lists.proofs.WritingLemmas.{same_value}
use Rattle.book_reports.specs.declared.figures.OpenPeriod.{OpenPeriod}
use Rattle.book_reports.specs.BookTexts.{shown_by}
use Rattle.book_reports.specs.Figures.{figures_outcome, open_outcome}
use Rattle.office.specs.Outcomes.{AskedOutcome, is_hindered}
use Rattle.office.specs.Requests.{IsAskableRuling, Response, Text, response_of, response_outcome}
use Rattle.office.specs.Runs.{AsksWithoutReader, dump_here}
use Rattle.office.proofs.LawLemmas.{asks_done}
use Rattle.command_line.specs.declared.request.BookRequest.{BookRequest}
use Rattle.without_books.specs.declared.notice.Notice.{Notice}
use Rattle.without_books.specs.Inputs.{Files}
use Rattle.chargectl.specs.declared.dated_rulings.DatedAnswer.{DatedAnswer}
use Rattle.chargectl.specs.Commands.{AsksNothing}
use Rattle.chargectl.specs.DryRuns.{IsAskedFor, IsDryAnswer, IsNamedBy, IsRuled, IsShown, IsUnnamed}
use Rattle.chargectl.specs.DryRuns.{ShowsDry, TellsDry, TriesOnce, TriesOnceBy, dated_by}
use Rattle.chargectl.specs.DryRuns.{replacement_tried, ruled_told, tariff_tried}
use Rattle.chargectl.specs.Far.{far_notice, far_outcome, is_far_asked, notice_by}
use Rattle.chargectl.proofs.Words.{LedgerFault, work_as, Asked, RepositoryFault, ComesBy, Answer}
use Rattle.chargectl.proofs.Words.{response_by, CommandFault}
use Rattle.report_texts.specs.declared.dry_runs.TriedRuling.TheVariants as tried
use Rattle.office.specs.declared.request.Asked.TheVariants as asks
use Rattle.office.specs.declared.request.OwnedRuling.TheVariants as owned
use Rattle.office.specs.declared.request.Answer.TheVariants as answers
use Rattle.office.specs.Requests as office

-- an answer is no refusal
pub no_refusal : {A : Type 0} {value : A} {fault : LedgerFault}
    → ◌≡◌ {A = Result A LedgerFault} (Ok value) (Err fault) → ⊥
no_refusal is = cc is

-- an answer to a ruling is no receipt and no text
no_count : {ruled : Ruled} {receipt : Receipt}
    → ◌≡◌ {A = Result Response LedgerFault} (Ok (office.Ruling ruled))
    (Ok (office.Count receipt)) → ⊥
no_count is = cc is

no_text : {ruled : Ruled} {text : List ℕ}
    → ◌≡◌ {A = Result Response LedgerFault} (Ok (office.Ruling ruled)) (Ok (Text text)) → ⊥
no_text is = cc is

-- nothing is asked for, and this is why
pub none_asked : (files : Files) (request : BookRequest) (Refuses : RepositoryFault → Type 0)
    (result : Result Asked CommandFault) (found : CommandFault)
    → IsErr result → IsErrAnd result (λ why. why ≡ found) → AsksNothing files request Refuses found
    → IsAskedFor files request Refuses result
none_asked files request Refuses (Ok asked) found bad is why = absurd is
none_asked files request Refuses (Err fault) found bad is why =
    subst (AsksNothing files request Refuses) (sym is) why

-- the fault that `?` hands on: of a refusal nothing is noticed
pub handed_on : {old new : Seen} {naming : Naming} {today : Option ℤ} {asked : Asked}
    {fault : LedgerFault}
    (result : Result (Vec ℕ Global × Option Notice) LedgerFault)
    → IsErrAnd result (λ given. given ≡ fault)
    → IsTransition old new (TriesOnce naming today asked (Err fault) None)
    → IsTransition old new (TriesOnceBy naming today asked (dated_by result))
handed_on (Ok shown) is work = absurd is
handed_on {old = old} {new = new} {naming = naming} {today = today} {asked = asked} (Err given) is
    work =
    subst (λ fault. IsTransition old new (TriesOnce naming today asked (Err fault) None))
    (sym is) work

-- what a visit to a copy told is a text or a fault
pub form_told : (Same : Type 0) (told : Result DatedAnswer RepositoryFault)
    → ComesBy IsDryAnswer Same told → IfOk told IsDryAnswer
form_told Same (Ok dated) form = form
form_told Same (Err why) same = tt

-- what was read first is so of the book before it, and left the books as they were
pub read_first : {V A : Type 0} {view : V → A} {outcome : Book → Outcome A} {value : V}
    {Next : Transition} (Other : Transition) → IsReading outcome
    → (was : Bool) (before : Book) (events : List Event) (is : Bool)
    → ((outcome before).answer ≡ Ok (view value) → Next was before events is
    → Other was before events is)
    → Then (Calls view outcome (Ok value)) Next was before events is → Other was before events is
read_first {value = value} {Next = Next} Other none was before events is later both =
    let early : both.early ≡ [] = both.first.makes.1 ∙ ap listed (none before) in
    let between : both.between ≡ was = goes_on value was both.between both.first.reopens in
    let all : events ≡ both.late =
    both.all ∙ ap (λ early. both.late ++ early) early ∙ append-nil both.late in
    later both.first.makes.0
    (subst (λ events. Next was before events is) (sym all)
    (subst (λ was. Next was before both.late is) between
    (subst (λ early. Next both.between (after_all early before) both.late is) early both.next)))

-- A call failed on open books where neither memory nor the store hindered it: it was refused.
pub refused_only : {A : Type 0} {outcome : Outcome A} {fault : LedgerFault} {was is : Bool}
    {events : List Event} → Fails outcome fault was events is → was ≡ false
    → is_hindered (Err fault) ≡ false → outcome.answer ≡ Err fault
refused_only (wanting want none same) fresh free =
    absurd (true≢false (subst (λ fault. is_hindered (Err fault) ≡ false) want free))
refused_only (failed stored was is made) fresh free =
    absurd (true≢false (subst (λ fault. is_hindered (Err fault) ≡ false) stored free))
refused_only (to_reopen reopen was is none) fresh free = absurd (true≢false (sym was ∙ fresh))
refused_only (refused answer was is none) fresh free = answer

-- a call that reads makes no event
none_made : {V A : Type 0} {view : V → A} {outcome : Book
    → Outcome A} {result : Result V LedgerFault}
    {was is : Bool} {before : Book} {events : List Event} → IsReading outcome
    → Calls view outcome result was before events is → events ≡ []
none_made {view = view} {outcome = outcome} {result = result} {before = before} {events = events}
    none
    called =
    elim (called_events view (outcome before) result events called.makes) [
      | inl is ↦ is
      | inr is ↦ is ∙ ap listed (none before)
    ]

module _ (naming : Naming) where
  -- a text that is no tariff
  unnamed_shows : (today : Option ℤ) (asked : Asked) (book : Book) (fault : LedgerFault)
      → IsUnnamed asked fault
      → ShowsDry naming today asked book (Err fault) None
  unnamed_shows today (asks.Rule (owned.Tariff text) said) book fault why =
      let bytes = string_bytes text in
      record {
        told_so = ap Err why.2
            ∙ sym (ap (λ read. shown_by Text (tariff_tried naming
            (note_given said) bytes read book)) why.1);
        notice = sym (ap (λ read. notice_by
            (is_far_asked today (asks.Rule (owned.Tariff text) said) book)
            (shown_by office.Ruling (tariff_answer book bytes read))) why.1);
      }
  unnamed_shows today (asks.Rule (owned.Replace text) said) book fault why =
      let bytes = string_bytes text in
      record {
        told_so = ap Err why.2
            ∙ sym (ap (λ read. shown_by Text (replacement_tried naming
            (note_given said) bytes read book)) why.1);
        notice = sym (ap (λ read. notice_by
            (is_far_asked today (asks.Rule (owned.Replace text) said) book)
            (shown_by office.Ruling (replacing_answer book bytes read))) why.1);
      }
  unnamed_shows today asked book fault why = absurd why

  -- what a ruling was answered by open books is what the definitions say
  told_by : (asked : Asked) (answer : Result Answer LedgerFault) (was : Bool) (book : Book)
      (events : List Event) (is : Bool) → AsksWithoutReader naming asked answer was book events is
      → was ≡ false → is_hindered (response_by answer) ≡ false
      → ruled_told naming asked book ≡ response_by answer
  told_by asked answer was book events is called fresh free =
      ap (λ (outcome : AskedOutcome). outcome.told)
      (asks_done naming asked (dump_here asked) (response_by answer) book events is
      (subst (λ was. AsksWithoutReader naming asked answer was book events is) fresh called) free)

  -- the answer to a ruling that was refused
  refusal_said : (answer : Result Ruled LedgerFault) (fault : LedgerFault) (ruling : TriedRuling)
      (book after : Book) → shown_by office.Ruling answer ≡ Err fault
      → Err fault ≡ dry_answered naming ruling answer book after
  refusal_said (Ok ruled) fault ruling book after is = absurd (no_refusal is)
  refusal_said (Err why) fault ruling book after is = sym (ap (shown_by (λ told. [])) is)

  refused_by : (outcome : Book → Outcome Ruled) (fault : LedgerFault) (ruling : TriedRuling)
      (was : Bool) (book : Book) (events : List Event) (is : Bool)
      → Calls (λ told. told) (response_outcome office.Ruling outcome) (Err fault) was book events is
      → was ≡ false → is_hindered (Err fault) ≡ false
      → Err fault ≡ dry_answer naming ruling (outcome book) book
  refused_by outcome fault ruling was book events is called fresh free =
      refusal_said (outcome book).answer fault ruling book (after_any (outcome book).event book)
      (refused_only (fails (λ told. told) (response_outcome office.Ruling outcome) fault was book
      events is called) fresh free)

  refused_tells : (asked : Asked) (ruling : TriedRuling) (fault : LedgerFault) (was : Bool)
      (book : Book) (events : List Event) (is : Bool) → IsNamedBy asked ruling
      → AsksWithoutReader naming asked (Err fault) was book events is → was ≡ false
      → is_hindered (Err fault) ≡ false → TellsDry naming asked book (Err fault)
  refused_tells (asks.Rule (owned.Tariff text) said) ruling fault was book events is named called
      fresh free =
      ap (shown_by Text) (refused_by (tariff_outcome (note_given said) (string_bytes text)) fault
      (tried.Tariff named.0.effective) was book events is called fresh free
      ∙ sym (ap (λ read. tariff_tried naming (note_given said) (string_bytes text) read book)
      named.1))
  refused_tells (asks.Rule (owned.Close period through) said) ruling fault was book events is named
      called fresh free =
      ap (shown_by Text) (refused_by (close_outcome (note_given said) period through) fault
      (tried.Close period through) was book events is called fresh free)
  refused_tells (asks.Rule (owned.Choose name) said) ruling fault was book events is named called
      fresh free =
      ap (shown_by Text) (refused_by (choose_outcome naming (note_given said) name) fault
      (tried.Choose name) was book
      events is called fresh free)
  refused_tells (asks.Rule (owned.Adopt rule) said) ruling fault was book events is named called
      fresh free =
      ap (shown_by Text) (refused_by (adopt_outcome (note_given said) rule) fault tried.Adopt was
      book events is called
      fresh free)
  refused_tells (asks.Rule (owned.Replace text) said) ruling fault was book events is named called
      fresh free =
      ap (shown_by Text) (refused_by (replace_outcome (note_given said) (string_bytes text)) fault
      (tried.Replace named.0.effective) was book events is called fresh free
      ∙ sym (ap (λ read. replacement_tried naming (note_given said) (string_bytes text) read book)
      named.1))
  refused_tells (asks.Rule (owned.Withhold name) said) ruling fault was book events is named called
      fresh free =
      ap (shown_by Text) (refused_by (withhold_outcome naming (note_given said) name) fault
      (tried.Withhold name) was
      book events is called fresh free)
  refused_tells (asks.Rule (owned.Credit period centre amount reason) said) ruling fault was book
      events is
      named called fresh free =
      ap (shown_by Text) (refused_by (credit_outcome (note_given said) period centre amount
      (string_bytes reason)) fault
      (tried.Credit period centre) was book events is called fresh free)
  refused_tells asked ruling fault was book events is named called fresh free = absurd named

  -- the book after the event of a ruling
  after_listed : (event : Option Event) (book : Book)
      → after_all (listed event) book ≡ after_any event book
  after_listed None book = refl
  after_listed (Some event) book = refl

  -- the answer to a ruling that was not
  ruled_said : (answer : Result Ruled LedgerFault) (ruled : Ruled)
      → shown_by office.Ruling answer ≡ Ok (office.Ruling ruled) → answer ≡ Ok ruled
  ruled_said (Ok one) ruled is = cc is
  ruled_said (Err fault) ruled is = cc is

  ruled_by : (outcome : Book → Outcome Ruled) (ruled : Ruled) (ruling : TriedRuling) (was : Bool)
      (book : Book) (events : List Event) (is : Bool)
      → Calls (λ told. told) (response_outcome office.Ruling outcome)
      (Ok (office.Ruling ruled)) was book
      events is
      → Ok (dry_run_of naming ruling ruled book (after_all events book))
      ≡ dry_answer naming ruling (outcome book) book
  ruled_by outcome ruled ruling was book events is called =
      let event = (outcome book).event in
      let later : after_all events book ≡ after_any event book =
      ap (λ events. after_all events book) called.makes.1 ∙ after_listed event book in
      ap (λ after. Ok (dry_run_of naming ruling ruled book after)) later
      ∙ sym (ap (λ answer. dry_answered naming ruling answer book (after_any event book))
      (ruled_said (outcome book).answer ruled called.makes.0))

  ruled_tells : (asked : Asked) (ruling : TriedRuling) (ruled : Ruled) (was : Bool) (book : Book)
      (events : List Event) (is : Bool) → IsNamedBy asked ruling
      → AsksWithoutReader naming asked (Ok (answers.Ruled ruled)) was book events is
      → TellsDry naming asked book
      (Ok (Text (dry_run_of naming ruling ruled book (after_all events book))))
  ruled_tells (asks.Rule (owned.Tariff text) said) ruling ruled was book events is named called =
      ap (λ ruling. Ok (Text (dry_run_of naming ruling ruled book (after_all events book)))) named.2
      ∙ ap (shown_by Text) (ruled_by (tariff_outcome (note_given said) (string_bytes text)) ruled
      (tried.Tariff named.0.effective) was book events is called
      ∙ sym (ap (λ read. tariff_tried naming (note_given said) (string_bytes text) read book)
      named.1))
  ruled_tells (asks.Rule (owned.Close period through) said) ruling ruled was book events is named
      called =
      ap (λ ruling. Ok (Text (dry_run_of naming ruling ruled book (after_all events book)))) named
      ∙ ap (shown_by Text) (ruled_by (close_outcome (note_given said) period through) ruled
      (tried.Close period through) was book events is called)
  ruled_tells (asks.Rule (owned.Choose name) said) ruling ruled was book events is named called =
      ap (λ ruling. Ok (Text (dry_run_of naming ruling ruled book (after_all events book)))) named
      ∙ ap (shown_by Text) (ruled_by (choose_outcome naming (note_given said) name) ruled
      (tried.Choose name) was book
      events is called)
  ruled_tells (asks.Rule (owned.Adopt rule) said) ruling ruled was book events is named called =
      ap (λ ruling. Ok (Text (dry_run_of naming ruling ruled book (after_all events book)))) named
      ∙ ap (shown_by Text) (ruled_by (adopt_outcome (note_given said) rule) ruled tried.Adopt was
      book events is called)
  ruled_tells (asks.Rule (owned.Replace text) said) ruling ruled was book events is named called =
      ap (λ ruling. Ok (Text (dry_run_of naming ruling ruled book (after_all events book)))) named.2
      ∙ ap (shown_by Text) (ruled_by (replace_outcome (note_given said) (string_bytes text)) ruled
      (tried.Replace named.0.effective) was book events is called
      ∙ sym (ap (λ read. replacement_tried naming (note_given said) (string_bytes text) read book)
      named.1))
  ruled_tells (asks.Rule (owned.Withhold name) said) ruling ruled was book events is named called =
      ap (λ ruling. Ok (Text (dry_run_of naming ruling ruled book (after_all events book)))) named
      ∙ ap (shown_by Text) (ruled_by (withhold_outcome naming (note_given said) name) ruled
      (tried.Withhold name) was book
      events is called)
  ruled_tells (asks.Rule (owned.Credit period centre amount reason) said) ruling ruled was book
      events is
      named called =
      ap (λ ruling. Ok (Text (dry_run_of naming ruling ruled book (after_all events book)))) named
      ∙ ap (shown_by Text) (ruled_by (credit_outcome (note_given said) period centre amount
      (string_bytes reason)) ruled
      (tried.Credit period centre) was book events is called)
  ruled_tells asked ruling ruled was book events is named called = absurd named

  -- nothing else is answered to one
  not_told : (answer : Result Ruled LedgerFault) (other : Answer)
      → shown_by office.Ruling answer ≡ Ok (response_of other)
      → (ruled : Ruled) × (other ≡ answers.Ruled ruled)
  not_told answer (answers.Ruled ruled) is = (ruled, refl)
  not_told (Ok ruled) (answers.Receipt receipt) is = absurd (no_count is)
  not_told (Ok ruled) (answers.Text text) is = absurd (no_text is)
  not_told (Err fault) (answers.Receipt receipt) is = absurd (no_refusal (sym is))
  not_told (Err fault) (answers.Text text) is = absurd (no_refusal (sym is))

  -- a ruling was answered, and the books stay open or closed as they were
  record Answers (answer : Answer) (was is : Bool) : Type 0 where
    ruled : Ruled
    answered : answer ≡ answers.Ruled ruled
    same : is ≡ was

  answers_by : (outcome : Book → Outcome Ruled) (answer : Answer) (was : Bool) (book : Book)
      (events : List Event) (is : Bool)
      → Calls (λ told. told) (response_outcome office.Ruling outcome)
      (Ok (response_of answer)) was book
      events is
      → Answers answer was is
  answers_by outcome answer was book events is called =
      let found = not_told (outcome book).answer answer called.makes.0 in
      record {
        ruled = found.0;
        answered = found.1;
        same = goes_on (response_of answer) was is called.reopens;
      }

  answers_ruling : (asked : Asked) (answer : Answer) (was : Bool) (book : Book)
      (events : List Event)
      (is : Bool) → IsAskableRuling asked
      → AsksWithoutReader naming asked (Ok answer) was book events is → Answers answer was is
  answers_ruling (asks.Rule ruling said) answer was book events is may called =
      answers_by (rule_outcome naming (note_given said) (office.ruling_of ruling)) answer was book
      events is called
  answers_ruling asked answer was book events is may called = absurd may

-- the ruling, and then a reading: the ruling alone made events
ruled_then : {naming : Naming} {asked : Asked} (answer : Answer) {V A : Type 0} {view : V → A}
    {outcome : Book → Outcome A} {result : Result V LedgerFault} {was is : Bool} {before : Book}
    {events : List Event} → IsReading outcome
    → Then (AsksWithoutReader naming asked (Ok answer)) (Calls view outcome result) was before
    events is
    → IsRuled naming asked was before events
ruled_then {naming = naming} {asked = asked} answer {was = was} {before = before} none both =
    record {
      answer = Ok answer;
      left = both.between;
      made = subst (λ events. AsksWithoutReader naming asked (Ok answer) was before events both.between)
          (sym (both.all ∙ ap (λ late. late ++ both.early) (none_made none both.next))) both.first;
    }

-- a hindrance that is told is none of those that are not
not_hindered : {fault : LedgerFault} → fault ≡ Memory → is_hindered (Err fault) ≡ false → ⊥
not_hindered memory free = true≢false (subst (λ fault. is_hindered (Err fault) ≡ false) memory free)

-- a reading that is never refused: it failed by memory or by the store, and nothing was done
pub reading_failed : {V A : Type 0} {view : V → A} {outcome : Book → Outcome A} {old new : Seen}
    {fault : LedgerFault} {today : Option ℤ} (asked : Asked) → IsReading outcome
    → ((book : Book) → (outcome book).answer ≡ Err fault → ⊥)
    → IsCall view old new (Err fault) outcome
    → IsTransition old new (TriesOnce old.naming today asked (Err fault) None)
reading_failed {view = view} {outcome = outcome} {old = old} {new = new} {fault = fault}
    {today = today} asked none never call =
    work_as old new (Calls view outcome (Err fault)) (TriesOnce old.naming today asked
    (Err fault) None)
    (λ was book events is called. record {
      shows = λ fresh free.
          absurd (never book (refused_only (fails view outcome fault was book events is called)
          fresh
          free));
      made = inl (none_made none called);
    }) call.work

-- what was tried after a reading was tried on the same books
pub after_reading : {V A : Type 0} {view : V → A} {outcome : Book → Outcome A} {one two end : Seen}
    {value : V} {today : Option ℤ} {asked : Asked} {told : Result Response LedgerFault}
    {noticed : Option Notice} → IsReading outcome → IsCall view one two (Ok value) outcome
    → IsTransition two end (TriesOnce two.naming today asked told noticed)
    → IsTransition one end (TriesOnce one.naming today asked told noticed)
after_reading {view = view} {outcome = outcome} {one = one} {two = two} {end = end} {value = value}
    {today = today} {asked = asked} {told = told} {noticed = noticed} none call work =
    work_as one end
    (Then (Calls view outcome (Ok value)) (TriesOnce one.naming today asked told noticed))
    (TriesOnce one.naming today asked told noticed)
    (λ was book events is.
    read_first (TriesOnce one.naming today asked told noticed) none was book events is
    (λ said tries. tries))
    (work_then one two end (Calls view outcome (Ok value)) (TriesOnce one.naming today asked told
    noticed)
    call.work
    (subst (λ naming. IsTransition two end (TriesOnce naming today asked told noticed))
    call.work.naming work))

-- the ruling has no name
pub name_failed : {V A : Type 0} {view : V → A} {outcome : Book → Outcome A} {old new : Seen}
    {value : V} {fault : LedgerFault} {today : Option ℤ} (asked : Asked) → IsReading outcome
    → IsCall view old new (Ok value) outcome → (fault ≡ Memory) ⊎ IsUnnamed asked fault
    → IsTransition old new (TriesOnce old.naming today asked (Err fault) None)
name_failed {view = view} {outcome = outcome} {old = old} {new = new} {value = value} {fault =
    fault}
    {today = today} asked none call why =
    work_as old new (Calls view outcome (Ok value)) (TriesOnce old.naming today asked
    (Err fault) None)
    (λ was book events is called. record {
      shows = λ fresh free. elim why [
        | inl memory ↦ absurd (not_hindered memory free)
        | inr unnamed ↦ unnamed_shows old.naming today asked book fault unnamed
      ];
      made = inl (none_made none called);
    }) call.work

-- the ruling was refused
pub ruling_failed : {old new : Seen} {fault : LedgerFault} {today : Option ℤ} (asked : Asked)
    (ruling : TriedRuling) → IsNamedBy asked ruling
    → IsTransition old new (AsksWithoutReader old.naming asked (Err fault))
    → IsTransition old new (TriesOnce old.naming today asked (Err fault) None)
ruling_failed {old = old} {new = new} {fault = fault} {today = today} asked ruling named work =
    work_as old new (AsksWithoutReader old.naming asked (Err fault))
    (TriesOnce old.naming today asked (Err fault) None)
    (λ was book events is called. record {
      shows = λ fresh free. record {
        told_so = refused_tells old.naming asked ruling fault was book events is named called fresh
            free;
        notice = sym (ap (notice_by (is_far_asked today asked book)) (told_by old.naming asked
            (Err fault) was book events is called fresh free));
      };
      made = inr (record { answer = Err fault; left = is; made = called });
    }) work

-- the ruling, and what was read after it
read_after : {old mid new : Seen} {result : Result Figures LedgerFault} (asked : Asked)
    (answer : Answer) (ruling : TriedRuling) (period : ℕ)
    → IsTransition old mid (AsksWithoutReader old.naming asked (Ok answer))
    → IsCall (λ figures. figures) mid new result (figures_outcome mid.naming ruling period)
    → IsTransition old new (Then (AsksWithoutReader old.naming asked (Ok answer))
    (Calls (λ figures. figures) (figures_outcome old.naming ruling period) result))
read_after {old = old} {mid = mid} {new = new} {result = result} asked answer ruling period work
    last =
    work_then old mid new (AsksWithoutReader old.naming asked (Ok answer))
    (Calls (λ figures. figures) (figures_outcome old.naming ruling period) result) work
    (subst (λ naming. IsTransition mid new
    (Calls (λ figures. figures) (figures_outcome naming ruling period) result)) work.naming
    last.work)

-- the figures after the ruling were not read
pub later_failed : {old mid new : Seen} {fault : LedgerFault} {today : Option ℤ} (asked : Asked)
    (answer : Answer)
    (ruling : TriedRuling) (period : ℕ) → IsAskableRuling asked
    → IsTransition old mid (AsksWithoutReader old.naming asked (Ok answer))
    → IsCall (λ figures. figures) mid new (Err fault) (figures_outcome mid.naming ruling period)
    → IsTransition old new (TriesOnce old.naming today asked (Err fault) None)
later_failed {old = old} {mid = mid} {new = new} {fault = fault} {today = today} asked answer ruling
    period may work last =
    work_as old new
    (Then (AsksWithoutReader old.naming asked (Ok answer))
    (Calls (λ figures. figures) (figures_outcome old.naming ruling period) (Err fault)))
    (TriesOnce old.naming today asked (Err fault) None)
    (λ was book events is both. record {
      shows = λ fresh free.
          let found =
          answers_ruling old.naming asked answer was book both.early both.between may both.first in
          absurd (no_refusal (refused_only (fails (λ figures. figures)
          (figures_outcome old.naming ruling period) fault both.between (after_all both.early book)
          both.late is both.next) (found.same ∙ fresh) free));
      made = inr (ruled_then answer (λ book. refl) both);
    })
    (read_after asked answer ruling period work last)

-- what was read before the ruling and after it is what is shown
module _ {naming : Naming} {today : Option ℤ} {asked : Asked} (ruling : TriedRuling)
    (answer : Answer) {period : ℕ}
    {before after : Figures} {far : Bool} (may : IsAskableRuling asked)
    (named : IsNamedBy asked ruling)
    {was is : Bool} {book : Book} {events : List Event} (is_far : is_far_asked today asked book ≡
    far)
    (number : period_open book ≡ period) (read : figures naming ruling period book ≡ before)
    (both : Then (AsksWithoutReader naming asked (Ok answer))
    (Calls (λ figures. figures) (figures_outcome naming ruling period)
    (Ok after)) was book events is)
  where
    shown_dry : (shown : Vec ℕ Global × Option Notice)
        → IsShown ruling period before after far answer (Ok shown) → was ≡ false
        → ShowsDry naming today asked book (Ok (Text shown.0.items)) shown.1
    shown_dry shown is_shown fresh =
        let found = answers_ruling naming asked answer was book both.early both.between may
        both.first in
        let ruled = found.ruled in
        let text = dry_run_text ruling ruled period before after in
        let later = after_all both.early book in
        let first = subst (λ answer. AsksWithoutReader naming asked (Ok answer) was book both.early
        both.between) found.answered both.first in
        let same : dry_run_of naming ruling ruled book later ≡ text =
        ap (λ number. dry_run_text ruling ruled number (figures naming ruling number book)
        (figures naming ruling number later)) number
        ∙ (λ i. dry_run_text ruling ruled period (read i) (same_value both.next.makes.0 i)) in
        let told : far_notice today asked book (ruled_told naming asked book)
        ≡ notice_by far (Ok (office.Ruling ruled)) =
        λ i. notice_by (is_far i) (told_by naming asked (Ok (answers.Ruled ruled)) was book
        both.early
        both.between first fresh refl i) in
        let says = subst (λ answer. IsShown ruling period before after far answer (Ok shown))
        found.answered is_shown in
        record {
          told_so = subst (TellsDry naming asked book)
              (ap (λ text. Ok (Text text)) (same ∙ sym says.0))
              (ruled_tells naming asked ruling ruled was book both.early both.between named first);
          notice = says.1 ∙ sym told;
        }

    shown_so : (result : Result (Vec ℕ Global × Option Notice) LedgerFault)
        → IsShown ruling period before after far answer result
        → TriesOnceBy naming today asked (dated_by result) was book events is
    shown_so (Ok shown) is_shown = record {
      shows = λ fresh free. shown_dry shown is_shown fresh;
      made = inr (ruled_then answer (λ book. refl) both);
    }
    shown_so (Err fault) memory = record {
      shows = λ fresh free. absurd (not_hindered memory free);
      made = inr (ruled_then answer (λ book. refl) both);
    }

-- All was read, and the ruling answered: a ledger as it was opened, after its day was looked at, after the
-- number of its open period was read, after the figures, after the ruling, and at the end.
pub all_shown : {one two three four five six : Seen} {far : Bool} {period : OpenPeriod}
    {before after : Figures} {today : Option ℤ} (asked : Asked) (ruling : TriedRuling)
    (answer : Answer) (result : Result (Vec ℕ Global × Option Notice) LedgerFault)
    → IsAskableRuling asked
    → IsNamedBy asked ruling
    → IsCall (λ far. far) one two (Ok far) (far_outcome today asked)
    → IsCall (λ found. found) two three (Ok period) open_outcome
    → IsCall (λ figures. figures) three four (Ok before)
    (figures_outcome three.naming ruling period.number)
    → IsTransition four five (AsksWithoutReader four.naming asked (Ok answer))
    → IsCall (λ figures. figures) five six (Ok after)
    (figures_outcome five.naming ruling period.number)
    → IsShown ruling period.number before after far answer result
    → IsTransition one six (TriesOnceBy one.naming today asked (dated_by result))
all_shown {one = one} {two = two} {three = three} {four = four} {six = six} {far = far} {period =
    period}
    {before = before} {after = after} {today = today} asked ruling answer result may named looked
    opened
    read work last text =
    let names : four.naming ≡ one.naming =
    read.work.naming ∙ opened.work.naming ∙ looked.work.naming in
    let first : Transition = Calls (λ far. far) (far_outcome today asked) (Ok far) in
    let second : Transition = Calls (λ found. found) open_outcome (Ok period) in
    let third : Naming → Transition =
    λ naming. Calls (λ figures. figures) (figures_outcome naming ruling period.number)
    (Ok before) in
    let rest : Naming → Transition = λ naming. Then (AsksWithoutReader naming asked (Ok answer))
    (Calls (λ figures. figures) (figures_outcome naming ruling period.number) (Ok after)) in
    let all : Transition = TriesOnceBy one.naming today asked (dated_by result) in
    work_as one six (Then first (Then second (Then (third one.naming) (rest one.naming)))) all
    (λ was book events is. read_first all (λ book. refl) was book events is (λ is_far later.
    read_first all (λ book. refl) was book events is (λ number later.
    read_first all (λ book. refl) was book events is (λ shown both.
    shown_so ruling answer may named (same_value is_far)
    (ap (λ (found : OpenPeriod). found.number) (same_value number))
    (same_value shown) both result text)
    later) later))
    (work_then one two six first (Then second (Then (third one.naming)
    (rest one.naming))) looked.work
    (work_then two three six second (Then (third one.naming) (rest one.naming)) opened.work
    (work_then three four six (third one.naming) (rest one.naming)
    (subst (λ naming. IsTransition three four (third naming))
    (opened.work.naming ∙ looked.work.naming)
    read.work)
    (subst (λ naming. IsTransition four six (rest naming)) names
    (read_after asked answer ruling period.number work last)))))
