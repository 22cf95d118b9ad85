-- Reports that books may refuse, written while books are read: what they come to by calls that
-- answered, and by one that was refused.
use Rattle.std.proofs.Common.{◌≡◌, ◌<◌, ◌∙◌, ◌⊎◌, true, List, [], ◌++◌, length, refl, sym, ap}
use Rattle.std.proofs.Common.{subst, Option, None, Result, Ok, Err, inl, inr, ℕ, IfErr}
use Rattle.book_model.specs.Words.{Book, Event, Naming, Outcome, after_all}
use Rattle.book_core.specs.Words.{Seen, Calls, IsCall, Makes, Reopens, listed, IsTransition, Then}
use Rattle.book_lists.specs.declared.fault.ReportFault.{ReportFault}
use Rattle.book_lists.proofs.Words.{Appends-nil, LedgerFault, work_as, work_then, report_fault_of}
use Rattle.book_lists.proofs.Words.{WritesAnswerUntil, WritesUntilOrRefuses, is_hindrance}
use Rattle.book_lists.proofs.Words.{refusal_in, WritesUntil, is_write_or_memory}
use Rattle.book_lists.proofs.ReadingLemmas.{IsReading, reopens_alike}
use Rattle.book_lists.proofs.ShownLemmas.{Saw, Shows}
use Rattle.book_lists.proofs.StreamingLemmas.{alike_refusal, stays_plain, unrefused_hinders}
use Rattle.book_lists.proofs.StreamingLemmas.{was_open}
use Rattle.book_model.specs.declared.fault.LedgerFault.TheVariants as ledger
use Rattle.book_lists.specs.declared.fault.ReportFault.TheVariants as report

-- a fault of the ledger, as a report passes it on, is a hindrance, or that fault
abbrev pub IsRefusedBy : {A : Type 0} → LedgerFault → Result A LedgerFault → Type 0
IsRefusedBy fault answer =
    (is_hindrance (report_fault_of fault) ≡ true) ⊎ (answer ≡ Err fault)

-- so a call to which the definitions answer something was hindered
pub only_hinders : {A : Type 0} (answer : A) (fault : LedgerFault) → IsRefusedBy fault (Ok answer)
    → is_hindrance (report_fault_of fault) ≡ true
only_hinders answer fault (inl hinders) = hinders
only_hinders answer fault (inr is) = absurd (cc is)

-- it is what the definitions say of a call that was refused, which made no event
pub refused_by : {V A : Type 0} (view : V → A) (outcome : Outcome A) (fault : LedgerFault)
    (events : List Event) → outcome.event ≡ None → Makes view outcome (Err fault) events
    → (events ≡ []) × IsRefusedBy fault outcome.answer
refused_by view outcome ledger.Memory events none makes = (makes, inl refl)
refused_by view outcome ledger.Store events none (inl makes) = (makes, inl refl)
refused_by view outcome ledger.Store events none (inr makes) = (makes ∙ ap listed none, inl refl)
refused_by view outcome ledger.Reopen events none makes = (makes, inl refl)
refused_by view outcome fault events none makes = (makes.1, inr makes.0)

passed_on : (fault : LedgerFault)
    → (report_fault_of fault ≡ report.Ledger fault) ⊎ (is_hindrance (report_fault_of fault) ≡ true)
passed_on ledger.Memory = inr refl
passed_on fault = inl refl

-- some byte is in each text that is answered
abbrev pub HasBytes : Result (List ℕ) LedgerFault → Type 0
HasBytes said = (text : List ℕ) → said ≡ Ok text → 0 < length text

-- before a byte is written, a report may be hindered, whatever is answered, or refused
pub unwritten : (said : Result (List ℕ) LedgerFault) (fault : LedgerFault)
    (held : Option (List ℕ)) → HasBytes said → IsRefusedBy fault said
    → WritesUntilOrRefuses said held held (Err (report_fault_of fault))
unwritten (Ok text) fault held some (inl hinders) =
    ((0, some text refl, Appends-nil held), hinders)
unwritten (Err refused) fault held some (inl hinders) = (refl, inr hinders)
unwritten said fault held some (inr is) =
    subst (λ said. WritesUntilOrRefuses said held held (Err (report_fault_of fault))) (sym is)
    (refl, passed_on fault)

-- then a prefix of the text may be written before a hindrance
pub cut_by : (said : Result (List ℕ) LedgerFault) (text : List ℕ) (fault : LedgerFault)
    (held holds : Option (List ℕ)) → said ≡ Ok text
    → WritesUntil {A = Unit {0}} text held holds (Err (report_fault_of fault))
    → IsRefusedBy fault said
    → WritesUntilOrRefuses said held holds (Err (report_fault_of fault))
cut_by said text fault held holds is cut (inl hinders) =
    subst (λ said. WritesUntilOrRefuses said held holds (Err (report_fault_of fault))) (sym is)
    (cut, hinders)
cut_by said text fault held holds is cut (inr refused) = absurd (never (sym is ∙ refused))
  where
    never : ◌≡◌ {A = Result (List ℕ) LedgerFault} (Ok text) (Err fault) → ⊥
    never same = cc

module _ {Known : Book → Type 0} {old new : Seen} (so_far : Shows old new Known)
    (answer : Naming → Book → Result (List ℕ) LedgerFault) (held holds : Option (List ℕ))
    (result : Result (Unit {0}) ReportFault)
    (plain : IfErr result (λ fault. is_write_or_memory fault ≡ true))
  where
    -- calls were answered, and so much of the text was written
    pub answer_written : ((book : Book) → Known book
        → (text : List ℕ) × (answer old.naming book ≡ Ok text) × WritesUntil text held holds result)
        → IsTransition old new (WritesAnswerUntil answer old.naming held holds result)
    answer_written writes =
        work_as old new (Saw Known) (WritesAnswerUntil answer old.naming held holds result)
        (λ was before events is saw.
        let it = writes before saw.known in
        record {
          none = saw.none;
          written = subst (λ said. WritesUntilOrRefuses said held holds result) (sym it.1)
              (it.2, unrefused_hinders result plain);
          unread = was_open was (sym saw.at_work);
          reopens = stays_plain result was is plain saw.stays saw.at_work;
        })
        so_far.work

module _ {V A : Type 0} {view : V → A} {outcome : Book → Outcome A} {old new : Seen}
    (reading : IsReading outcome) (fault : LedgerFault)
    (call : IsCall view old new (Err fault) outcome)
    (answer : Naming → Book → Result (List ℕ) LedgerFault) (held : Option (List ℕ))
  where
    -- the first call was refused, and nothing was written
    pub answer_unread : ((book : Book) → HasBytes (answer old.naming book))
        → ((book : Book) → IsRefusedBy fault (outcome book).answer
        → IsRefusedBy fault (answer old.naming book))
        → IsTransition old new
        (WritesAnswerUntil answer old.naming held held (Err (report_fault_of fault)))
    answer_unread some refuses =
        work_as old new (Calls view outcome (Err fault))
        (WritesAnswerUntil answer old.naming held held (Err (report_fault_of fault)))
        (λ was before events is called.
        let said = refused_by view (outcome before) fault events (reading before) called.makes in
        record {
          none = said.0;
          written = unwritten (answer old.naming before) fault held (some before)
              (refuses before said.1);
          unread = λ reopen. refl;
          reopens = reopens_alike (Err fault) (refusal_in (Err (report_fault_of fault))) was is
              (alike_refusal fault) called.reopens;
        })
        call.work

module _ {Known : Book → Type 0} {W B : Type 0} {show : W → B} {other : Book → Outcome B}
    {old mid new : Seen} (so_far : Shows old mid Known) (quiet : IsReading other)
    (fault : LedgerFault) (next : IsCall show mid new (Err fault) other)
    (answer : Naming → Book → Result (List ℕ) LedgerFault) (held holds : Option (List ℕ))
  where
    -- calls were answered, and the next was refused: all are of one book
    pub answer_refused : ((book : Book) → Known book → IsRefusedBy fault (other book).answer
        → WritesUntilOrRefuses (answer old.naming book) held holds (Err (report_fault_of fault)))
        → IsTransition old new
        (WritesAnswerUntil answer old.naming held holds (Err (report_fault_of fault)))
    answer_refused writes =
        work_as old new (Then (Saw Known) (Calls show other (Err fault)))
        (WritesAnswerUntil answer old.naming held holds (Err (report_fault_of fault)))
        (λ was before events is both.
        let middle = after_all both.early before in
        let late = refused_by show (other middle) fault both.late (quiet middle) both.next.makes in
        let early = both.first.none in
        let same : middle ≡ before = ap (λ events. after_all events before) early in
        record {
          none = both.all ∙ ap (λ events. events ++ both.early) late.0 ∙ early;
          written = writes before both.first.known
              (subst (λ book. IsRefusedBy fault (other book).answer) same late.1);
          unread = was_open was (sym both.first.at_work);
          reopens = reopens_alike (Err fault) (refusal_in (Err (report_fault_of fault))) was is
              (alike_refusal fault)
              (subst (λ between. Reopens (Err fault) between is) both.first.stays
              both.next.reopens);
        })
        (work_then old mid new (Saw Known) (Calls show other (Err fault)) so_far.work next.work)
