-- How an import ends, and its entry.
use Rattle.std.proofs.Common.{◌≡◌, ◌≢◌, ◌∙◌, ℕ, ◌≤◌, zero, suc, Bool, true, false, true≢false, List}
use Rattle.std.proofs.Common.{[], ◌∷◌, ◌++◌, length, take, take_all, refl, sym, ap, subst, arith}
use Rattle.std.proofs.Common.{Result, Ok, Err, Option, Some, None, inl, inr, is_some, map, ◌&&◌, ◌||◌}
use Rattle.std.specs.Prelude.{IfSome, is_none, if◌then◌else◌}
use Rattle.smf_frames.specs.declared.dump.Layout.{Layout}
use Rattle.book_model.specs.JournalLaws.{unjournaled, without_notes}
use Rattle.book_model.specs.Words.{Book, Event, ImportEnded, Naming, Note, Portion, Reading}
use Rattle.book_model.specs.Words.{RecordKept, Records, accept_outcome, after_all, ended_outcome}
use Rattle.book_model.specs.Words.{front, note_shown, stop_shown, told_so_far}
use Rattle.book_model.specs.Notes.{with_portion}
use Rattle.book_model.specs.declared.fault.LedgerFault.{LedgerFault}
use Rattle.book_model.specs.declared.fault.LedgerFault.TheVariants.{Memory, Reopen, Store}
use Rattle.book_model.specs.declared.note.Share.{Share}
use Rattle.book_model.specs.declared.note.Stop.{Stop}
use Rattle.book_model.specs.declared.note.Stop.TheVariants.{Ledger}
use Rattle.book_core.specs.Calls.{Calls}
use Rattle.book_core.specs.Ledgers.{Seen}
use Rattle.book_core.specs.Transition.{IsTransition, NoEvent, Then}
use Rattle.book_core.proofs.TransitionLemmas.{Implies, no_work, work_as}
use Rattle.book_import.specs.declared.import_entry.ImportEntry.{ImportEntry}
use Rattle.book_import.specs.declared.receipt.Receipt.{Receipt}
use Rattle.book_import.specs.Dumps.{stop_after}
use Rattle.book_import.specs.Receipts.{counted, is_stop_of_books}
use Rattle.book_import.specs.Reach.{EndsAs}
use Rattle.book_import.specs.Handled.{Answering, Imported, answers_of, continue_with, handle}
use Rattle.book_import.specs.Handled.{handle_all, nothing_imported, with_stop}
use Rattle.book_import.specs.Imports.{GivesReceipt, Handles, Imports, out_of_memory, store_failed, whole}
use Rattle.book_import.specs.ImportEntries.{ImportsOf, SaidBy, Says, SaysAll, kept_in, with_end}
use Rattle.book_import.specs.EntryWork.{Ends, ends_by, goes_on, is_store_stop, is_to_end, note_in}
use Rattle.book_import.specs.EntryWork.{note_of, stop_by}
use Rattle.book_import.specs.Pieces.{Saying, SaysAt, SaysSo}
use Rattle.book_import.proofs.ApartLemmas.{handles_apart}
use Rattle.book_import.proofs.EntryLemmas.{end_apart, said_alone, says_longer}
use Rattle.book_import.proofs.StopFaultLemmas.{none_of_closed}

-- ---- another stop

-- the first of some records lead to what they all led to, but for the stop
first_of_them : (answers : Answering) (stop other : Stop) (limit : ℕ) (records : List (List ℕ))
    (so_far : Imported)
    → (count : ℕ) × (count ≤ length records)
    × (handle_all answers other (take count records) so_far
    ≡ with_stop other (handle_all answers stop (take limit records) so_far))
first_of_them answers stop other zero records so_far = (0, omega arith, refl)
first_of_them answers stop other (suc limit) [] so_far = (0, omega arith, refl)
first_of_them answers stop other (suc limit) (bytes ∷ rest) so_far =
    let later : Imported → Imported = handle_all answers stop (take limit rest) in
    elim (handle answers bytes so_far) as (λ handled. handle answers bytes so_far ≡ handled
    → (count : ℕ) × (count ≤ length (bytes ∷ rest))
    × (handle_all answers other (take count (bytes ∷ rest)) so_far
    ≡ with_stop other (handle_all answers stop (take (suc limit) (bytes ∷ rest)) so_far))) [
      | Ok next ↦ λ is.
          let more = first_of_them answers stop other limit rest next in (
            suc more.0,
            omega (arith, more.1),
            ap (continue_with (handle_all answers other (take more.0 rest)) so_far) is ∙ more.2
                ∙ ap (λ handled. with_stop other (continue_with later so_far handled)) (sym is),
          )
      | Err fault ↦ λ is. (
        0,
        omega arith,
        ap (λ handled. with_stop other (continue_with later so_far handled)) (sym is),
      )
    ] refl

-- they were handled so, and then memory ran out,
memory_too : (naming : Naming) (stop : Stop) (records : List (List ℕ)) (told : Receipt) (was : Bool)
    (before : Book) (events : List Event) (is : Bool)
    → Handles naming stop records told was before events is → told.stop ≢ Ledger Store
    → Handles naming stop records (record told { stop = Ledger Memory }) was before events is
memory_too naming stop records told was before events is (whole same gives) other =
    let answers = answers_of was naming in
    let last : Stop = Ledger Memory in
    let first = first_of_them answers stop last (length records) records (nothing_imported before) in
    let all = first.2 ∙ ap (λ those. with_stop last
    (handle_all answers stop those (nothing_imported before)))
    (take_all (length records) records (omega arith)) in
    out_of_memory first.0 same (record {
      receipt = ap (λ (one : Imported). one.receipt) all
          ∙ ap (λ (one : Receipt). record one { stop = Ledger Memory }) gives.receipt;
      events = ap (λ (one : Imported). one.events) all ∙ gives.events;
    })
memory_too naming stop records told was before events is (out_of_memory count same gives) other =
    let last : Stop = Ledger Memory in
    let first = first_of_them (answers_of was naming) last last count records
    (nothing_imported before) in
    out_of_memory first.0 same (record {
      receipt = ap (λ (one : Imported). one.receipt) first.2
          ∙ ap (λ (one : Receipt). record one { stop = Ledger Memory }) gives.receipt;
      events = ap (λ (one : Imported). one.events) first.2 ∙ gives.events;
    })
memory_too naming stop records told was before events is
    (store_failed count kept open_before reopen within either stopped so made) other =
    absurd (other stopped)

-- or the store failed
store_too : (naming : Naming) (stop : Stop) (records : List (List ℕ)) (told : Receipt) (was : Bool)
    (before : Book) (events : List Event) (between is : Bool)
    → Handles naming stop records told was before events between → told.stop ≢ Ledger Store
    → between ≡ false → is ≡ true
    → Handles naming stop records (record told { stop = Ledger Store }) was before events is
store_too naming stop records told was before events between is (whole same gives) other opened
    shut =
    let open_before : was ≡ false = sym same ∙ opened in
    let answers = accept_outcome naming in
    let last : Stop = Ledger Store in
    let gave = subst (λ b. GivesReceipt (handle_all (answers_of b naming) stop records
    (nothing_imported before)) told events) open_before gives in
    let first = first_of_them answers stop last (length records) records (nothing_imported before) in
    let all = first.2 ∙ ap (λ those. with_stop last
    (handle_all answers stop those (nothing_imported before)))
    (take_all (length records) records (omega arith)) in
    store_failed first.0 first.0 open_before shut first.1 (omega arith, first.1) refl
    (ap (λ (one : Imported). one.receipt) all
    ∙ ap (λ (one : Receipt). record one { stop = Ledger Store }) gave.receipt)
    (ap (λ (one : Imported). one.events) all ∙ gave.events)
store_too naming stop records told was before events between is (out_of_memory count same gives)
    other opened shut =
    let open_before : was ≡ false = sym same ∙ opened in
    let gave = subst (λ b. GivesReceipt (handle_all (answers_of b naming) (Ledger Memory)
    (take count records) (nothing_imported before)) told events) open_before gives in
    let first = first_of_them (accept_outcome naming) (Ledger Memory) (Ledger Store) count records
    (nothing_imported before) in
    store_failed first.0 first.0 open_before shut first.1 (omega arith, first.1) refl
    (ap (λ (one : Imported). one.receipt) first.2
    ∙ ap (λ (one : Receipt). record one { stop = Ledger Store }) gave.receipt)
    (ap (λ (one : Imported). one.events) first.2 ∙ gave.events)
store_too naming stop records told was before events between is
    (store_failed count kept open_before reopen within either stopped so made) other opened shut =
    absurd (other stopped)

-- ---- what was said where an import stops

pub says_at : (stop : Stop) (entry : ImportEntry) (naming : Naming) (layout : Layout)
    (bytes : List ℕ) (before : Book) (made : List Event) → is_stop_of_books stop ≡ false
    → SaysSo entry naming layout bytes before made → SaysAt stop entry naming layout bytes before made
says_at (Ledger fault) entry naming layout bytes before made other says =
    absurd (true≢false other)
says_at stop entry naming layout bytes before made other says = says

says_unless : (stop : Stop) (entry : ImportEntry) (naming : Naming) (layout : Layout)
    (bytes : List ℕ) (before : Book) (made : List Event) → is_store_stop stop ≡ false
    → SaysAt stop entry naming layout bytes before made → SaysSo entry naming layout bytes before made
says_unless (Ledger Store) entry naming layout bytes before made other says =
    absurd (true≢false other)
says_unless stop entry naming layout bytes before made other says = says

pub at_longer : (stop : Stop) (entry : ImportEntry) (naming : Naming) (layout : Layout)
    (bytes piece : List ℕ) (before : Book) (made : List Event)
    → SaysAt stop entry naming layout bytes before made
    → SaysAt stop entry naming layout (bytes ++ piece) before made
at_longer (Ledger Store) entry naming layout bytes piece before made says = (
  says.0,
  says.1,
  says_longer (note_of entry) says.0 says.1 naming layout bytes piece before made says.2,
)
at_longer stop entry naming layout bytes piece before made says =
    says_longer (note_of entry) entry.begun entry.ended naming layout bytes piece before made says

-- ---- books that keep nothing have no entry

none_after : (kept : List (List ℕ)) (reading : Reading) (so_far : Option (Reading × Records))
    (early : List Event) → (early ≡ [] → is_some so_far ≡ false)
    → map (λ bytes. RecordKept bytes) kept ++ early ≡ []
    → is_some (with_portion kept reading so_far) ≡ false
none_after [] reading so_far early none is = none is
none_after (bytes ∷ others) reading so_far early none is = absurd (cc is)

pub none_told : (portions : List Portion) → kept_in portions ≡ []
    → is_some (told_so_far portions) ≡ false
none_told [] none = refl
none_told (portion ∷ earlier) none =
    none_after portion.kept portion.reading (told_so_far earlier) (kept_in earlier)
    (λ none. none_told earlier none) none

-- ---- the entry is ended, or need not be

-- what an entry that goes on is, by its parts
going_on : (share : Option Share) (begun : Bool) (ended : Option Stop)
    → (is_some share && begun && is_none ended) ≡ true
    → (note : Note) × (note_in share ≡ Some note) × (begun ≡ true) × (ended ≡ None)
going_on (Some share) true None on = (note_shown share.note, refl, refl, refl)
going_on None begun ended on = absurd (true≢false (sym on))
going_on (Some share) false ended on = absurd (true≢false (sym on))
going_on (Some share) true (Some stop) on = absurd (true≢false (sym on))

-- what has begun with a note and goes on no more has ended
has_ended : (share : Option Share) (begun : Bool) (ended : Option Stop) (stop : Stop)
    → (is_some share && begun && is_none ended) ≡ false → is_some (note_in share) ≡ true
    → begun ≡ true → IfSome ended (λ said. said ≡ stop) → ended ≡ Some stop
has_ended (Some share) true (Some said) stop off some begun same = ap Some same
has_ended (Some share) true None stop off some begun same = absurd (true≢false off)
has_ended (Some share) false ended stop off some begun same = absurd (true≢false (sym begun))
has_ended None begun ended stop off some is_begun same = absurd (true≢false (sym some))

-- the end that was said is the stop
abbrev pub SaidStop : ImportEntry → Stop → Type 0
SaidStop entry stop = IfSome entry.ended (λ said. said ≡ stop)

pub none_stop : (entry : ImportEntry) (stop : Stop) → entry.ended ≡ None → SaidStop entry stop
none_stop entry stop none =
    subst (λ (ended : Option Stop). IfSome ended (λ said. said ≡ stop)) (sym none) tt

module _ (naming : Naming) (layout : Layout) (cut : Option Stop) (bytes : List ℕ)
    (entry : ImportEntry) (receipt : Receipt) (stop : Stop) (told : Receipt)
    (said : SaidStop entry stop) where
  abbrev read : Receipt
  read = record receipt { stop = stop }

  -- nothing more is said of an import whose store failed,
  failed_says : (before : Book) (made : List Event) → told ≡ read → stop ≡ Ledger Store
      → SaysAt (Ledger Store) entry naming layout bytes before made
      → SaysAll (note_of entry) naming layout bytes told before made
  failed_says before made so store says = record {
    begun = says.0;
    ended = says.1;
    says = says.2;
    over = λ some begun free.
        absurd (free.store (ap (λ (one : Receipt). one.stop) so ∙ store));
  }

  -- nor of one that has ended, or has no entry
  calm_says : (before : Book) (made : List Event) → told ≡ read → goes_on entry ≡ false
      → SaysSo entry naming layout bytes before made
      → SaysAll (note_of entry) naming layout bytes told before made
  calm_says before made so off says = record {
    begun = entry.begun;
    ended = entry.ended;
    says = says;
    over = λ some begun free.
        has_ended entry.share entry.begun entry.ended stop off some begun said
        ∙ ap (λ (one : Receipt). Some one.stop) (sym so);
  }

  still_all : (before : Book) (made : List Event) → told ≡ read → is_to_end entry stop ≡ false
      → SaysAt stop entry naming layout bytes before made
      → SaysAll (note_of entry) naming layout bytes told before made
  still_all before made so off says =
      by_stop stop refl off says
    where
      by_stop : (this : Stop) → stop ≡ this
          → (if is_store_stop this then false else goes_on entry) ≡ false
          → SaysAt this entry naming layout bytes before made
          → SaysAll (note_of entry) naming layout bytes told before made
      by_stop (Ledger Store) is off says = failed_says before made so is says
      by_stop this is off says = calm_says before made so off says

  -- the work on the records stays,
  stays_booked : (was between is : Bool) (before : Book) (early events : List Event) → is ≡ between
      → without_notes events ≡ without_notes early
      → told ≡ read
      → Imports naming layout cut bytes read was (unjournaled before) (without_notes early) between
      → Imports naming layout cut bytes told was before (without_notes events) is
  stays_booked was between is before early events same alone so booked =
      let dump = front layout bytes in
      handles_apart naming (stop_after cut dump) dump.records told was before (without_notes events)
      is
      (subst (λ is. Imports naming layout cut bytes told was (unjournaled before)
      (without_notes events) is) (sym same)
      (subst (λ made. Imports naming layout cut bytes told was (unjournaled before) made between)
      (sym alone)
      (subst (λ told. Imports naming layout cut bytes told was (unjournaled before)
      (without_notes early) between) (sym so) booked)))

  -- where the entry is not to be ended
  not_ended : Implies
      (Then (Saying (SaysAt stop entry naming layout bytes) (Imports naming layout cut bytes read))
      (ends_by false receipt stop told))
      (λ was before events is. is_to_end entry stop ≡ false
      → ImportsOf (note_of entry) naming layout cut bytes told was before events is)
  not_ended was before events is both off =
      let none = both.next.0 in
      let same : events ≡ both.early = both.all ∙ ap (λ late. late ++ both.early) none.none in
      record {
        booked = stays_booked was both.between is before both.early events none.same
            (ap without_notes same) both.next.1 both.first.records;
        says = subst (λ made. SaysAll (note_of entry) naming layout bytes told before made) (sym same)
            (still_all before both.early both.next.1 off both.first.said);
      }

  -- ---- where it is

  -- what an import with an entry has said, with an end or without one
  with_words : (note : Note) (before : Book) (early events : List Event) (ended : Option Stop)
      → note_of entry ≡ Some note → entry.begun ≡ true → entry.ended ≡ None
      → SaysSo entry naming layout bytes before early
      → events ≡ with_end ended early
      → Says (note_of entry) true ended naming layout bytes before events
  with_words note before early events ended is begun none says all =
      let so : SaidBy note true None naming layout bytes before early =
      subst (λ ended. SaidBy note true ended naming layout bytes before early) none
      (subst (λ begun. SaidBy note begun entry.ended naming layout bytes before early) begun
      (subst (λ import. Says import entry.begun entry.ended naming layout bytes before early) is
      says)) in
      subst (λ import. Says import true ended naming layout bytes before events) (sym is) (record {
        portions = so.portions;
        each = so.each;
        entry = so.entry;
        none = λ off. absurd (true≢false off);
        events = all ∙ ap (with_end ended) so.events;
      })

  -- books that are to be reopened have no entry to end
  never_closed : (note : Note) (was between : Bool) (before : Book) (early : List Event)
      → note_of entry ≡ Some note → entry.begun ≡ true → stop ≢ Ledger Store → between ≡ true
      → SaysSo entry naming layout bytes before early
      → Imports naming layout cut bytes read was (unjournaled before) (without_notes early) between
      → ⊥
  never_closed note was between before early is begun other shut says booked =
      let so : SaidBy note entry.begun entry.ended naming layout bytes before early =
      subst (λ import. Says import entry.begun entry.ended naming layout bytes before early) is
      says in
      let dump = front layout bytes in
      let none : without_notes early ≡ [] =
      none_of_closed naming (stop_after cut dump) dump.records read was (unjournaled before)
      (without_notes early) between booked shut other in
      let alone = said_alone note entry.begun entry.ended naming layout bytes before early so in
      true≢false (sym begun ∙ sym so.entry ∙ none_told so.portions (sym alone ∙ none))

  -- the store failed as it was ended
  failed_end : (note : Note) (was is : Bool) (before : Book) (early events : List Event)
      (ended : Option Stop) → note_of entry ≡ Some note → entry.begun ≡ true
      → entry.ended ≡ None → SaysSo entry naming layout bytes before early
      → events ≡ with_end ended early → told ≡ record receipt { stop = Ledger Store }
      → Imports naming layout cut bytes told was (unjournaled before) (without_notes early) is
      → ImportsOf (note_of entry) naming layout cut bytes told was before events is
  failed_end note was is before early events ended is_note begun going says made so booked =
      let dump = front layout bytes in
      record {
        booked = handles_apart naming (stop_after cut dump) dump.records told was before
            (without_notes events) is
            (subst (λ made. Imports naming layout cut bytes told was (unjournaled before) made is)
            (sym (ap without_notes made ∙ end_apart ended early)) booked);
        says = record {
          begun = true;
          ended = ended;
          says = with_words note before early events ended is_note begun going says made;
          over = λ some begun free.
              absurd (free.store (ap (λ (one : Receipt). one.stop) so));
        };
      }

  -- by what the books answered
  ended_by : (note : Note) (answer : Result (Unit {0}) LedgerFault) (was between is : Bool)
      (before : Book) (early late events : List Event)
      → note_of entry ≡ Some note → entry.begun ≡ true → entry.ended ≡ None → stop ≢ Ledger Store
      → SaysSo entry naming layout bytes before early
      → Imports naming layout cut bytes read was (unjournaled before) (without_notes early) between
      → Calls (λ (done : Unit {0}). done) (ended_outcome stop) answer between
      (after_all early before) late is
      → told ≡ record receipt { stop = stop_by stop answer }
      → events ≡ late ++ early
      → ImportsOf (note_of entry) naming layout cut bytes told was before events is
  ended_by note (Ok done) was between is before early late events is_note begun going other says booked
      called so all =
      let same : is ≡ between =
      called.reopens.store ∙ ap (λ b. b || false) (sym called.reopens.reopen)
      ∙ called.reopens.reopen in
      let made : events ≡ ImportEnded (stop_shown stop) ∷ early =
      all ∙ ap (λ late. late ++ early) called.makes.1 in
      record {
        booked = stays_booked was between is before early events same (ap without_notes made) so booked;
        says = record {
          begun = true;
          ended = Some stop;
          says = with_words note before early events (Some stop) is_note begun going says made;
          over = λ some begun free. ap (λ (one : Receipt). Some one.stop) (sym so);
        };
      }
  ended_by note (Err Memory) was between is before early late events is_note begun going other says
      booked called so all =
      let same : is ≡ between =
      called.reopens.store ∙ ap (λ b. b || false) (sym called.reopens.reopen)
      ∙ called.reopens.reopen in
      let made : events ≡ early = all ∙ ap (λ late. late ++ early) called.makes in
      let dump = front layout bytes in
      let memory = memory_too naming (stop_after cut dump) dump.records read was (unjournaled before)
      (without_notes early) between booked other in
      record {
        booked = handles_apart naming (stop_after cut dump) dump.records told was before
            (without_notes events) is
            (subst (λ is. Imports naming layout cut bytes told was (unjournaled before)
            (without_notes events) is) (sym same)
            (subst (λ made. Imports naming layout cut bytes told was (unjournaled before)
            (without_notes made) between) (sym made)
            (subst (λ told. Imports naming layout cut bytes told was (unjournaled before)
            (without_notes early) between) (sym so) memory)));
        says = record {
          begun = true;
          ended = None;
          says = with_words note before early events None is_note begun going says made;
          over = λ some begun free.
              absurd (free.memory (ap (λ (one : Receipt). one.stop) so));
        };
      }
  ended_by note (Err Store) was between is before early late events is_note begun going other says
      booked called so all =
      let opened : between ≡ false = sym called.reopens.reopen in
      let shut : is ≡ true =
      called.reopens.store ∙ ap (λ b. b || true) opened in
      let dump = front layout bytes in
      let store = store_too naming (stop_after cut dump) dump.records read was (unjournaled before)
      (without_notes early) between is booked other opened shut in
      let told_so = subst (λ told. Imports naming layout cut bytes told was (unjournaled before)
      (without_notes early) is) (sym so) store in
      elim called.makes [
        | inl none ↦
            failed_end note was is before early events None is_note begun going says
            (all ∙ ap (λ late. late ++ early) none) so told_so
        | inr ended ↦
            failed_end note was is before early events (Some stop) is_note begun going says
            (all ∙ ap (λ late. late ++ early) ended) so told_so
      ]
  ended_by note (Err Reopen) was between is before early late events is_note begun going other says
      booked called so all =
      absurd (never_closed note was between before early is_note begun other
      (sym called.reopens.reopen) says booked)
  ended_by note (Err fault) was between is before early late events is_note begun going other says
      booked called so all =
      absurd (let no = called.makes.0 in cc)

  -- where the entry is to be ended
  now_ended : Implies
      (Then (Saying (SaysAt stop entry naming layout bytes) (Imports naming layout cut bytes read))
      (ends_by true receipt stop told))
      (λ was before events is. is_to_end entry stop ≡ true
      → ImportsOf (note_of entry) naming layout cut bytes told was before events is)
  now_ended was before events is both on =
      let calm = calm_on (is_store_stop stop) refl on in
      let parts = going_on entry.share entry.begun entry.ended calm.1 in
      ended_by parts.0 both.next.0 was both.between is before both.early both.late events parts.1
      parts.2 parts.3 (λ store. true≢false (ap is_store_stop (sym store) ∙ calm.0))
      (says_unless stop entry naming layout bytes before both.early calm.0 both.first.said)
      both.first.records both.next.1 both.next.2 both.all
    where
      calm_on : (store : Bool) → is_store_stop stop ≡ store
          → (if store then false else goes_on entry) ≡ true
          → (is_store_stop stop ≡ false) × (goes_on entry ≡ true)
      calm_on true is on = absurd (true≢false (sym on))
      calm_on false is on = (is, on)

  -- the import is over
  pub over : Implies
      (Then (Saying (SaysAt stop entry naming layout bytes) (Imports naming layout cut bytes read))
      (Ends entry receipt stop told))
      (ImportsOf (note_of entry) naming layout cut bytes told)
  over was before events is both =
      elim (is_to_end entry stop) as (λ to_end. is_to_end entry stop ≡ to_end
      → Then (Saying (SaysAt stop entry naming layout bytes) (Imports naming layout cut bytes read))
      (ends_by to_end receipt stop told) was before events is
      → ImportsOf (note_of entry) naming layout cut bytes told was before events is) [
        | true ↦ λ on both. now_ended was before events is both on
        | false ↦ λ off both. not_ended was before events is both off
      ] refl both

-- ---- the receipt

pub ends_plain : (import : Option Note) (done told : Receipt) → told ≡ done → EndsAs import done told
ends_plain None done told so = so
ends_plain (Some note) done told so = inl so

pub ends_refused : (entry : ImportEntry) (stop : Stop) (done told : Receipt) (fault : LedgerFault)
    → is_to_end entry stop ≡ true → told ≡ record done { stop = Ledger fault }
    → EndsAs (note_of entry) done told
ends_refused entry stop done told fault on so =
    let parts = going_on entry.share entry.begun entry.ended
    (by_store (is_store_stop stop) on) in
    subst (λ import. EndsAs import done told) (sym parts.1) (inr (fault, so))
  where
    by_store : (store : Bool) → (if store then false else goes_on entry) ≡ true
        → goes_on entry ≡ true
    by_store true on = absurd (true≢false (sym on))
    by_store false on = on

-- it counts what was counted
pub ends_counted : (import : Option Note) (done told : Receipt) → EndsAs import done told
    → counted told ≡ counted done
ends_counted None done told so = ap counted so
ends_counted (Some note) done told (inl so) = ap counted so
ends_counted (Some note) done told (inr refused) = ap counted refused.1

-- ---- the books are told

pub stays_so : (seen : Seen) (entry : ImportEntry) (receipt : Receipt) (stop : Stop)
    (told : Receipt) → is_to_end entry stop ≡ false → told ≡ record receipt { stop = stop }
    → IsTransition seen seen (Ends entry receipt stop told)
stays_so seen entry receipt stop told off so =
    subst (λ to_end. IsTransition seen seen (ends_by to_end receipt stop told)) (sym off)
    (work_as seen seen NoEvent (ends_by false receipt stop told)
    (λ was before events is none. (none, so)) (no_work seen))

pub is_ended : (old new : Seen) (entry : ImportEntry) (receipt : Receipt) (stop : Stop)
    (told : Receipt) (answer : Result (Unit {0}) LedgerFault) → is_to_end entry stop ≡ true
    → told ≡ record receipt { stop = stop_by stop answer }
    → IsTransition old new (Calls (λ (done : Unit {0}). done) (ended_outcome stop) answer)
    → IsTransition old new (Ends entry receipt stop told)
is_ended old new entry receipt stop told answer on so work =
    subst (λ to_end. IsTransition old new (ends_by to_end receipt stop told)) (sym on)
    (work_as old new (Calls (λ (done : Unit {0}). done) (ended_outcome stop) answer)
    (ends_by true receipt stop told)
    (λ was before events is called. (answer, called, so)) work)
