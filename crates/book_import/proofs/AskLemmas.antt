-- What an import says with the records that it asks the books about, and with those that they
-- refuse.
use Rattle.std.proofs.Common.{◌≡◌, ◌∙◌, ℕ, Bool, true, false, List, [], ◌∷◌, ◌++◌, refl, sym, ap}
use Rattle.std.proofs.Common.{subst, Ok, Err, Option, Some, None, append_assoc, append-nil}
use Rattle.std.proofs.Common.{◌||◌, ◌==◌, length, map}
use Rattle.std.specs.Prelude.{IfSome, if◌then◌else◌, option_map}
use Rattle.std.proofs.Math.Bool.{or-false, or-true}
use Rattle.smf_frames.specs.declared.dump.Layout.{Layout}
use Rattle.smf_type30.specs.declared.record_class.Class.{Class}
use Rattle.smf_type30.specs.declared.record_class.Class.TheVariants.{Continuation, Damaged, DataLost}
use Rattle.smf_type30.specs.declared.record_class.Class.TheVariants.{DumpHeader, DumpTrailer, Other}
use Rattle.smf_type30.specs.declared.record_class.Class.TheVariants.{Usage}
use Rattle.book_model.specs.declared.answer.Accepted.{Accepted}
use Rattle.book_model.specs.declared.fault.LedgerFault.{LedgerFault}
use Rattle.book_model.specs.declared.fault.LedgerFault.TheVariants.{Memory, Reopen, Store}
use Rattle.book_model.specs.declared.note.Share.{Share}
use Rattle.book_model.specs.declared.note.Stop.{Stop}
use Rattle.book_model.specs.declared.note.Stop.TheVariants.{End, Ledger}
use Rattle.book_model.specs.declared.note.Reading.{Reading as GivenReading}
use Rattle.book_model.specs.JournalLaws.{unjournaled, without_notes}
use Rattle.book_model.specs.Words.{Book, Event, Naming, accept_outcome, after_all, class_of}
use Rattle.book_model.specs.Words.{front, read_with, reading_shown}
use Rattle.book_model.proofs.JournalLemmas.{journal_stands_apart}
use Rattle.book_core.specs.Submissions.{Accepts, AcceptsOf}
use Rattle.book_core.specs.Transition.{Then}
use Rattle.book_core.proofs.SubmissionLemmas.{all_kept}
use Rattle.book_core.proofs.ThenLemmas.{then_nothing}
use Rattle.book_core.proofs.TransitionLemmas.{Implies}
use Rattle.book_import.specs.declared.import_entry.ImportEntry.{ImportEntry}
use Rattle.book_import.specs.declared.read_bytes.ReadBytes.{ReadBytes}
use Rattle.book_import.specs.declared.receipt.Receipt.{Receipt}
use Rattle.book_import.specs.Receipts.{count_ahead, count_class}
use Rattle.book_import.specs.Handled.{Imported, handle_all, nothing_imported}
use Rattle.book_import.specs.ImportEntries.{IsSaid, Says, reading_of}
use Rattle.book_import.specs.EntryWork.{AreRead, HasRead, hears, if_whole, keeps_one, note_in, note_of}
use Rattle.book_import.specs.EntryWork.{reading_with, said_with, says_next, share_with}
use Rattle.book_import.specs.Pieces.{LeadsTo, Saying, SaysAt, SaysSo}
use Rattle.book_import.specs.Groups.{Asks, AsksOf, IsAfter, StopsAmong, usage_of}
use Rattle.book_import.proofs.ApartLemmas.{gives_apart, reads_none}
use Rattle.book_import.proofs.EntryLemmas.{end_said, said_more}
use Rattle.book_import.proofs.GatheringLemmas.{usage_one}
use Rattle.book_import.proofs.GroupLemmas.{Ahead, asked_ahead, counts_all, stopped_among}
use Rattle.book_import.proofs.SayingLemmas.{asks_alone, kept_alone, notes-append}
use Rattle.book_import.proofs.SayingLemmas.{takes_alone, then_alone}

-- ---- what a change says

-- the stop of a receipt is not counted
one_stop : (class : Class) (receipt : Receipt) (stop : Stop)
    → count_class class (record receipt { stop = stop })
    ≡ record (count_class class receipt) { stop = stop }
one_stop DumpHeader receipt stop = refl
one_stop DumpTrailer receipt stop = refl
one_stop DataLost receipt stop = refl
one_stop Other receipt stop = refl
one_stop Continuation receipt stop = refl
one_stop (Damaged damage) receipt stop = refl
one_stop Usage receipt stop = refl

counts_stop : (classes : List Class) (receipt : Receipt) (stop : Stop)
    → count_ahead classes (record receipt { stop = stop })
    ≡ record (count_ahead classes receipt) { stop = stop }
counts_stop [] receipt stop = refl
counts_stop (class ∷ later) receipt stop =
    ap (count_ahead later) (one_stop class receipt stop)
    ∙ counts_stop later (count_class class receipt) stop

-- The import has read these bytes, and open books gave these answers to the first of the records
-- that wait.
pub said_here : (naming : Naming) (layout : Layout) (bytes : List ℕ) (started records : List (List ℕ))
    (answers : List Accepted) (receipt counts : Receipt) (before : Book) (events : List Event)
    (is : Bool) → started ++ records ≡ (front layout bytes).records
    → counts ≡ count_ahead (map class_of records) receipt
    → Ahead naming started (usage_of records) answers receipt false (unjournaled before) events is
    → IsSaid naming layout bytes before events (read_with answers (reading_of bytes counts))
said_here naming layout bytes started records answers receipt counts before events is found counts_are
    ahead =
    let counted = counts_all naming records started answers receipt false (unjournaled before) events
    is ahead in
    let those = started ++ counted.first in
    let told = record counted.receipt { stop = End } in
    let handled = ap (λ all. handle_all (accept_outcome naming) End all
    (nothing_imported (unjournaled before))) (sym (append-nil those)) ∙ counted.leads.leads End [] in
    record {
      read = bytes;
      later = [];
      parts = append-nil bytes;
      answered = those;
      waiting = counted.rest;
      found = append_assoc started counted.first counted.rest
          ∙ ap (λ rest. started ++ rest) counted.parts ∙ found;
      receipt = told;
      told = gives_apart (accept_outcome naming) (reads_none false naming) End those before told events
          (record {
            receipt = ap (λ (one : Imported). one.receipt) handled;
            events = ap (λ (one : Imported). one.events) handled;
          });
      counts = ap (λ counts. read_with answers (reading_of bytes counts)) counts_are
          ∙ sym (counted.ahead bytes)
          ∙ ap (λ counts. reading_of bytes counts)
          (sym (counts_stop (map class_of counted.rest) counted.receipt End));
    }

-- answers are those of open books
pub open_ahead : (naming : Naming) (started waiting : List (List ℕ)) (answer : Accepted)
    (left : List Accepted) (receipt : Receipt) (was : Bool) (before : Book) (events : List Event)
    (is : Bool) → Ahead naming started waiting (answer ∷ left) receipt was before events is
    → was ≡ false
open_ahead naming started [] answer left receipt was before events is ahead = absurd ahead.next
open_ahead naming started (bytes ∷ rest) answer left receipt was before events is ahead =
    sym ahead.first.same ∙ sym ahead.next.first.reopens.reopen

-- ---- the words of an import

-- other words with the same note
note_still : (share : Option Share) (begun : Bool) (reading : GivenReading) (ending : Option Stop)
    → note_in (option_map (share_with begun reading ending) share) ≡ note_in share
note_still None begun reading ending = refl
note_still (Some share) begun reading ending = refl

pub next_note : (entry : ImportEntry) (counts : Receipt) (ending : Option Stop)
    → note_of (says_next entry counts ending) ≡ note_of entry
next_note entry counts ending =
    note_still entry.share entry.begun (reading_with entry.bytes counts) ending

pub heard_note : (answers : List Accepted) (ended : Option Stop) (entry : ImportEntry)
    → note_of (hears answers ended entry) ≡ note_of entry
heard_note answers ended entry =
    elim (keeps_one answers) as (λ kept.
    note_of (if kept then record entry { begun = true; ended = ended } else entry)
    ≡ note_of entry) [ true ↦ refl | false ↦ refl ]

-- what was read, as the journal has it
reading_is : (bytes : List ℕ) (read : ReadBytes) (counts : Receipt) → AreRead bytes read
    → reading_shown (reading_with read counts) ≡ reading_of bytes counts
reading_is bytes read counts are = λ i. record {
  digest = are.digest i;
  length = are.length i;
  known = counts.known;
  unpriced = counts.unpriced;
  other = counts.other;
  headers = counts.headers;
  trailers = counts.trailers;
  lost = counts.lost;
  continued = counts.continued;
  damaged = counts.damaged;
}

module _ (naming : Naming) (layout : Layout) (bytes : List ℕ) (before : Book) (begun : Bool)
    (read : ReadBytes) (counts : Receipt) (ending : Option Stop) where
  -- A change took records with what the import says, by its share, if it has one.
  change_says : (share : Option Share) (records : List (List ℕ)) (answers : List Accepted)
      (was : Bool) (middle : Book) (early late : List Event) (is : Bool)
      → IfSome share (λ one. AreRead bytes read)
      → Says (note_in share) begun None naming layout bytes before early
      → AcceptsOf naming (option_map (share_with begun (reading_with read counts) ending) share)
      records answers was middle late is
      → IsSaid naming layout bytes before (without_notes (late ++ early))
      (read_with answers (reading_of bytes counts))
      → Says (note_in share) (begun || keeps_one answers)
      (end_said (keeps_one answers) (length answers == length records) ending) naming layout bytes
      before (late ++ early)
  change_says None records answers was middle early late is none says of said =
      let are = all_kept naming records answers was middle of.kept is of.accepts in
      let alone : without_notes late ≡ late =
      ap without_notes of.told ∙ kept_alone of.kept are ∙ sym of.told in
      notes-append late early ∙ (λ i. alone i ++ says i)
  change_says (Some share) records answers was middle early late is are says of said =
      said_more naming layout bytes before
      (share_with begun (reading_with read counts) ending share) records answers was middle early
      late is says of
      (subst (λ reading. IsSaid naming layout bytes before (without_notes (late ++ early))
      (read_with answers reading)) (sym (reading_is bytes read counts are)) said)

module _ (naming : Naming) (layout : Layout) (bytes : List ℕ) (before : Book) (made : List Event) where
  -- the entry once the books answered so
  heard_so : (kept : Bool) (entry : ImportEntry) (ended : Option Stop) → entry.ended ≡ None
      → Says (note_of entry) (entry.begun || kept) (if kept then ended else None) naming layout
      bytes before made
      → SaysSo (if kept then record entry { begun = true; ended = ended } else entry) naming layout
      bytes before made
  heard_so true entry ended none says =
      subst (λ begun. Says (note_of entry) begun ended naming layout bytes before made)
      (or-true entry.begun) says
  heard_so false entry ended none says =
      subst (λ begun. Says (note_of entry) begun entry.ended naming layout bytes before made)
      (or-false entry.begun)
      (subst (λ ended. Says (note_of entry) (entry.begun || false) ended naming layout bytes before
      made) (sym none) says)

  -- the entry before they answered
  pub next_so : (entry : ImportEntry) (counts : Receipt) (ending : Option Stop)
      → SaysSo entry naming layout bytes before made
      → SaysSo (says_next entry counts ending) naming layout bytes before made
  next_so entry counts ending says =
      subst (λ note. Says note entry.begun entry.ended naming layout bytes before made)
      (sym (next_note entry counts ending)) says

-- records that led to a receipt while books stayed open
open_leads : (naming : Naming) (started waiting : List (List ℕ)) (receipt : Receipt)
    (was is : Bool) (before : Book) (events : List Event) → is ≡ false
    → Ahead naming started waiting [] receipt was before events is
    → LeadsTo naming started receipt false before events false
open_leads naming started waiting receipt was is before events shut ahead =
    let leads = then_nothing (LeadsTo naming started receipt) was before events is ahead in
    subst (λ b. LeadsTo naming started receipt b before events false) (sym leads.same ∙ shut)
    (subst (λ b. LeadsTo naming started receipt was before events b) shut leads)

-- ---- the books are asked

-- Records wait behind those that were counted, and the import has read all of them. It counted
-- ahead of the books' answers, and has said no end yet.
pub record IsAsked (layout : Layout) (bytes : List ℕ) (started records : List (List ℕ))
    (receipt counts : Receipt) (entry : ImportEntry) : Type 0 where
  pub found : started ++ records ≡ (front layout bytes).records
  pub counted : counts ≡ count_ahead (map class_of records) receipt
  pub read : HasRead bytes entry
  pub none : entry.ended ≡ None

module _ (naming : Naming) (layout : Layout) (bytes : List ℕ) (started records : List (List ℕ))
    (receipt counts : Receipt) (entry : ImportEntry) (ending : Option Stop) where
  -- what a change says of the records that it took
  takes_says : (answers : List Accepted) (between is : Bool) (before : Book)
      (early late events : List Event)
      → IsAsked layout bytes started records receipt counts entry
      → SaysSo entry naming layout bytes before early
      → AcceptsOf naming (said_with entry counts ending) (usage_of records) answers between
      (after_all early before) late is
      → events ≡ late ++ early
      → Ahead naming started (usage_of records) answers receipt false (unjournaled before)
      (without_notes events) is
      → Says (note_of entry) (entry.begun || keeps_one answers)
      (end_said (keeps_one answers) (length answers == length (usage_of records)) ending) naming
      layout bytes before events
  takes_says answers between is before early late events asked says of all ahead =
      let said = said_here naming layout bytes started records answers receipt counts before
      (without_notes events) is asked.found asked.counted ahead in
      subst (λ made. Says (note_of entry) (entry.begun || keeps_one answers)
      (end_said (keeps_one answers) (length answers == length (usage_of records)) ending) naming
      layout bytes before made) (sym all)
      (change_says naming layout bytes before entry.begun entry.bytes counts ending entry.share
      (usage_of records) answers between (after_all early before) early late is asked.read
      (subst (λ ended. Says (note_of entry) entry.begun ended naming layout bytes before early)
      asked.none says)
      of
      (subst (λ made. IsSaid naming layout bytes before (without_notes made)
      (read_with answers (reading_of bytes counts))) all said))

  -- the first that waits was answered
  pub asked_saying : (pending left : List Accepted) (answer : Accepted) (after : ImportEntry)
      → (pending ≡ [] → IsAsked layout bytes started records receipt counts entry)
      → IsAfter entry counts ending (usage_of records) pending (Ok answer) left after
      → Implies
      (Then (Saying (SaysSo entry naming layout bytes)
      (Ahead naming started (usage_of records) pending receipt))
      (AsksOf naming entry counts ending (usage_of records) pending (Ok answer) left))
      (Saying (SaysSo after naming layout bytes)
      (Ahead naming started (usage_of records) (answer ∷ left) receipt))
  asked_saying pending left answer after asked now was before events is both = record {
    records = ahead;
    said = words pending asked now both ahead;
  }
    where
      ahead : Ahead naming started (usage_of records) (answer ∷ left) receipt was
          (unjournaled before) (without_notes events) is
      ahead =
          asked_ahead naming started (usage_of records) pending left receipt answer was
          (unjournaled before) (without_notes events) is
          (then_alone (SaysSo entry naming layout bytes)
          (Ahead naming started (usage_of records) pending receipt)
          (AsksOf naming entry counts ending (usage_of records) pending (Ok answer) left)
          (Asks naming (usage_of records) pending (Ok answer) left)
          (asks_alone naming entry counts ending (usage_of records) pending (Ok answer) left)
          was before events is both)

      words : (pending : List Accepted)
          → (pending ≡ [] → IsAsked layout bytes started records receipt counts entry)
          → IsAfter entry counts ending (usage_of records) pending (Ok answer) left after
          → Then (Saying (SaysSo entry naming layout bytes)
          (Ahead naming started (usage_of records) pending receipt))
          (AsksOf naming entry counts ending (usage_of records) pending (Ok answer) left)
          was before events is
          → Ahead naming started (usage_of records) (answer ∷ left) receipt was
          (unjournaled before) (without_notes events) is
          → SaysSo after naming layout bytes before events
      words (one ∷ later) asked now both ahead =
          subst (λ entry. SaysSo entry naming layout bytes before events) (sym now.2)
          (subst (λ made. SaysSo entry naming layout bytes before made)
          (sym (both.all ∙ ap (λ late. late ++ both.early) both.next.0.none)) both.first.said)
      words [] asked now both ahead =
          let answers = answer ∷ left in
          let is_asked = asked refl in
          let opened = open_ahead naming started (usage_of records) answer left receipt was
          (unjournaled before) (without_notes events) is ahead in
          let says = takes_says answers both.between is before both.early both.late events
          is_asked both.first.said both.next both.all
          (subst (λ was. Ahead naming started (usage_of records) answers receipt was
          (unjournaled before) (without_notes events) is) opened ahead) in
          let next = says_next entry counts ending in
          subst (λ entry. SaysSo entry naming layout bytes before events) (sym now)
          (heard_so naming layout bytes before events (keeps_one answers) next
          (if_whole answers (usage_of records) ending) is_asked.none
          (subst (λ note. Says note (entry.begun || keeps_one answers)
          (end_said (keeps_one answers) (length answers == length (usage_of records)) ending) naming
          layout bytes before events) (sym (next_note entry counts ending)) says))

  -- nothing was said that was not said before
  still_says : (after : ImportEntry) (before : Book) (early late events : List Event)
      → after ≡ says_next entry counts ending → late ≡ [] → events ≡ late ++ early
      → SaysSo entry naming layout bytes before early
      → SaysSo after naming layout bytes before events
  still_says after before early late events is none all says =
      subst (λ entry. SaysSo entry naming layout bytes before events) (sym is)
      (next_so naming layout bytes before events entry counts ending
      (subst (λ made. SaysSo entry naming layout bytes before made)
      (sym (all ∙ ap (λ late. late ++ early) none)) says))

  -- what was said where the books refused the first that waits, by the fault
  refused_words : (fault : LedgerFault) (pending left : List Accepted) (after : ImportEntry)
      (was : Bool) (before : Book) (events : List Event) (is : Bool)
      → (pending ≡ [] → IsAsked layout bytes started records receipt counts entry)
      → IsAfter entry counts ending (usage_of records) pending (Err fault) left after
      → Then (Saying (SaysSo entry naming layout bytes)
      (Ahead naming started (usage_of records) pending receipt))
      (AsksOf naming entry counts ending (usage_of records) pending (Err fault) left) was before
      events is
      → SaysAt (Ledger fault) after naming layout bytes before events
  refused_words fault (one ∷ later) left after was before events is asked now both =
      absurd (let no = now.0 in cc)
  refused_words Store [] left after was before events is asked now both =
      let keeps = both.next in
      let answers = keeps.answers in
      let first = both.first.records in
      let kept = takes_alone naming (said_with entry counts ending) (usage_of records) answers false
      (after_all both.early before) both.late false keeps.kept in
      let ahead : Ahead naming started (usage_of records) answers receipt false (unjournaled before)
      (without_notes events) false = record {
        between = false;
        early = without_notes both.early;
        late = without_notes both.late;
        first = open_leads naming started (usage_of records) receipt was both.between
            (unjournaled before) (without_notes both.early) keeps.was_open first;
        next = subst (λ book. Accepts naming (usage_of records) answers false book
            (without_notes both.late) false) (journal_stands_apart before both.early) kept;
        all = ap without_notes both.all ∙ notes-append both.late both.early;
      } in
      let says = takes_says answers false false before both.early both.late events (asked refl)
      both.first.said keeps.kept both.all ahead in (
        entry.begun || keeps_one answers,
        end_said (keeps_one answers) (length answers == length (usage_of records)) ending,
        subst (λ note. Says note (entry.begun || keeps_one answers)
            (end_said (keeps_one answers) (length answers == length (usage_of records)) ending)
            naming layout bytes before events)
            (sym (ap note_of now ∙ next_note entry counts ending)) says,
      )
  refused_words Memory [] left after was before events is asked now both =
      still_says after before both.early both.late events now both.next.makes both.all
      both.first.said
  refused_words Reopen [] left after was before events is asked now both =
      still_says after before both.early both.late events now both.next.makes both.all
      both.first.said
  refused_words fault [] left after was before events is asked now both =
      still_says after before both.early both.late events now both.next.makes.1 both.all
      both.first.said

-- the books refused the first that waits: the import is stopped there
pub refused_saying : (naming : Naming) (layout : Layout) (text : List ℕ)
    (started rest : List (List ℕ)) (bytes : List ℕ) (receipt counts : Receipt)
    (entry : ImportEntry) (ending : Option Stop) (pending left : List Accepted)
    (fault : LedgerFault) (after : ImportEntry) → class_of bytes ≡ Usage
    → (pending ≡ [] → IsAsked layout text started (bytes ∷ rest) receipt counts entry)
    → IsAfter entry counts ending (usage_of (bytes ∷ rest)) pending (Err fault) left after
    → Implies
    (Then (Saying (SaysSo entry naming layout text)
    (Ahead naming started (usage_of (bytes ∷ rest)) pending receipt))
    (AsksOf naming entry counts ending (usage_of (bytes ∷ rest)) pending (Err fault) left))
    (Saying (SaysAt (Ledger fault) after naming layout text)
    (StopsAmong naming started (bytes ∷ rest) (record receipt { stop = Ledger fault })))
refused_saying naming layout text started rest bytes receipt counts entry ending pending left fault
    after usage asked now was before events is both =
    let waiting = usage_of (bytes ∷ rest) in
    let alone = then_alone (SaysSo entry naming layout text)
    (Ahead naming started waiting pending receipt)
    (AsksOf naming entry counts ending waiting pending (Err fault) left)
    (Asks naming waiting pending (Err fault) left)
    (asks_alone naming entry counts ending waiting pending (Err fault) left) was before events
    is both in
    record {
      records = stopped_among naming started bytes rest pending left receipt fault usage was
          (unjournaled before) (without_notes events) is
          (subst (λ waiting. Then (Ahead naming started waiting pending receipt)
          (Asks naming waiting pending (Err fault) left) was (unjournaled before)
          (without_notes events) is) (usage_one bytes rest usage) alone);
      said = refused_words naming layout text started (bytes ∷ rest) receipt counts entry ending
          fault pending left after was before events is asked now both;
    }
