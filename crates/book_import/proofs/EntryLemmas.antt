-- What an import has said of itself, change by change.
use Rattle.std.proofs.Common.{◌≡◌, ◌∙◌, ℕ, Bool, true, false, List, [], ◌∷◌, ◌++◌, refl, sym, ap}
use Rattle.std.proofs.Common.{◌+◌, ◌<◌, add-one, drop, drop-cons, get_or}
use Rattle.std.proofs.Common.{subst, Option, Some, None, append_assoc, map, is_some}
use Rattle.std.proofs.Common.{true≢false, ◌||◌, ◌==◌, length, Ok, Result}
use Rattle.std.specs.Prelude.{if◌then◌else◌}
use Rattle.std.proofs.Math.Bool.{or-false, or-true}
use Rattle.smf_frames.specs.declared.dump.Layout.{Layout}
use Rattle.book_model.specs.declared.answer.Accepted.{Accepted}
use Rattle.book_model.specs.declared.answer.Accepted.TheVariants.{Kept, Known, Unpriced}
use Rattle.book_model.specs.declared.fault.LedgerFault.{LedgerFault}
use Rattle.book_model.specs.declared.note.Share.{Share}
use Rattle.book_model.specs.declared.note.Stop.{Stop}
use Rattle.book_model.specs.JournalLaws.{without_notes}
use Rattle.book_model.specs.Words.{Book, Event, ImportBegun, ImportRead, Naming, Note}
use Rattle.book_model.specs.Words.{Portion, Reading, RecordKept, Records}
use Rattle.book_model.specs.Words.{accept_event, after_all, import_events}
use Rattle.book_model.specs.Words.{note_shown, read_with, reading_shown, told, told_end}
use Rattle.book_model.specs.Words.{told_so_far}
use Rattle.book_model.specs.Notes.{with_portion}
use Rattle.book_core.specs.Calls.{listed}
use Rattle.book_core.specs.Submissions.{Accepts, AcceptsOf}
use Rattle.book_core.proofs.SubmissionLemmas.{AreKept, all_kept}
use Rattle.book_import.specs.EntryWork.{is_kept, keeps_one}
use Rattle.book_import.specs.ImportEntries.{AreSaid, IsSaid, SaidBy, Says, kept_in, with_end}
use Rattle.book_import.proofs.SayingLemmas.{by_alone, notes-append, told_alone}

-- ---- the records that a change kept

-- the bytes of records among events
abbrev pub bytes_in : List Event → List (List ℕ)
bytes_in [] = []
bytes_in (RecordKept bytes ∷ older) = bytes ∷ bytes_in older
bytes_in (event ∷ older) = bytes_in older

abbrev keeps : List (List ℕ) → List Event
keeps records = map (λ bytes. RecordKept bytes) records

-- events of records alone are those of their bytes,
keeps_those : (kept : List Event) → AreKept kept → keeps (bytes_in kept) ≡ kept
keeps_those [] are = refl
keeps_those (RecordKept bytes ∷ older) are =
    ap (λ events. RecordKept bytes ∷ events) (keeps_those older are)
keeps_those (event ∷ older) are = absurd are

-- and such events are of records alone
are_kept : (records : List (List ℕ)) → AreKept (keeps records)
are_kept [] = tt
are_kept (bytes ∷ later) = are_kept later

-- some there are
abbrev pub has_some : {A : Type 0} → List A → Bool
has_some [] = false
has_some (one ∷ others) = true

has-append : (late early : List Event) → has_some (late ++ early) ≡ (has_some early || has_some late)
has-append [] early = sym (or-false (has_some early))
has-append (event ∷ late) early = sym (or-true (has_some early))

-- a record was kept where an answer says so
one_some : (bytes : List ℕ) (answer : Accepted)
    → has_some (listed (accept_event bytes (Ok answer))) ≡ is_kept answer
one_some bytes Kept = refl
one_some bytes Known = refl
one_some bytes Unpriced = refl

pub kept_some : (naming : Naming) (records : List (List ℕ)) (answers : List Accepted) (was : Bool)
    (before : Book) (kept : List Event) (is : Bool)
    → Accepts naming records answers was before kept is → has_some kept ≡ keeps_one answers
kept_some naming records [] was before kept is accepts =
    ap (λ (events : List Event). has_some events) accepts.none
kept_some naming [] (answer ∷ later) was before kept is accepts = absurd accepts
kept_some naming (bytes ∷ rest) (answer ∷ later) was before kept is accepts =
    let called = accepts.first.makes in
    let one : has_some accepts.early ≡ is_kept answer =
    ap (λ (events : List Event). has_some events) called.1
    ∙ ap (λ (result : Result Accepted LedgerFault).
    has_some (listed (accept_event bytes result))) called.0
    ∙ one_some bytes answer in
    let others = kept_some naming rest later accepts.between (after_all accepts.early before)
    accepts.late is accepts.next in
    ap (λ (events : List Event). has_some events) accepts.all
    ∙ has-append accepts.late accepts.early ∙ (λ i. one i || others i)

-- ---- the events of some changes

-- but for what is said with them
pub changes_alone : (note : Note) (portions : List Portion)
    → without_notes (import_events note portions) ≡ kept_in portions
changes_alone note [] = refl
changes_alone note (portion ∷ earlier) =
    let begun = is_some (told_so_far earlier) in
    notes-append (told note begun portion.reading (keeps portion.kept)) (import_events note earlier)
    ∙ (λ i. told_alone note begun portion.reading (keeps portion.kept) (are_kept portion.kept) i
    ++ changes_alone note earlier i)

pub end_apart : (ended : Option Stop) (events : List Event)
    → without_notes (with_end ended events) ≡ without_notes events
end_apart None events = refl
end_apart (Some stop) events = refl

-- the events that an import with a note has made are those of its records, but for that
pub said_alone : (note : Note) (begun : Bool) (ended : Option Stop) (naming : Naming)
    (layout : Layout) (bytes : List ℕ) (before : Book) (made : List Event)
    (said : SaidBy note begun ended naming layout bytes before made)
    → without_notes made ≡ kept_in said.portions
said_alone note begun ended naming layout bytes before made said =
    ap without_notes said.events ∙ end_apart ended (import_events note said.portions)
    ∙ changes_alone note said.portions

-- ---- one more change

end-append : (ended : Option Stop) (late early : List Event)
    → with_end ended late ++ early ≡ with_end ended (late ++ early)
end-append None late early = refl
end-append (Some stop) late early = refl

-- the end is said behind what was kept
end_behind : (ending : Option Stop) (whole : Bool) (newest : Event) (older : List Event)
    → told_end ending whole (newest ∷ older)
    ≡ with_end (if whole then ending else None) (newest ∷ older)
end_behind None true newest older = refl
end_behind None false newest older = refl
end_behind (Some stop) true newest older = refl
end_behind (Some stop) false newest older = refl

none_behind : (ending : Option Stop) (whole : Bool) → told_end ending whole [] ≡ []
none_behind None whole = refl
none_behind (Some stop) true = refl
none_behind (Some stop) false = refl

-- the end that a change said: one that kept nothing says none
abbrev pub end_said : Bool → Bool → Option Stop → Option Stop
end_said some whole ending = if some then if whole then ending else None else None

-- a change, and those before it
change_more : (note : Note) (begun : Bool) (ending : Option Stop) (whole : Bool)
    (reading : Reading) (earlier : List Portion) (kept late early : List Event) → AreKept kept
    → is_some (told_so_far earlier) ≡ begun
    → late ≡ told_end ending whole (told note begun reading kept)
    → early ≡ import_events note earlier
    → late ++ early ≡ with_end (end_said (has_some kept) whole ending)
    (import_events note (record { kept = bytes_in kept; reading = reading } ∷ earlier))
change_more note begun ending whole reading earlier [] late early are entry made before =
    ap (λ late. late ++ early) (made ∙ none_behind ending whole) ∙ before
change_more note begun ending whole reading earlier (newest ∷ older) late early are entry made
    before =
    let those = told note begun reading (newest ∷ older) in
    let same : told note (is_some (told_so_far earlier)) reading (keeps (bytes_in (newest ∷ older)))
    ≡ those =
    (λ i. told note (entry i) reading (keeps_those (newest ∷ older) are i)) in
    (λ i. (made ∙ end_behind ending whole (ImportRead reading)
    ((newest ∷ older) ++ (if begun then [] else ImportBegun note ∷ []))) i ++ before i)
    ∙ end-append (if whole then ending else None) those (import_events note earlier)
    ∙ ap (λ late. with_end (if whole then ending else None) (late ++ import_events note earlier))
    (sym same)

-- an import has an entry once it kept a record
entry_more : (kept : List Event) (reading : Reading) (so_far : Option (Reading × Records))
    (begun : Bool) → AreKept kept → is_some so_far ≡ begun
    → is_some (with_portion (bytes_in kept) reading so_far) ≡ (begun || has_some kept)
entry_more [] reading so_far begun are entry = entry ∙ sym (or-false begun)
entry_more (RecordKept bytes ∷ older) reading None begun are entry = sym (or-true begun)
entry_more (RecordKept bytes ∷ older) reading (Some so_far) begun are entry = sym (or-true begun)
entry_more (event ∷ older) reading so_far begun are entry = absurd are

-- an end was said only where something was kept
none_said : (begun some whole : Bool) (ending : Option Stop) → (begun || some) ≡ false
    → end_said some whole ending ≡ None
none_said begun false whole ending none = refl
none_said begun true whole ending none = absurd (true≢false (sym (or-true begun) ∙ none))

-- a change of an import with a note
module _ (naming : Naming) (layout : Layout) (bytes : List ℕ) (before : Book) where
  pub said_more : (share : Share) (records : List (List ℕ)) (answers : List Accepted)
      (was : Bool) (middle : Book) (early late : List Event) (is : Bool)
      → SaidBy (note_shown share.note) share.begun None naming layout bytes before early
      → AcceptsOf naming (Some share) records answers was middle late is
      → IsSaid naming layout bytes before (without_notes (late ++ early))
      (read_with answers (reading_shown share.reading))
      → SaidBy (note_shown share.note) (share.begun || keeps_one answers)
      (end_said (keeps_one answers) (length answers == length records) share.ending)
      naming layout bytes before (late ++ early)
  said_more share records answers was middle early late is so of said =
      let note = note_shown share.note in
      let reading = read_with answers (reading_shown share.reading) in
      let whole : Bool = length answers == length records in
      let are = all_kept naming records answers was middle of.kept is of.accepts in
      let some = kept_some naming records answers was middle of.kept is of.accepts in
      let portion : Portion = record { kept = bytes_in of.kept; reading = reading } in
      let alone : without_notes (late ++ early) ≡ kept_in (portion ∷ so.portions) =
      notes-append late early
      ∙ (λ i. (ap without_notes of.told
      ∙ by_alone (Some share) whole answers of.kept are
      ∙ sym (keeps_those of.kept are)) i
      ++ said_alone note share.begun None naming layout bytes before early so i) in
      record {
        portions = portion ∷ so.portions;
        each = (subst (λ kept. IsSaid naming layout bytes before kept reading) alone said, so.each);
        entry = entry_more of.kept reading (told_so_far so.portions) share.begun are so.entry
            ∙ ap (λ kept. share.begun || kept) some;
        none = none_said share.begun (keeps_one answers) whole share.ending;
        events = change_more note share.begun share.ending whole reading so.portions of.kept late
            early are so.entry of.told so.events
            ∙ ap (λ kept. with_end (end_said kept whole share.ending)
            (import_events note (portion ∷ so.portions))) some;
      }

-- ---- more bytes were read

-- what was said of some bytes was said of the first of more
longer : (naming : Naming) (layout : Layout) (bytes piece : List ℕ) (before : Book)
    (portions : List Portion) → AreSaid naming layout bytes before portions
    → AreSaid naming layout (bytes ++ piece) before portions
longer naming layout bytes piece before [] each = tt
longer naming layout bytes piece before (portion ∷ earlier) each =
    let one = each.0 in (
      record {
        read = one.read;
        later = one.later ++ piece;
        parts = sym (append_assoc one.read one.later piece)
            ∙ ap (λ b. b ++ piece) one.parts;
        answered = one.answered;
        waiting = one.waiting;
        found = one.found;
        receipt = one.receipt;
        told = one.told;
        counts = one.counts;
      },
      longer naming layout bytes piece before earlier each.1,
    )

pub says_longer : (import : Option Note) (begun : Bool) (ended : Option Stop) (naming : Naming)
    (layout : Layout) (bytes piece : List ℕ) (before : Book) (made : List Event)
    → Says import begun ended naming layout bytes before made
    → Says import begun ended naming layout (bytes ++ piece) before made
says_longer None begun ended naming layout bytes piece before made says = says
says_longer (Some note) begun ended naming layout bytes piece before made says = record {
  portions = says.portions;
  each = longer naming layout bytes piece before says.portions says.each;
  entry = says.entry;
  none = says.none;
  events = says.events;
}

-- ---- an import that begins

pub says_nothing : (import : Option Note) (naming : Naming) (layout : Layout) (bytes : List ℕ)
    (before : Book) → Says import false None naming layout bytes before []
says_nothing None naming layout bytes before = refl
says_nothing (Some note) naming layout bytes before =
    record { portions = []; each = tt; entry = refl; none = λ none. refl; events = refl }

-- ---- answers, one after another

pub kept_step : (answers : List Accepted) (i : ℕ) (d : Accepted) → i < length answers
    → keeps_one (drop i answers) ≡ (is_kept (get_or answers i d) || keeps_one (drop (i + 1) answers))
kept_step answers i d within =
    ap keeps_one (drop-cons answers i d within)
    ∙ ap (λ n. is_kept (get_or answers i d) || keeps_one (drop n answers)) (sym (add-one i))

pub kept_not : (answer : Accepted) → (answer ≡ Kept → ⊥) → is_kept answer ≡ false
kept_not Kept other = absurd (other refl)
kept_not Known other = refl
kept_not Unpriced other = refl
