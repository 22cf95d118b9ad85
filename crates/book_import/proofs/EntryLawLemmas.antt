-- Laws of imports with what they say of themselves.
use Rattle.std.proofs.Common.{◌≡◌, ◌∙◌, ℕ, Bool, true, false, true≢false, List, [], ◌∷◌, ◌++◌}
use Rattle.std.proofs.Common.{refl, sym, ap, Option, Some, None, inl, inr, is_some, map, ◌⊎◌}
use Rattle.std.specs.Prelude.{◌||◌}
use Rattle.std.proofs.Math.Bool.{or-true}
use Rattle.smf_frames.specs.declared.dump.Layout.{Layout}
use Rattle.book_model.specs.JournalLaws.{unjournaled, without_notes}
use Rattle.book_model.specs.Notes.{with_ended}
use Rattle.book_model.specs.Words.{AreMadeOf, Book, Ending, Entry, Event, Naming, Note, Portion}
use Rattle.book_model.specs.Words.{Reading, RecordKept, Records, after_all, front, has}
use Rattle.book_model.specs.Words.{import_events, stop_shown, told, told_so_far, with_import}
use Rattle.book_model.specs.declared.note.Stop.{Stop}
use Rattle.book_model.proofs.ImportLemmas.{one_entry_an_import}
use Rattle.book_model.proofs.JournalLemmas.{journal_stands_apart}
use Rattle.book_model.proofs.RecordSets.{has_with, is_itself}
use Rattle.book_model.proofs.RecordSets as sets
use Rattle.book_model.proofs.TestLemmas.{kept_passes}
use Rattle.book_core.proofs.SubmissionLemmas.{AreKept}
use Rattle.book_core.proofs.TransitionLemmas.{after_all-append}
use Rattle.book_import.specs.declared.receipt.Receipt.{Receipt}
use Rattle.book_import.specs.Dumps.{stop_after}
use Rattle.book_import.specs.EntryLaws.{AgainIsNothing, EntriesAreMended, OneEntryEach}
use Rattle.book_import.specs.ImportEntries.{ImportsOf, SaidBy, Says, kept_in, with_end}
use Rattle.book_import.proofs.ApartLemmas.{handles_alike}
use Rattle.book_import.proofs.EndLemmas.{none_told}
use Rattle.book_import.proofs.EntryLemmas.{said_alone}
use Rattle.book_import.proofs.EventLemmas.{import_answered, same_apart}
use Rattle.book_import.proofs.NoRulingLemmas.{handles_kept}
use Rattle.book_import.proofs.RepeatLemmas.{twice_is_once}
use Rattle.book_import.proofs.RetryLemmas.{stops_are_mended}
use Rattle.book_import.proofs.SayingLemmas.{kept_alone, notes-append}

-- ---- one entry an import

-- with no entry no end is seen
none_either : (note : Note) (ending : Ending) (so_far : Option (Reading × Records))
    (journal : List Entry) → is_some so_far ≡ false
    → with_import note so_far journal ≡ with_ended note ending so_far journal
none_either note ending None journal none = refl
none_either note ending (Some so_far) journal none = absurd (true≢false none)

module _ (note : Note) (begun : Bool) (ended : Option Stop) (naming : Naming) (layout : Layout)
    (bytes : List ℕ) (before : Book) (made : List Event)
    (said : SaidBy note begun ended naming layout bytes before made) where
  abbrev so_far : Option (Reading × Records)
  so_far = told_so_far said.portions

  abbrev now : List Entry
  now = (after_all made before).journal

  -- where no end was said
  goes_on : ended ≡ None → now ≡ with_import note so_far before.journal
  goes_on none =
      ap (λ events. (after_all events before).journal)
      (said.events ∙ ap (λ ended. with_end ended (import_events note said.portions)) none)
      ∙ one_entry_an_import.so_far before note said.portions

  -- where one was
  is_over : (stop : Stop) → ended ≡ Some stop
      → now ≡ with_ended note (stop_shown stop) so_far before.journal
  is_over stop is =
      ap (λ events. (after_all events before).journal)
      (said.events ∙ ap (λ ended. with_end ended (import_events note said.portions)) is)
      ∙ one_entry_an_import.ended before note said.portions (stop_shown stop)
      (said.entry ∙ by_begun begun refl)
    where
      by_begun : (this : Bool) → begun ≡ this → this ≡ true
      by_begun true same = refl
      by_begun false same =
          absurd (true≢false (ap (λ (ended : Option Stop). is_some ended)
          (sym is ∙ said.none same)))

  -- either way
  pub either_way : (now ≡ with_import note so_far before.journal)
      ⊎ ((stop : Stop) × (now ≡ with_ended note (stop_shown stop) so_far before.journal))
  either_way = by_end ended refl
    where
      by_end : (this : Option Stop) → ended ≡ this
          → (now ≡ with_import note so_far before.journal)
          ⊎ ((stop : Stop) × (now ≡ with_ended note (stop_shown stop) so_far before.journal))
      by_end None is = inl (goes_on is)
      by_end (Some stop) is = inr (stop, is_over stop is)

  -- once it is over
  pub when_over : (stop : Stop) → (begun ≡ true → ended ≡ Some stop)
      → now ≡ with_ended note (stop_shown stop) so_far before.journal
  when_over stop over = by_begun begun refl
    where
      by_begun : (this : Bool) → begun ≡ this
          → now ≡ with_ended note (stop_shown stop) so_far before.journal
      by_begun true is = is_over stop (over is)
      by_begun false is =
          goes_on (said.none is)
          ∙ none_either note (stop_shown stop) so_far before.journal (said.entry ∙ is)

-- the law
pub one_entry_each : OneEntryEach
one_entry_each = record {
  over = λ note naming layout cut bytes told was before made is of free.
      let says = of.says in
      when_over note says.begun says.ended naming layout bytes before made says.says told.stop
      (λ begun. says.over refl begun free);
  always = λ note naming layout cut bytes told was before made is of.
      let says = of.says in
      either_way note says.begun says.ended naming layout bytes before made says.says;
}

-- ---- the same dump again

-- what is held stays held
still_held : (bytes : List ℕ) (events : List Event) (book : Book) → AreKept events
    → has book.held bytes ≡ true → has (after_all events book).held bytes ≡ true
still_held bytes [] book kept held = held
still_held bytes (RecordKept new ∷ older) book kept held =
    has_with (after_all older book).held new bytes
    ∙ ap (λ b. sets.is bytes new || b) (still_held bytes older book kept held)
    ∙ or-true (sets.is bytes new)
still_held bytes (event ∷ older) book kept held = absurd kept

-- books that stay as they are kept nothing
nothing_new : (naming : Naming) (events : List Event) (book : Book) → AreKept events
    → AreMadeOf naming book events → after_all events book ≡ book → events ≡ []
nothing_new naming [] book kept made same = refl
nothing_new naming (RecordKept bytes ∷ older) book kept made same =
    let new = (kept_passes naming (after_all older book) bytes made.0).is_new in
    let held : has book.held bytes ≡ true =
    ap (λ (book : Book). has book.held bytes) (sym same)
    ∙ has_with (after_all older book).held bytes bytes
    ∙ ap (λ b. b || has (after_all older book).held bytes) (is_itself bytes) in
    absurd (true≢false (sym (still_held bytes older book kept held) ∙ new))
nothing_new naming (event ∷ older) book kept made same = absurd kept

-- an import that keeps nothing says nothing
none_before : (note : Note) (begun : Bool) (reading : Reading) (kept : List (List ℕ))
    (early rest : List Event) → (early ≡ [] → rest ≡ [])
    → map (λ bytes. RecordKept bytes) kept ++ early ≡ []
    → told note begun reading (map (λ bytes. RecordKept bytes) kept) ++ rest ≡ []
none_before note begun reading [] early rest none is = none is
none_before note begun reading (bytes ∷ others) early rest none is = absurd (cc is)

none_made : (note : Note) (portions : List Portion) → kept_in portions ≡ []
    → import_events note portions ≡ []
none_made note [] none = refl
none_made note (portion ∷ earlier) none =
    none_before note (is_some (told_so_far earlier)) portion.reading portion.kept (kept_in earlier)
    (import_events note earlier) (λ none. none_made note earlier none) none

none_says : (import : Option Note) (begun : Bool) (ended : Option Stop) (naming : Naming)
    (layout : Layout) (bytes : List ℕ) (before : Book) (made : List Event)
    → Says import begun ended naming layout bytes before made → without_notes made ≡ [] → made ≡ []
none_says None begun ended naming layout bytes before made says none = sym says ∙ none
none_says (Some note) begun ended naming layout bytes before made says none =
    let nothing = sym (said_alone note begun ended naming layout bytes before made says) ∙ none in
    let off = sym says.entry ∙ none_told says.portions nothing in
    says.events
    ∙ ap (λ ended. with_end ended (import_events note says.portions)) (says.none off)
    ∙ none_made note says.portions nothing

-- the book that an import leaves, but for the journal, by its records alone
module _ (import : Option Note) (naming : Naming) (layout : Layout) (cut : Option Stop)
    (bytes : List ℕ) (told : Receipt) (was : Bool) (before : Book) (made : List Event) (is : Bool)
    (of : ImportsOf import naming layout cut bytes told was before made is) where
  kept_alone_of : AreKept (without_notes made)
  kept_alone_of =
      let dump = front layout bytes in
      handles_kept naming (stop_after cut dump) dump.records told was before (without_notes made) is
      of.booked

  pub left_apart : unjournaled (after_all made before)
      ≡ unjournaled (after_all (without_notes made) before)
  left_apart = same_apart made before kept_alone_of

-- the law
pub again_is_nothing : AgainIsNothing
again_is_nothing import other naming layout cut again bytes once twice before first second between is
    one free two =
    let dump = front layout bytes in
    let plain = without_notes first in
    let next = without_notes second in
    let book = after_all plain before in
    let left = left_apart import naming layout cut bytes once false before first between one in
    let handled = handles_alike naming (stop_after again dump) dump.records twice between book
    (after_all first before) next is (sym left) two.booked in
    let same = sym (after_all-append next plain before)
    ∙ twice_is_once naming before (stop_after cut dump) (stop_after again dump) dump.records once
    twice plain next between is one.booked free handled in
    let none = nothing_new naming next book
    (handles_kept naming (stop_after again dump) dump.records twice between book next is handled)
    (import_answered naming (stop_after again dump) dump.records twice book between next is handled)
    same in
    none_says other two.says.begun two.says.ended naming layout bytes (after_all first before) second
    two.says.says none

-- ---- after a stop

pub entries_are_mended : EntriesAreMended
entries_are_mended import other naming layout cut again bytes once twice before first second between
    is one two free apart =
    let dump = front layout bytes in
    let plain = without_notes first in
    let next = without_notes second in
    let book = after_all plain before in
    let left = left_apart import naming layout cut bytes once false before first between one in
    let handled = handles_alike naming (stop_after again dump) dump.records twice false book
    (after_all first before) next is (sym left) two.booked in
    let both = next ++ plain in
    let alone : without_notes (second ++ first) ≡ both = notes-append second first in
    let kept = handles_kept naming (stop_after cut dump) dump.records once false before plain between
    one.booked in
    let kept_next = handles_kept naming (stop_after again dump) dump.records twice false book next is
    handled in
    let all : without_notes both ≡ both =
    notes-append next plain ∙ (λ i. kept_alone next kept_next i ++ kept_alone plain kept i) in
    journal_stands_apart before (second ++ first)
    ∙ ap (λ events. after_all events (unjournaled before)) (alone ∙ sym all)
    ∙ sym (journal_stands_apart before both)
    ∙ ap unjournaled (stops_are_mended naming before (stop_after cut dump) (stop_after again dump)
    dump.records once twice plain next between is one.booked handled free apart)
