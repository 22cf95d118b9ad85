-- Notes, and what imports say of themselves, as ledgers take them.
use Rattle.std.specs.Prelude.{ℕ, Bool, Option, None, Some, List, [], ◌∷◌, ◌++◌, if◌then◌else◌}
use Rattle.std.specs.Prelude.{string_bytes, option_map, Ok, is_some, true, ◌+◌}
use Rattle.std.specs.Prelude.{map as list_map}
use Rattle.std.specs.FinMap as map
use Rattle.book_model.specs.Sets.{with}
use Rattle.book_model.specs.Records.{Records}
use Rattle.smf_frames.specs.Faults.{frame_number}
use Rattle.book_model.specs.declared.answer.Accepted.{Accepted}
use Rattle.book_model.specs.declared.answer.Accepted.TheVariants.{Kept, Known, Unpriced}
use Rattle.book_model.specs.declared.entry.Ending.{Ending as GivenEnding}
use Rattle.book_model.specs.declared.entry.Ending.TheVariants as ends
use Rattle.book_model.specs.declared.entry.Place.{Place as GivenPlace}
use Rattle.book_model.specs.declared.entry.Place.TheVariants as stands
use Rattle.book_model.specs.declared.note.Note.{Note as GivenNote}
use Rattle.book_model.specs.declared.note.Reading.{Reading as GivenReading}
use Rattle.book_model.specs.declared.note.Share.{Share}
use Rattle.book_model.specs.declared.note.Stop.{Stop}
use Rattle.book_model.specs.declared.note.Stop.TheVariants.{End, Frame, Ledger, Read, ReadLimit}
use Rattle.book_model.specs.Journal.{AtEnd, AtFrame, AtLedger, AtRead, AtReadLimit, Ending, Note}
use Rattle.book_model.specs.Journal.{AdoptionOf, ChoiceOf, CloseOf, CreditOf, Place}
use Rattle.book_model.specs.Journal.{Entry, Imported, Importing, Reading, ReplacementOf, TariffOf}
use Rattle.book_model.specs.Books.{Book}
use Rattle.book_model.specs.Events.{Event, ImportBegun, ImportEnded, ImportRead, RecordKept}
use Rattle.book_model.specs.Faults.{ledger_number}
use Rattle.book_model.specs.Outcomes.{Outcome}

-- a note as the journal has it
abbrev pub note_shown : GivenNote → Note
note_shown note = record {
  time = note.time;
  person = string_bytes note.person;
  remark = string_bytes note.remark;
  file = string_bytes note.file;
}

abbrev pub note_given : Option GivenNote → Option Note
note_given note = option_map note_shown note

abbrev pub reading_shown : GivenReading → Reading
reading_shown reading = record {
  digest = reading.digest;
  length = reading.length;
  known = reading.known;
  unpriced = reading.unpriced;
  other = reading.other;
  headers = reading.headers;
  trailers = reading.trailers;
  lost = reading.lost;
  continued = reading.continued;
  damaged = reading.damaged;
}

-- why an import ended, as the journal has it: by the numbers of faults
abbrev pub stop_shown : Stop → Ending
stop_shown End = AtEnd
stop_shown (Frame fault) = AtFrame (frame_number fault)
stop_shown Read = AtRead
stop_shown ReadLimit = AtReadLimit
stop_shown (Ledger fault) = AtLedger (ledger_number fault)

-- where a ruling stands, as the journal has it
abbrev pub place_shown : GivenPlace → Place
place_shown (stands.Tariff day) = TariffOf day
place_shown (stands.Close period) = CloseOf period
place_shown (stands.Choice number) = ChoiceOf number
place_shown stands.Adoption = AdoptionOf
place_shown (stands.Replacement number) = ReplacementOf number
place_shown (stands.Credit number) = CreditOf number

-- why an import ended, by the numbers of faults
abbrev pub ending_shown : GivenEnding → Ending
ending_shown ends.End = AtEnd
ending_shown (ends.Frame number) = AtFrame number
ending_shown ends.Read = AtRead
ending_shown ends.ReadLimit = AtReadLimit
ending_shown (ends.Ledger number) = AtLedger number

-- the end of the import that goes on
abbrev pub ended_outcome : Stop → Book → Outcome (Unit {0})
ended_outcome stop book =
    record { answer = Ok tt; event = Some (ImportEnded (stop_shown stop)) }

-- What an import adds to the records that one change kept, if it kept some: that it has begun,
-- before the first, unless it has an entry already; and what it has read, behind the last. The
-- newest event is the first.
abbrev pub told : Note → Bool → Reading → List Event → List Event
told note begun reading [] = []
told note begun reading (newest ∷ earlier) =
    ImportRead reading ∷ (newest ∷ earlier) ++ (if begun then [] else ImportBegun note ∷ [])

-- what was read, with the answers to some more records counted
abbrev pub read_with : List Accepted → Reading → Reading
read_with [] reading = reading
read_with (Kept ∷ later) reading = read_with later reading
read_with (Known ∷ later) reading = read_with later (record reading { known = reading.known + 1 })
read_with (Unpriced ∷ later) reading =
    read_with later (record reading { unpriced = reading.unpriced + 1 })

-- that the import has ended, behind what a change made, if it made something and took all records
abbrev pub told_end : Option Stop → Bool → List Event → List Event
told_end (Some stop) true (newest ∷ earlier) = ImportEnded (stop_shown stop) ∷ newest ∷ earlier
told_end stop whole events = events

-- What a change makes of an import's records, by what the import says, by whether it took all of
-- them, and by the answers: with no word of an import, those that were kept alone.
abbrev pub told_by : Option Share → Bool → List Accepted → List Event → List Event
told_by None whole answers kept = kept
told_by (Some share) whole answers kept =
    told_end share.ending whole
    (told (note_shown share.note) share.begun (read_with answers (reading_shown share.reading)) kept)

-- The records that one change kept of an import, the newest first, and what it had read by then.
pub record Portion : Type 0 where
  pub kept : List (List ℕ)
  pub reading : Reading

-- a set with some records more
abbrev pub with_all : List (List ℕ) → Records → Records
with_all [] records = records
with_all (bytes ∷ earlier) records = with (with_all earlier records) bytes

-- what an import has read and kept by its entry, where it has one: so far as it kept something
abbrev pub with_portion : List (List ℕ) → Reading → Option (Reading × Records)
    → Option (Reading × Records)
with_portion [] reading so_far = so_far
with_portion (bytes ∷ earlier) reading None =
    Some (reading, with_all (bytes ∷ earlier) map.empty)
with_portion (bytes ∷ earlier) reading (Some so_far) =
    Some (reading, with_all (bytes ∷ earlier) so_far.1)

abbrev pub told_so_far : List Portion → Option (Reading × Records)
told_so_far [] = None
told_so_far (portion ∷ earlier) = with_portion portion.kept portion.reading (told_so_far earlier)

-- the events of an import, by its changes, the newest first
abbrev pub import_events : Note → List Portion → List Event
import_events note [] = []
import_events note (portion ∷ earlier) =
    told note (is_some (told_so_far earlier)) portion.reading
    (list_map (λ bytes. RecordKept bytes) portion.kept)
    ++ import_events note earlier

-- a journal with the entry of an import, where it has one
abbrev pub with_import : Note → Option (Reading × Records) → List Entry → List Entry
with_import note None journal = journal
with_import note (Some so_far) journal =
    record { note = note; act = Importing so_far.0 so_far.1 } ∷ journal

-- the same once it has ended
abbrev pub with_ended : Note → Ending → Option (Reading × Records) → List Entry → List Entry
with_ended note ending None journal = journal
with_ended note ending (Some so_far) journal =
    record { note = note; act = Imported so_far.0 ending so_far.1 } ∷ journal
