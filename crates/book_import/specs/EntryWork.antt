-- How the entry of an import is written, as the import goes on. These are words of the code alone.
use Rattle.std.specs.Prelude.{◌≡◌, ℕ, ◌==◌, ◌&&◌, Bool, true, false, List, length, Option, None}
use Rattle.std.specs.Prelude.{IfSome, Result, Ok, Err, if◌then◌else◌, is_none, is_some, option_map}
use Rattle.std.specs.List.{list_any}
use Rattle.sha2.specs.Hashers.{Holds256}
use Rattle.sha2.specs.Sha256.{sha256}
use Rattle.book_model.specs.Words.{Note, ended_outcome, note_shown}
use Rattle.book_model.specs.declared.answer.Accepted.{Accepted}
use Rattle.book_model.specs.declared.answer.Accepted.TheVariants.{Kept}
use Rattle.book_model.specs.declared.fault.LedgerFault.{LedgerFault}
use Rattle.book_model.specs.declared.fault.LedgerFault.TheVariants.{Store}
use Rattle.book_model.specs.declared.note.Reading.{Reading}
use Rattle.book_model.specs.declared.note.Share.{Share}
use Rattle.book_model.specs.declared.note.Stop.{Stop}
use Rattle.book_model.specs.declared.note.Stop.TheVariants.{Ledger}
use Rattle.book_core.specs.Calls.{Calls}
use Rattle.book_core.specs.Transition.{NoEvent, Transition}
use Rattle.book_import.specs.declared.import_entry.ImportEntry.{ImportEntry}
use Rattle.book_import.specs.declared.read_bytes.ReadBytes.{ReadBytes}
use Rattle.book_import.specs.declared.receipt.Receipt.{Receipt}

-- these bytes were read
pub record AreRead (bytes : List ℕ) (read : ReadBytes) : Type 0 where
  pub holds : Holds256 read.hasher bytes
  pub digest : read.digest ≡ sha256 bytes
  pub length : read.length ≡ length bytes

-- an import that has a note has read these bytes
abbrev pub HasRead : List ℕ → ImportEntry → Type 0
HasRead bytes entry = IfSome entry.share (λ share. AreRead bytes entry.bytes)

-- the note of an import
abbrev pub note_in : Option Share → Option Note
note_in share = option_map (λ (share : Share). note_shown share.note) share

abbrev pub note_of : ImportEntry → Option Note
note_of entry = note_in entry.share

-- what was read, with what a receipt counts
abbrev pub reading_with : ReadBytes → Receipt → Reading
reading_with bytes receipt = record {
  digest = bytes.digest;
  length = bytes.length;
  known = receipt.known;
  unpriced = receipt.unpriced;
  other = receipt.other;
  headers = receipt.headers;
  trailers = receipt.trailers;
  lost = receipt.lost;
  continued = receipt.continued;
  damaged = receipt.damaged;
}

-- the share with other words
abbrev pub share_with : Bool → Reading → Option Stop → Share → Share
share_with begun reading ending share =
    record share { begun = begun; reading = reading; ending = ending }

-- what an import says with its next records, by what was counted and by its end
abbrev pub said_with : ImportEntry → Receipt → Option Stop → Option Share
said_with entry counts ending =
    option_map (share_with entry.begun (reading_with entry.bytes counts) ending) entry.share

abbrev pub says_next : ImportEntry → Receipt → Option Stop → ImportEntry
says_next entry counts ending = record entry { share = said_with entry counts ending }

-- an answer says that a record was kept
abbrev pub is_kept : Accepted → Bool
is_kept Kept = true
is_kept answer = false

-- one of the answers does
abbrev pub keeps_one : List Accepted → Bool
keeps_one answers = list_any is_kept answers

-- the end is said where all records that waited were answered
abbrev pub if_whole : {A : Type 0} → List Accepted → List A → Option Stop → Option Stop
if_whole answers waiting ending = if length answers == length waiting then ending else None

-- the import after such answers, with which this end was said
abbrev pub hears : List Accepted → Option Stop → ImportEntry → ImportEntry
hears answers ending entry =
    if keeps_one answers then record entry { begun = true; ended = ending } else entry

-- the store of the books failed
abbrev pub is_store_stop : Stop → Bool
is_store_stop (Ledger Store) = true
is_store_stop stop = false

-- the import has an entry, which has not ended yet
abbrev pub goes_on : ImportEntry → Bool
goes_on entry = is_some entry.share && entry.begun && is_none entry.ended

-- the entry is to be ended
abbrev pub is_to_end : ImportEntry → Stop → Bool
is_to_end entry stop = if is_store_stop stop then false else goes_on entry

-- the stop of an import whose end was answered so
abbrev pub stop_by : Stop → Result (Unit {0}) LedgerFault → Stop
stop_by stop (Ok done) = stop
stop_by stop (Err fault) = Ledger fault

-- the import is over: its entry ended, if that was to be done, and this is its receipt
abbrev pub ends_by : Bool → Receipt → Stop → Receipt → Transition
ends_by false receipt stop told = λ was before events is.
    NoEvent was before events is × (told ≡ record receipt { stop = stop })
ends_by true receipt stop told = λ was before events is.
    (answer : Result (Unit {0}) LedgerFault)
    × Calls (λ (done : Unit {0}). done) (ended_outcome stop) answer was before events is
    × (told ≡ record receipt { stop = stop_by stop answer })

abbrev pub Ends : ImportEntry → Receipt → Stop → Receipt → Transition
Ends entry receipt stop told = ends_by (is_to_end entry stop) receipt stop told
