-- Details of the records that a plain ledger holds.
use Rattle.std.specs.Prelude.{◌&&◌, Bool, List, ℕ, Option, find}
use Rattle.book_model.specs.declared.detail.Detail.{Detail}
use Rattle.book_model.specs.Words.{comes_after, detail_with, is_asked}
use Rattle.plain_ledger.specs.Plain.{Entry, record_of}

-- the record of an entry as details show it
abbrev pub detail_at : Entry → Detail
detail_at entry = detail_with entry.0 (record_of entry.1) entry.1.priced

-- a detail is asked for, and comes after the last one
abbrev pub is_sought : Option (List ℕ) → Option Detail → Detail → Bool
is_sought centre last detail = is_asked centre detail && comes_after last detail

-- the first of some details after the last one, of the centre that is named or of all
abbrev pub next_among : Option (List ℕ) → Option Detail → List Detail → Option Detail
next_among centre last details = find (is_sought centre last) details
