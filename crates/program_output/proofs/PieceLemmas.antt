-- What a list has done with the records that it found in a piece of a dump.
use Rattle.std.proofs.Common.{◌≡◌, ◌∙◌, Bool, ℕ, ◌+◌, List, [], ◌++◌, take, sym, ap, subst, Ok, Err}
use Rattle.std.proofs.Common.{Option, Some, None, append-nil}
use Rattle.std.specs.Io.KnownBytes.{Appends}
use Rattle.book_model.specs.Words.{FrameFault, Front, front, Joining, HasTaken, Feeds}
use Rattle.book_import.proofs.FeedLemmas.{Doing, Goes, records_after, records_follow}
use Rattle.book_lists.specs.declared.fault.ReportFault.{ReportFault}
use Rattle.book_lists.specs.Streamed.{WritesFirst}
use Rattle.book_reports.specs.CheckLists.{record_line, record_lines}
use Rattle.program_output.specs.declared.listing.Listing.{Listing}
use Rattle.program_output.specs.Listings.{HasListed, TakesOrBreaks, ListsPiece, waiting}
use Rattle.program_output.specs.Listings.{listed_count}
use Rattle.program_output.proofs.ListingLemmas.{line_cut, flush_cut}

-- where the lines of the records before a piece were written or are waiting, so are those of all
-- found
abbrev pub ListsOver : Bool → Listing → Listing → Option (List ℕ) → Option (List ℕ) → Doing
ListsOver names began now had has first found =
    (held : Option (List ℕ)) → HasListed names first held had began → HasListed names found held has now

module _ {names : Bool} where
  -- at the line of a record that the piece completes there was a fault
  pub come_cut : {old joiner mid : Joining} {piece rest : List ℕ} {n : ℕ} (began now next : Listing)
      (had has gets : Option (List ℕ)) (one left : List ℕ) (fault : ReportFault)
      → Goes old piece rest joiner (ListsOver names began now had has)
      → Feeds joiner rest (Ok n) mid → Some one ≡ mid.ready
      → WritesFirst (waiting now ++ record_line names (listed_count now + 1) one) left has gets
      → ListsPiece names old piece began next had gets (Err fault)
  come_cut {old = old} began now next had has gets one left fault goes fed one_is line text held
      stood listed more =
      let later = records_follow goes fed one_is text more stood in
      subst (λ records. (left : List ℕ) × WritesFirst (record_lines names 1 records) left held gets)
      (sym later.1)
      (line_cut (front old.layout (text ++ goes.seen)).records later.0 one left held has gets now
      (goes.done text stood held listed) line)

-- after a piece that was taken or broken, the records of what follows come last
records_behind : (old new : Joining) (piece : List ℕ) (found : Option FrameFault)
    → TakesOrBreaks old piece found new → (text more : List ℕ) → HasTaken text old
    → (later : List (List ℕ)) × ((front old.layout ((text ++ piece) ++ more)).records
    ≡ (front old.layout (text ++ piece)).records ++ later)
records_behind old new piece None taken text more stood =
    records_after taken.layout_is (taken.stands text stood) more
records_behind old new piece (Some fault) breaks text more stood = (
  [],
  ap (λ (f : Front). f.records) (breaks text more stood)
      ∙ sym (append-nil (front old.layout (text ++ piece)).records),
)

module _ {names : Bool} where
  -- a part of the lines that were waiting after a piece was written
  pub come_unflushed : (old new : Joining) (piece : List ℕ) (found : Option FrameFault)
      (began now next : Listing) (had has gets : Option (List ℕ)) (count : ℕ) (fault : ReportFault)
      → TakesOrBreaks old piece found new → ListsPiece names old piece began now had has (Ok found)
      → Appends has gets (take count (waiting now))
      → ListsPiece names old piece began next had gets (Err fault)
  come_unflushed old new piece found began now next had has gets count fault taken lists grown text
      held stood listed more =
      let later = records_behind old new piece found taken text more stood in
      subst (λ records. (left : List ℕ) × WritesFirst (record_lines names 1 records) left held gets)
      (sym later.1)
      (flush_cut (front old.layout (text ++ piece)).records later.0 count held has gets now
      (lists text held stood listed) grown)
