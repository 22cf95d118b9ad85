-- What makes a check: a dump, listed piece by piece.
use Rattle.std.proofs.Common.{◌≡◌, ℕ, List, [], ◌++◌, length, sym, ap, subst, Option, Some, None}
use Rattle.std.proofs.Common.{Result, Ok, Err, ◌∙◌, ◌+◌, ◌<◌, ◌≤◌, Bool, false, append-nil, ◌||◌, IfOk}
use Rattle.std.proofs.Common.{unwrap_or}
use Rattle.std.specs.Io.KnownBytes.{Consumes, Appends}
use Rattle.std.proofs.KnownBytes.{Appends-nil, Consumes-nil}
use Rattle.streams.specs.InputOutput.{Input, ReaderSeen}
use Rattle.book_model.specs.Words.{Layout, FrameFault, Front, front, Joining, HasTaken, broken_by}
use Rattle.book_model.specs.declared.note.Stop.{Stop}
use Rattle.book_model.specs.declared.note.Stop.TheVariants.{Frame}
use Rattle.book_import.specs.Dumps.{stop_after, frame_stop}
use Rattle.book_import.specs.ReadLimits.{piece_length}
use Rattle.book_import.specs.Receipts.{is_stop_of_books}
use Rattle.book_import.specs.Reach.{is_early_stop, EndsBy, IsNoFurther}
use Rattle.book_import.specs.Pieces.{TakesAll}
use Rattle.book_import.proofs.FeedLemmas.{HasPassed, holds_here, passed_more, stop_is}
use Rattle.book_import.proofs.ReachLemmas.{ends_late, ends_early, nothing_further, all_needed}
use Rattle.book_import.proofs.ReachLemmas.{piece_needed}
use Rattle.book_lists.specs.declared.fault.ReportFault.{ReportFault}
use Rattle.book_lists.specs.Streamed.{WritesFirst}
use Rattle.book_lists.specs.Writing.{WritesUntil}
use Rattle.book_lists.proofs.StreamedLemmas.{is_short, some_behind, written_of_more}
use Rattle.program_output.specs.declared.listing.Checked.{Checked}
use Rattle.program_output.specs.declared.listing.Listing.{Listing}
use Rattle.program_output.specs.Readings.{reading}
use Rattle.program_output.specs.Checks.{IsCheck, AreWritten}
use Rattle.book_reports.specs.CheckLists.{record_lines, last_line, check_list_text}
use Rattle.program_output.specs.Listings.{HasListed, WritesSome, ListsPiece, Breaks, waiting}
use Rattle.program_output.specs.Listings.{checked_as, listed_count, listed_marks}
use Rattle.program_output.specs.Marks.{is_torn, marks_in}
use Rattle.program_output.proofs.LineLemmas.{last_line_some}
use Rattle.program_output.proofs.ListingLemmas.{listed_whole, until_grows, grows_on, lines_written}

-- the lines of the records were written, or are waiting
abbrev pub AreListed : Bool → Option (List ℕ) → Option (List ℕ) → Listing → List (List ℕ) → Type 0
AreListed names held holds listing records = HasListed names records held holds listing

module _ {names : Bool} {layout : Layout} {bytes : List ℕ} {joiner : Joining} (began now : Listing)
    (held had has : Option (List ℕ))
    (lists : HasPassed layout bytes joiner (AreListed names held had began)) where
  -- where the lines of a piece were written or are waiting, so are those of all bytes so far
  lists_on : (piece : List ℕ) (found : Option FrameFault)
      → ListsPiece names joiner piece began now had has (Ok found)
      → AreListed names held has now (front layout (bytes ++ piece)).records
  lists_on piece found over =
      holds_here lists (λ l text. AreListed names held had began (front l text).records
      → AreListed names held has now (front l (text ++ piece)).records)
      (λ text stood. over text held stood) lists.done

  -- one more piece
  pub lists_more : {new : Joining} {piece : List ℕ} → TakesAll joiner piece new
      → ListsPiece names joiner piece began now had has (Ok None)
      → HasPassed layout (bytes ++ piece) new (AreListed names held has now)
  lists_more {piece = piece} taken over = passed_more lists taken (lists_on piece None over)

-- a list has a last line, so it is not empty
list_some : (names : Bool) (records : List (List ℕ)) (stop : Stop)
    → 0 < length (check_list_text names records stop)
list_some names records stop =
    let count = length records in
    some_behind (record_lines names 1 records) (last_line count stop) (last_line_some count stop)

-- the stop that is answered is the one at which the reading ended
ends_told : (allowed : ℕ) (found : Front) (input : Input) (stop : Stop) (torn : Bool)
    (answer : Result Checked ReportFault)
    → IfOk answer (λ told. told ≡ record { stop = stop; is_torn = torn })
    → EndsBy allowed (is_early_stop found stop) input
    → IfOk answer (λ told. EndsBy allowed (is_early_stop found told.stop) input)
ends_told allowed found input stop torn (Ok told) same ends =
    subst (λ stop. EndsBy allowed (is_early_stop found stop) input)
    (sym (ap (λ (told : Checked). told.stop) same)) ends
ends_told allowed found input stop torn (Err fault) same ends = tt

module _ {names : Bool} where
  -- what the listing tells is told of its records
  told_so : (records : List (List ℕ)) (held had : Option (List ℕ)) (began : Listing) (stop : Stop)
      (answer : Result Checked ReportFault) → HasListed names records held had began
      → IfOk answer (λ told. told ≡ checked_as stop (listed_count began) (listed_marks began))
      → IfOk answer (λ told. told ≡ checked_as stop (length records) (marks_in records))
  told_so records held had began stop answer listed told =
      subst (λ marks. IfOk answer (λ told. told ≡ checked_as stop (length records) marks)) listed.marks
      (subst (λ count. IfOk answer (λ told. told ≡ checked_as stop count (listed_marks began))) listed.count
      told)

-- no books stop a check
pub no_books : (stop : Stop) (records : ℕ) (listing : Listing) (answer : Result Checked ReportFault)
    → IfOk answer (λ told. told ≡ checked_as stop records (listed_marks listing))
    → is_stop_of_books stop ≡ false → IfOk answer (λ told. is_stop_of_books told.stop ≡ false)
no_books stop records listing (Ok told) same other =
    ap (λ (told : Checked). is_stop_of_books told.stop) same ∙ other
no_books stop records listing (Err fault) same other = tt

module _ {names : Bool} where
  -- the lines of all bytes before the last piece were written before it was read
  written_before : (layout : Layout) (input : Input) (bytes piece : List ℕ) (joiner : Joining)
      (began : Listing) (held had gets : Option (List ℕ))
      → HasPassed layout bytes joiner (AreListed names held had began) → waiting began ≡ []
      → (more : List ℕ) × Appends had gets more
      → input.new.reads ≤ input.old.reads + length bytes + 1 → length piece ≤ piece_length
      → input.new.has_failed ≡ false → input.new.has_ended ≡ false
      → IsNoFurther piece_length layout (bytes ++ piece) (AreWritten names held gets) input
  written_before layout input bytes piece joiner began held had gets lists waits grown reads few
      failed ended =
      piece_needed piece_length layout (AreWritten names held gets) input bytes piece lists.whole
      (lines_written (front layout bytes).records began held had gets lists.done waits grown) reads
      few failed ended

module _ {names : Bool} {layout : Layout} {cut : Option Stop} {allowed : ℕ} {input : Input} where
  -- without memory nothing is read or written
  pub no_check : (held : Option (List ℕ)) (fault : ReportFault) → input.new ≡ input.old
      → IsCheck names (reading layout cut allowed input) held held (Err fault)
  no_check held fault same = record {
    bytes = [];
    taken = subst (λ (one : ReaderSeen). Consumes input.old.left one.left []) (sym same)
        (Consumes-nil input.old.left);
    written = (
      0,
      list_some names (front layout []).records (stop_after cut (front layout [])),
      Appends-nil held,
    );
    told = tt;
    ends = tt;
    no_further = nothing_further piece_length layout (AreWritten names held held) input
        ([], Appends-nil held)
        (ap (λ (one : ReaderSeen). one.reads) same);
  }

  -- the last line was written after the lines of these bytes, or not all of what was left of them
  is_check : (bytes : List ℕ) (began : Listing) (held had has : Option (List ℕ))
      (stop : Stop) (answer : Result Checked ReportFault)
      → HasListed names (front layout bytes).records held had began
      → stop ≡ stop_after cut (front layout bytes)
      → WritesUntil (waiting began ++ last_line (listed_count began) stop) had has answer
      → IfOk answer (λ told. told ≡ checked_as stop (listed_count began) (listed_marks began))
      → Consumes input.old.left input.new.left bytes
      → EndsBy allowed (is_early_stop (front layout bytes) stop) input
      → IsNoFurther piece_length layout bytes (AreWritten names held has) input
      → IsCheck names (reading layout cut allowed input) held has answer
  is_check bytes began held had has stop answer listed same written told taken ends no_further =
      record {
        bytes = bytes;
        taken = taken;
        written = subst (λ stop. WritesUntil (check_list_text names (front layout bytes).records stop)
            held has answer) same
            (listed_whole (front layout bytes).records stop held had has began answer listed
            written);
        told = subst (λ stop. IfOk answer (λ told. told ≡ checked_as stop
            (length (front layout bytes).records) (marks_in (front layout bytes).records))) same
            (told_so (front layout bytes).records held had began stop answer listed told);
        ends = ends_told allowed (front layout bytes) input stop
            (is_torn (listed_count began) (listed_marks began)) answer told ends;
        no_further = no_further;
      }

  -- no more pieces came
  pub check_ended : (bytes : List ℕ) (joiner : Joining) (began : Listing)
      (held had has : Option (List ℕ)) (stop : Stop) (answer : Result Checked ReportFault)
      → HasPassed layout bytes joiner (AreListed names held had began) → waiting began ≡ []
      → ((text : List ℕ) → HasTaken text joiner
      → stop ≡ unwrap_or cut (frame_stop (front joiner.layout text).fault))
      → is_stop_of_books stop ≡ false
      → WritesUntil (waiting began ++ last_line (listed_count began) stop) had has answer
      → IfOk answer (λ told. told ≡ checked_as stop (listed_count began) (listed_marks began))
      → Consumes input.old.left input.new.left bytes
      → input.new.reads ≤ input.old.reads + length bytes + 1
      → (input.new.has_failed ≡ false → input.new.has_ended ≡ false
      → input.new.reads ≡ input.old.reads + allowed)
      → IsCheck names (reading layout cut allowed input) held has answer
  check_ended bytes joiner began held had has stop answer lists waits stopped other written told
      taken reads out =
      is_check bytes began held had has stop answer lists.done (stop_is lists cut stopped)
      written told taken
      (ends_late (ap (λ b. b || (front layout bytes).is_broken) other ∙ lists.whole) out)
      (all_needed piece_length layout (AreWritten names held has) input bytes lists.whole
      (lines_written (front layout bytes).records began held had has lists.done waits
      (until_grows (waiting began ++ last_line (listed_count began) stop) had has answer written))
      reads)

  module _ (bytes piece : List ℕ) (joiner : Joining) (began now : Listing)
      (held had has : Option (List ℕ))
      (lists : HasPassed layout bytes joiner (AreListed names held had began))
      (waits : waiting began ≡ []) (grown : (more : List ℕ) × Appends had has more)
      (taken : Consumes input.old.left input.new.left (bytes ++ piece))
      (reads : input.new.reads ≤ input.old.reads + length bytes + 1)
      (few : length piece ≤ piece_length)
      (failed : input.new.has_failed ≡ false) (ended : input.new.has_ended ≡ false) where
    -- a fault was found in the piece
    pub check_broken : (gets : Option (List ℕ)) (fault : FrameFault)
        (answer : Result Checked ReportFault) → Breaks joiner piece fault
        → ListsPiece names joiner piece began now had has (Ok (Some fault))
        → WritesUntil (waiting now ++ last_line (listed_count now) (Frame fault)) has gets answer
        → IfOk answer
        (λ told. told ≡ checked_as (Frame fault) (listed_count now) (listed_marks now))
        → IsCheck names (reading layout cut allowed input) held gets answer
    check_broken gets fault answer breaks over written told =
        let all = bytes ++ piece in
        let is = ap (λ b. front layout b) (sym (append-nil all))
        ∙ holds_here lists (λ l text. front l ((text ++ piece) ++ [])
        ≡ broken_by (front l (text ++ piece)).records fault)
        (λ text stood. breaks text [] stood) in
        is_check all now held has gets (Frame fault) answer
        (lists_on began now held had has lists piece (Some fault) over)
        (ap (stop_after cut) (sym is)) written told taken
        (ends_early (ap (λ (f : Front). f.is_broken) is) failed ended)
        (written_before layout input bytes piece joiner began held had gets lists waits
        (grows_on had has gets grown (until_grows (waiting now ++ last_line (listed_count now)
        (Frame fault)) has gets answer written)) reads few failed ended)

    -- a line was not written, or there was no memory for it
    pub check_cut : (fault : ReportFault) → ListsPiece names joiner piece began now had has (Err fault)
        → IsCheck names (reading layout cut allowed input) held has (Err fault)
    check_cut fault some =
        let all = bytes ++ piece in
        let found = front layout all in
        let lines = record_lines names 1 found.records in
        let stop = stop_after cut found in
        let last = last_line (length found.records) stop in
        let part = holds_here lists (λ l text. AreListed names held had began (front l text).records
        → WritesSome names l (text ++ piece) held has) (λ text stood. some text held stood) lists.done
        [] in
        record {
          bytes = all;
          taken = taken;
          written = is_short (lines ++ last) (part.0 ++ last) held has
              (some_behind part.0 last (last_line_some (length found.records) stop))
              (written_of_more lines part.0 last held has
              (subst (λ b. WritesFirst (record_lines names 1 (front layout b).records) part.0 held has)
              (append-nil all) part.1));
          told = tt;
          ends = tt;
          no_further = written_before layout input bytes piece joiner began held had has lists
              waits grown reads few failed ended;
        }
