-- What a list gains with a line, and with what is written of the lines that wait.
use Rattle.std.proofs.Common.{◌≡◌, ◌∙◌, Bool, ℕ, ◌+◌, List, [], ◌∷◌, ◌++◌, length, take, sym, ap, subst}
use Rattle.std.proofs.Common.{append_assoc, append-nil, length-append, Option, Result, Ok, Err, refl}
use Rattle.std.specs.Io.KnownBytes.{Appends}
use Rattle.std.proofs.KnownBytes.{Appends-trans}
use Rattle.book_model.specs.Words.{class_of}
use Rattle.book_model.specs.declared.note.Stop.{Stop}
use Rattle.book_lists.specs.declared.fault.ReportFault.{ReportFault}
use Rattle.book_lists.specs.Streamed.{WritesFirst}
use Rattle.book_lists.specs.Writing.{WritesUntil}
use Rattle.book_lists.proofs.StreamedLemmas.{first_written, rest_until, then_written, written_as}
use Rattle.book_lists.proofs.StreamedLemmas.{written_of_more}
use Rattle.program_output.specs.declared.listing.Checked.{Checked}
use Rattle.program_output.specs.declared.listing.Listing.{Listing}
use Rattle.program_output.specs.declared.marks.Marks.{Marks}
use Rattle.book_reports.specs.CheckLists.{record_line, record_lines, last_line, check_list_text}
use Rattle.program_output.specs.Listings.{HasListed, waiting, listed_count, listed_marks}
use Rattle.program_output.specs.Marks.{marks_after, marks_with, no_marks}
use Rattle.program_output.specs.Checks.{AreWritten}
use Rattle.book_reports.proofs.NumberLemmas.{lines-append, one_more_line}

-- all was written
pub all_written : (text rest : List ℕ) (held holds : Option (List ℕ)) → rest ≡ []
    → Appends held holds text → WritesFirst text rest held holds
all_written text rest held holds none grown = record {
  first = text;
  grown = grown;
  parts = sym (append-nil text) ∙ ap (λ b. text ++ b) (sym none);
}

module _ {names : Bool} where
  -- the lines so far, with the line of one more record
  lines_on : (records : List (List ℕ)) (bytes : List ℕ) (held had : Option (List ℕ))
      (began : Listing) → HasListed names records held had began
      → WritesFirst (record_lines names 1 (records ++ bytes ∷ []))
      (waiting began ++ record_line names (listed_count began + 1) bytes) held had
  lines_on records bytes held had began listed =
      let line = record_line names (listed_count began + 1) bytes in
      written_as (record_lines names 1 records ++ line) (record_lines names 1 (records ++ bytes ∷ []))
      (waiting began ++ line) held had
      (ap (λ n. record_lines names 1 records ++ record_line names (n + 1) bytes) listed.count
      ∙ sym (one_more_line names records bytes))
      (written_of_more (record_lines names 1 records) (waiting began) line held had listed.lines)

-- the marks of records, with those of one more
marks_more : (marks : Marks) (records : List (List ℕ)) (bytes : List ℕ)
    → marks_after marks (records ++ bytes ∷ []) ≡ marks_with (class_of bytes) (marks_after marks records)
marks_more marks [] bytes = refl
marks_more marks (one ∷ records) bytes = marks_more (marks_with (class_of one) marks) records bytes

module _ {names : Bool} where
  -- one more record was listed
  pub listed_more : (records : List (List ℕ)) (bytes : List ℕ) (held had has : Option (List ℕ))
      (began now : Listing) → HasListed names records held had began
      → WritesFirst (waiting began ++ record_line names (listed_count began + 1) bytes) (waiting now) had has
      → listed_count now ≡ listed_count began + 1
      → listed_marks now ≡ marks_with (class_of bytes) (listed_marks began)
      → HasListed names (records ++ bytes ∷ []) held has now
  listed_more records bytes held had has began now listed line count marks = record {
    count = count ∙ ap (λ n. n + 1) listed.count ∙ sym (length-append records (bytes ∷ []));
    marks = marks ∙ ap (marks_with (class_of bytes)) listed.marks
        ∙ sym (marks_more no_marks records bytes);
    lines = then_written (record_lines names 1 (records ++ bytes ∷ []))
        (waiting began ++ record_line names (listed_count began + 1) bytes) (waiting now) held had has
        (lines_on records bytes held had began listed) line;
  }

module _ {names : Bool} where
  -- at the line of one more record there was a fault, whatever records follow
  pub line_cut : (records later : List (List ℕ)) (bytes left : List ℕ)
      (held had has : Option (List ℕ)) (began : Listing) → HasListed names records held had began
      → WritesFirst (waiting began ++ record_line names (listed_count began + 1) bytes) left had has
      → (rest : List ℕ) × WritesFirst (record_lines names 1 (records ++ bytes ∷ later)) rest held has
  line_cut records later bytes left held had has began listed line =
      let all = record_lines names 1 (records ++ bytes ∷ []) in
      let others = record_lines names (1 + length (records ++ bytes ∷ [])) later in
      let so_far = then_written all (waiting began ++ record_line names (listed_count began + 1) bytes) left
      held had has (lines_on records bytes held had began listed) line in (
        left ++ others,
        written_as (all ++ others) (record_lines names 1 (records ++ bytes ∷ later)) (left ++ others) held
            has
            (sym (lines-append names 1 (records ++ bytes ∷ []) later)
            ∙ ap (record_lines names 1) (append_assoc records (bytes ∷ []) later))
            (written_of_more all left others held has so_far),
      )

module _ {names : Bool} where
  -- what was waiting was written
  pub listed_flushed : (records : List (List ℕ)) (held had has : Option (List ℕ))
      (began now : Listing) → HasListed names records held had began
      → Appends had has (waiting began) → waiting now ≡ [] → listed_count now ≡ listed_count began
      → listed_marks now ≡ listed_marks began → HasListed names records held has now
  listed_flushed records held had has began now listed grown none count marks = record {
    count = count ∙ listed.count;
    marks = marks ∙ listed.marks;
    lines = then_written (record_lines names 1 records) (waiting began) (waiting now) held had has
        listed.lines (all_written (waiting began) (waiting now) had has none grown);
  }

module _ {names : Bool} where
  -- a part of what was waiting was written, whatever records follow
  pub flush_cut : (records later : List (List ℕ)) (count : ℕ) (held had has : Option (List ℕ))
      (began : Listing) → HasListed names records held had began
      → Appends had has (take count (waiting began))
      → (rest : List ℕ) × WritesFirst (record_lines names 1 (records ++ later)) rest held has
  flush_cut records later count held had has began listed grown =
      let others = record_lines names (1 + length records) later in
      let part = first_written (waiting began) count had has grown in (
        part.0 ++ others,
        written_as (record_lines names 1 records ++ others) (record_lines names 1 (records ++ later))
            (part.0 ++ others) held has (sym (lines-append names 1 records later))
            (written_of_more (record_lines names 1 records) part.0 others held has
            (then_written (record_lines names 1 records) (waiting began) part.0 held had has listed.lines
            part.1)),
      )

module _ {names : Bool} where
  -- the last line was written after the others, or before a fault not all of what was left
  pub listed_whole : (records : List (List ℕ)) (stop : Stop) (held had has : Option (List ℕ))
      (began : Listing) (answer : Result Checked ReportFault) → HasListed names records held had began
      → WritesUntil (waiting began ++ last_line (listed_count began) stop) had has answer
      → WritesUntil (check_list_text names records stop) held has answer
  listed_whole records stop held had has began answer listed ended =
      let last = last_line (length records) stop in
      let so_far = written_of_more (record_lines names 1 records) (waiting began) last held had
      listed.lines in
      let ended_so = subst (λ n. WritesUntil (waiting began ++ last_line n stop) had has answer)
      listed.count ended in
      rest_until (record_lines names 1 records ++ last) (waiting began ++ last) held had has answer so_far
      ended_so

-- all of a text, or a part of it, came after what the writer held
pub until_grows : {A : Type 0} (text : List ℕ) (held holds : Option (List ℕ))
    (answer : Result A ReportFault) → WritesUntil text held holds answer
    → (more : List ℕ) × Appends held holds more
until_grows text held holds (Ok value) written = (text, written)
until_grows text held holds (Err fault) written = (take written.0 text, written.2)

-- and then more came after it
pub grows_on : (held had has : Option (List ℕ)) → (more : List ℕ) × Appends held had more
    → (more : List ℕ) × Appends had has more → (more : List ℕ) × Appends held has more
grows_on held had has one other =
    (one.0 ++ other.0, Appends-trans held had has one.0 other.0 one.1 other.1)

module _ {names : Bool} where
  -- lines of which none is waiting were written, whatever was written then
  pub lines_written : (records : List (List ℕ)) (listing : Listing) (held had has : Option (List ℕ))
      → HasListed names records held had listing → waiting listing ≡ []
      → (more : List ℕ) × Appends had has more → AreWritten names held has records
  lines_written records listing held had has listed none grown =
      let lines = listed.lines in (
        grown.0,
        subst (λ b. Appends held has (b ++ grown.0))
            (sym (lines.parts ∙ ap (λ b. lines.first ++ b) none ∙ append-nil lines.first))
            (Appends-trans held had has lines.first grown.0 lines.grown grown.1),
      )
