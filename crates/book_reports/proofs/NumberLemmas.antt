-- Numbered lines, with one line more.
use Rattle.std.proofs.Common.{◌≡◌, ℕ, ◌+◌, Bool, List, [], ◌∷◌, ◌++◌, length, arith}
use Rattle.std.proofs.Common.{append_assoc, append-nil}
use Rattle.std.proofs.lemmas.Grind.{common_steps}
use Rattle.book_reports.specs.CheckLists.{record_line, record_lines}

-- the lines of records, and then those of others
pub lines-append : (names : Bool) (number : ℕ) (records later : List (List ℕ))
    → record_lines names number (records ++ later)
    ≡ record_lines names number records ++ record_lines names (number + length records) later
lines-append names number [] later = grind (arith, common_steps)
lines-append names number (first ∷ rest) later =
    grind (arith, common_steps, append_assoc, lines-append names (number + 1) rest later)

-- the lines with one more record end with the line of that record
pub one_more_line : (names : Bool) (records : List (List ℕ)) (bytes : List ℕ)
    → record_lines names 1 (records ++ bytes ∷ [])
    ≡ record_lines names 1 records ++ record_line names (length records + 1) bytes
one_more_line names records bytes =
    grind (arith, append-nil, lines-append names 1 records (bytes ∷ []))
