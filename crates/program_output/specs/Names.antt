-- The names of a list.
use Rattle.std.specs.Prelude.{◌≡◌, ◌==◌, ◌+◌, ◌<◌, ◌≤◌, ⊤, Bool, false, ℕ, nat_lt, if◌then◌else◌}
use Rattle.std.specs.Prelude.{List, [], ◌∷◌, ◌++◌, Result, Ok, Err, All}
use Rattle.std.specs.Str.Lines.{lines}
use Rattle.book_model.specs.Words.{most_choices}
use Rattle.program_output.specs.declared.listed_line.ListedLine.{ListedLine}
use Rattle.program_output.specs.declared.listed_line.ListedLine.TheVariants.{Blank, Name, Other}
use Rattle.program_output.specs.declared.names.Listed.{Listed}
use Rattle.program_output.specs.declared.names.NameList.{NameList}
use Rattle.program_output.specs.declared.names.NamesFault.{NamesFault}
use Rattle.program_output.specs.ListedLines.{read_line}
pub use Rattle.book_reports.specs.RecordNames.{name_in}
use Rattle.program_output.specs.declared.names.NamesFault.TheVariants as fault

-- the names, or why there are none
abbrev pub Names : Type 0
Names = Result (List (List ℕ)) NamesFault

-- some names before others, if those are names
abbrev pub joined : List (List ℕ) → Names → Names
joined names (Ok more) = Ok (names ++ more)
joined names (Err why) = Err why

-- what the line of a number says, and the names of the lines after it; one that says nothing is passed
-- over
abbrev pub named : ℕ → ListedLine → Names → Names
named number Blank later = later
named number (Name name) later = joined (name ∷ []) later
named number Other later = Err (fault.Line number)

-- the names of lines, of which the first has this number; or the first line that says something else, or
-- that is one too many
abbrev pub names_from : ℕ → List (List ℕ) → Names
names_from number [] = Ok []
names_from number (line ∷ more) =
    if nat_lt most_choices number then Err fault.TooMany
    else named number (read_line line) (names_from (number + 1) more)

-- The names of a list, which has one a line, and no more lines than books take choices. A line ends with
-- a line feed, before which a carriage return may stand; the last line may lack it.
abbrev pub names_in : List ℕ → Names
names_in text = names_from 1 (lines text)

-- the number of a line, unless it is passed over, and those of the lines after it
abbrev pub numbered : ℕ → ListedLine → List ℕ → List ℕ
numbered number Blank later = later
numbered number (Name name) later = number ∷ later
numbered number Other later = number ∷ later

abbrev pub numbers_from : ℕ → List (List ℕ) → List ℕ
numbers_from number [] = []
numbers_from number (line ∷ more) =
    numbered number (read_line line) (numbers_from (number + 1) more)

-- the numbers of the lines of a list that are not passed over
abbrev pub numbers_in : List ℕ → List ℕ
numbers_in text = numbers_from 1 (lines text)

-- why there are no names of a list
abbrev pub IsNamesFault : Names → NamesFault → Type 0
IsNamesFault names fault.Memory = ⊤
IsNamesFault names why = names ≡ Err why

-- ---- a list as its bytes come

-- the names so far, and those of the lines after so many that have ended
abbrev pub names_after : List (List ℕ) → ℕ → List (List ℕ) → Names
names_after names ended lines = joined names (names_from (ended + 1) lines)

-- so with the numbers of their lines
abbrev pub numbers_after : List ℕ → ℕ → List (List ℕ) → List ℕ
numbers_after numbers ended lines = numbers ++ numbers_from (ended + 1) lines

-- a line feed
abbrev pub is_feed : ℕ → Bool
is_feed byte = byte == 10

-- these bytes of a list have come: the names are those of the lines that ended, and a line has not ended
-- yet
pub record HasRead (text : List ℕ) (list : NameList) : Type 0 where
  pub names : (more : List ℕ) → names_in (text ++ more)
      ≡ names_after list.listed.names.items list.ended (lines (list.line.items ++ more))
  pub numbers : (more : List ℕ) → numbers_in (text ++ more)
      ≡ numbers_after list.listed.lines.items list.ended (lines (list.line.items ++ more))
  pub unended : All (λ byte. is_feed byte ≡ false) list.line.items

-- a line that says nothing changes nothing, and any other adds a name, and its own number
abbrev pub AddsLine : Listed → ℕ → ListedLine → Listed → Type 0
AddsLine old number Blank new = new ≡ old
AddsLine old number (Name name) new =
    (new.names.items ≡ old.names.items ++ name ∷ [])
    × (new.lines.items ≡ old.lines.items ++ number ∷ [])
AddsLine old number Other new = ⊥

-- the line after so many was kept, and so many have ended now
pub record KeepsLine (old : Listed) (ended : ℕ) (line : List ℕ) (new : Listed) (now : ℕ) : Type 0 where
  pub says : ListedLine
  pub read : read_line line ≡ says
  pub few : ended < most_choices
  pub adds : AddsLine old (ended + 1) says new
  pub next : now ≡ ended + 1

-- or it was not
abbrev pub IsNoLine : ℕ → List ℕ → NamesFault → Type 0
IsNoLine ended line fault.Memory = ⊤
IsNoLine ended line (fault.Line number) =
    (ended < most_choices) × (read_line line ≡ Other) × (number ≡ ended + 1)
IsNoLine ended line fault.TooMany = most_choices ≤ ended
