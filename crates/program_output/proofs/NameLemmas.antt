-- Lists of names: their lines, from the front on, and the names so far.
use Rattle.std.proofs.Common.{◌≡◌, ◌≢◌, ◌∙◌, ◌+◌, ◌<◌, ◌≤◌, ℕ, Bool, true, false, cond, List, []}
use Rattle.std.proofs.Common.{◌∷◌, ◌++◌, length, Result, Ok, Err, ap, refl, subst, sym, arith}
use Rattle.std.proofs.Common.{append_assoc, append-nil, le-ltb, lt-ltb, ne_eqb, All}
use Rattle.std.proofs.Common.{IfErr, IsErrAnd, nat_lt}
use Rattle.std.specs.List.{onto_first, slice_split}
use Rattle.std.specs.Str.Lines.{lines, lines_of_parts, strip_carriage_return}
use Rattle.std.proofs.lemmas.List.Splits.{slice_split_at, slice_split_none}
use Rattle.book_model.proofs.Std.{All-nil}
use Rattle.book_model.specs.Words.{most_choices}
use Rattle.program_output.specs.declared.listed_line.ListedLine.{ListedLine}
use Rattle.program_output.specs.declared.listed_line.ListedLine.TheVariants.{Blank, Name, Other}
use Rattle.program_output.specs.declared.names.Listed.{Listed}
use Rattle.program_output.specs.declared.names.NameList.{NameList}
use Rattle.program_output.specs.declared.names.NamesFault.{NamesFault}
use Rattle.program_output.specs.ListedLines.{read_line}
use Rattle.program_output.specs.Names.{AddsLine, HasRead, IsNamesFault, IsNoLine, KeepsLine, Names}
use Rattle.program_output.specs.Names.{is_feed, joined, named, names_after, names_from, names_in}
use Rattle.program_output.specs.Names.{numbered, numbers_after, numbers_from, numbers_in}
use Rattle.program_output.specs.declared.names.NamesFault.TheVariants as fault

-- ---- lines

-- there is at least one part
record HasFirst (parts : List (List ℕ)) : Type 0 where
  first : List ℕ
  others : List (List ℕ)
  is : parts ≡ first ∷ others

has_first : (text : List ℕ) → HasFirst (slice_split is_feed text)
has_first [] = record { first = []; others = []; is = refl }
has_first (byte ∷ text) = go (is_feed byte) (has_first text)
  where
    go : (here : Bool) → HasFirst (slice_split is_feed text)
        → HasFirst (cond here ([] ∷ slice_split is_feed text)
        (onto_first byte (slice_split is_feed text)))
    go true later = record { first = []; others = slice_split is_feed text; is = refl }
    go false later = record {
      first = byte ∷ later.first;
      others = later.others;
      is = ap (onto_first byte) later.is;
    }

-- a line that a line feed ends, and those after it
lines_first : (line more : List ℕ) → All (λ byte. is_feed byte ≡ false) line
    → lines (line ++ 10 ∷ more) ≡ strip_carriage_return line ∷ lines more
lines_first line more unended =
    let later = has_first more in
    ap lines_of_parts (slice_split_at is_feed line 10 more unended refl)
    ∙ ap (λ parts. lines_of_parts (line ∷ parts)) later.is
    ∙ ap (λ parts. strip_carriage_return line ∷ lines_of_parts parts) (sym later.is)

-- the last line, which no line feed ends
lines_last : (byte : ℕ) (line : List ℕ) → All (λ byte. is_feed byte ≡ false) (byte ∷ line)
    → lines (byte ∷ line) ≡ (byte ∷ line) ∷ []
lines_last byte line unended =
    ap lines_of_parts (slice_split_none is_feed (byte ∷ line) unended)
    ∙ ap (λ none. cond none [] ((byte ∷ line) ∷ []))
    (ne_eqb (length (byte ∷ line)) 0 (λ same. omega arith))

-- ---- names

joined_twice : (names : List (List ℕ)) (name : List ℕ) (more : Names)
    → joined names (joined (name ∷ []) more) ≡ joined (names ++ name ∷ []) more
joined_twice names name (Ok more) = ap Ok (sym (append_assoc names (name ∷ []) more))
joined_twice names name (Err why) = refl

-- the number of the next line is not too high
not_many : (count : ℕ) → count < most_choices → nat_lt most_choices (count + 1) ≡ false
not_many count few = le-ltb most_choices (count + 1) (omega arith)

too_many : (count : ℕ) → most_choices ≤ count → nat_lt most_choices (count + 1) ≡ true
too_many count many = lt-ltb most_choices (count + 1) (omega arith)

-- what a line adds to the names before it
names_added : (old new : Listed) (number : ℕ) (says : ListedLine) (later : Names)
    → AddsLine old number says new
    → joined old.names.items (named number says later) ≡ joined new.names.items later
names_added old new number Blank later same =
    ap (λ (one : Listed). joined one.names.items later) (sym same)
names_added old new number (Name name) later adds =
    joined_twice old.names.items name later ∙ ap (λ all. joined all later) (sym adds.0)
names_added old new number Other later never = absurd never

-- and to the numbers of their lines
numbers_added : (old new : Listed) (number : ℕ) (says : ListedLine) (later : List ℕ)
    → AddsLine old number says new
    → old.lines.items ++ numbered number says later ≡ new.lines.items ++ later
numbers_added old new number Blank later same =
    ap (λ (one : Listed). one.lines.items ++ later) (sym same)
numbers_added old new number (Name name) later adds =
    sym (append_assoc old.lines.items (number ∷ []) later) ∙ ap (λ all. all ++ later) (sym adds.1)
numbers_added old new number Other later never = absurd never

-- a line that was kept
pub names_kept : (old new : Listed) (ended now : ℕ) (line : List ℕ) (later : List (List ℕ))
    → KeepsLine old ended line new now
    → names_after old.names.items ended (line ∷ later) ≡ names_after new.names.items now later
names_kept old new ended now line later it =
    let number = ended + 1 in
    let rest = names_from (number + 1) later in
    ap (λ many. joined old.names.items
    (cond many (Err fault.TooMany) (named number (read_line line) rest))) (not_many ended it.few)
    ∙ ap (λ says. joined old.names.items (named number says rest)) it.read
    ∙ names_added old new number it.says rest it.adds
    ∙ ap (λ count. joined new.names.items (names_from (count + 1) later)) (sym it.next)

pub numbers_kept : (old new : Listed) (ended now : ℕ) (line : List ℕ) (later : List (List ℕ))
    → KeepsLine old ended line new now
    → numbers_after old.lines.items ended (line ∷ later) ≡ numbers_after new.lines.items now later
numbers_kept old new ended now line later it =
    let number = ended + 1 in
    let rest = numbers_from (number + 1) later in
    ap (λ says. old.lines.items ++ numbered number says rest) it.read
    ∙ numbers_added old new number it.says rest it.adds
    ∙ ap (λ count. new.lines.items ++ numbers_from (count + 1) later) (sym it.next)

-- a line that was not
pub no_line : (names : List (List ℕ)) (ended : ℕ) (line : List ℕ) (later : List (List ℕ))
    (why : NamesFault) → IsNoLine ended line why
    → IsNamesFault (names_after names ended (line ∷ later)) why
no_line names ended line later fault.Memory it = tt
no_line names ended line later (fault.Line number) it =
    let next = ended + 1 in
    let rest = names_from (next + 1) later in
    ap (λ many. joined names (cond many (Err fault.TooMany) (named next (read_line line) rest)))
    (not_many ended it.0)
    ∙ ap (λ says. joined names (named next says rest)) it.1
    ∙ ap (λ number. Err (fault.Line number)) (sym it.2)
no_line names ended line later fault.TooMany it =
    let next = ended + 1 in
    let rest = names_from (next + 1) later in
    ap (λ many. joined names (cond many (Err fault.TooMany) (named next (read_line line) rest)))
    (too_many ended it)

-- ---- bytes as they come

-- the line feed after a line
pub line_read : (text : List ℕ) (old new : NameList) (byte : ℕ) (line : List ℕ) → byte ≡ 10
    → line ≡ strip_carriage_return old.line.items → HasRead text old
    → KeepsLine old.listed old.ended line new.listed new.ended → new.line.items ≡ []
    → HasRead (text ++ byte ∷ []) new
line_read text old new byte line feed is had kept none = record {
  names = λ more. ap names_in (append_assoc text (byte ∷ []) more)
      ∙ ap (λ byte. names_in (text ++ byte ∷ more)) feed ∙ had.names (10 ∷ more)
      ∙ ap (names_after old.listed.names.items old.ended)
      (lines_first old.line.items more had.unended)
      ∙ ap (λ line. names_after old.listed.names.items old.ended (line ∷ lines more)) (sym is)
      ∙ names_kept old.listed new.listed old.ended new.ended line (lines more) kept
      ∙ ap (λ left. names_after new.listed.names.items new.ended (lines (left ++ more)))
      (sym none);
  numbers = λ more. ap numbers_in (append_assoc text (byte ∷ []) more)
      ∙ ap (λ byte. numbers_in (text ++ byte ∷ more)) feed ∙ had.numbers (10 ∷ more)
      ∙ ap (numbers_after old.listed.lines.items old.ended)
      (lines_first old.line.items more had.unended)
      ∙ ap (λ line. numbers_after old.listed.lines.items old.ended (line ∷ lines more)) (sym is)
      ∙ numbers_kept old.listed new.listed old.ended new.ended line (lines more) kept
      ∙ ap (λ left. numbers_after new.listed.lines.items new.ended (lines (left ++ more)))
      (sym none);
  unended = subst (All (λ byte. is_feed byte ≡ false)) (sym none)
      (All-nil (λ byte. is_feed byte ≡ false));
}

pub line_refused : (text more : List ℕ) (old : NameList) (byte : ℕ) (line : List ℕ)
    (why : NamesFault) → byte ≡ 10 → line ≡ strip_carriage_return old.line.items → HasRead text old
    → IsNoLine old.ended line why → IsNamesFault (names_in (text ++ byte ∷ more)) why
line_refused text more old byte line why feed is had bad =
    subst (λ found. IsNamesFault found why)
    (sym (ap (λ byte. names_in (text ++ byte ∷ more)) feed ∙ had.names (10 ∷ more)
    ∙ ap (names_after old.listed.names.items old.ended)
    (lines_first old.line.items more had.unended)
    ∙ ap (λ line. names_after old.listed.names.items old.ended (line ∷ lines more)) (sym is)))
    (no_line old.listed.names.items old.ended line (lines more) why bad)

-- the fault that `?` hands on
pub fault_is : {T E : Type 0} (result : Result T E) (found : E) (IsOf : E → Type 0)
    → IsErrAnd result (λ why. why ≡ found) → IsOf found → IfErr result IsOf
fault_is (Ok value) found IsOf is holds = tt
fault_is (Err why) found IsOf is holds = subst IsOf (sym is) holds

-- the end, after a line that no line feed ended, or without one
at_end : (text : List ℕ) (list : NameList) → HasRead text list
    → names_in text ≡ names_after list.listed.names.items list.ended (lines list.line.items)
at_end text list had =
    ap names_in (sym (append-nil text)) ∙ had.names []
    ∙ ap (λ left. names_after list.listed.names.items list.ended (lines left))
    (append-nil list.line.items)

numbers_at_end : (text : List ℕ) (list : NameList) → HasRead text list
    → numbers_in text ≡ numbers_after list.listed.lines.items list.ended (lines list.line.items)
numbers_at_end text list had =
    ap numbers_in (sym (append-nil text)) ∙ had.numbers []
    ∙ ap (λ left. numbers_after list.listed.lines.items list.ended (lines left))
    (append-nil list.line.items)

no_byte : (left : List ℕ) → length left ≡ 0 → left ≡ []
no_byte [] none = refl
no_byte (byte ∷ left) none = cc

pub ended_whole : (text : List ℕ) (list : NameList) → HasRead text list → length list.line.items ≡ 0
    → names_in text ≡ Ok list.listed.names.items
ended_whole text list had none =
    at_end text list had
    ∙ ap (λ left. names_after list.listed.names.items list.ended (lines left))
    (no_byte list.line.items none)
    ∙ ap Ok (append-nil list.listed.names.items)

pub numbers_whole : (text : List ℕ) (list : NameList) → HasRead text list
    → length list.line.items ≡ 0 → numbers_in text ≡ list.listed.lines.items
numbers_whole text list had none =
    numbers_at_end text list had
    ∙ ap (λ left. numbers_after list.listed.lines.items list.ended (lines left))
    (no_byte list.line.items none)
    ∙ append-nil list.listed.lines.items

last_line : (line : List ℕ) → length line ≢ 0 → All (λ byte. is_feed byte ≡ false) line
    → lines line ≡ line ∷ []
last_line [] some unended = absurd (some refl)
last_line (byte ∷ line) some unended = lines_last byte line unended

pub ended_named : (text : List ℕ) (list : NameList) (new : Listed) (now : ℕ) → HasRead text list
    → length list.line.items ≢ 0 → KeepsLine list.listed list.ended list.line.items new now
    → names_in text ≡ Ok new.names.items
ended_named text list new now had some kept =
    at_end text list had
    ∙ ap (names_after list.listed.names.items list.ended)
    (last_line list.line.items some had.unended)
    ∙ names_kept list.listed new list.ended now list.line.items [] kept
    ∙ ap Ok (append-nil new.names.items)

pub ended_numbered : (text : List ℕ) (list : NameList) (new : Listed) (now : ℕ) → HasRead text list
    → length list.line.items ≢ 0 → KeepsLine list.listed list.ended list.line.items new now
    → numbers_in text ≡ new.lines.items
ended_numbered text list new now had some kept =
    numbers_at_end text list had
    ∙ ap (numbers_after list.listed.lines.items list.ended)
    (last_line list.line.items some had.unended)
    ∙ numbers_kept list.listed new list.ended now list.line.items [] kept
    ∙ append-nil new.lines.items

pub ended_refused : (text : List ℕ) (list : NameList) (why : NamesFault) → HasRead text list
    → length list.line.items ≢ 0 → IsNoLine list.ended list.line.items why
    → IsNamesFault (names_in text) why
ended_refused text list why had some bad =
    subst (λ found. IsNamesFault found why)
    (sym (at_end text list had
    ∙ ap (names_after list.listed.names.items list.ended)
    (last_line list.line.items some had.unended)))
    (no_line list.listed.names.items list.ended list.line.items [] why bad)
