-- The table of the commands, and what words are by it.
use Rattle.std.specs.Prelude.{◌≡◌, ℕ, ℤ, pos, Bool, true, false, List, [], ◌∷◌, ◌++◌, Option, map, codes}
use Rattle.std.specs.List.{list_all}
use Rattle.std.specs.Prelude.{Result, Ok, Err, IsSomeAnd, String, string_bytes}
use Rattle.std.specs.Global.{Global}
use Rattle.clap.specs.Faults.{fault_of, is_simple_and_free}
use Rattle.clap.specs.Kinds.{Kinds, IsAmong}
use Rattle.clap.specs.Simple.{Shape, is_simple, subcommand_of}
use Rattle.clap.specs.Walk.{Row, Text}
use Rattle.clap.specs.declared.error.kind.ErrorKind.{ErrorKind}
use Rattle.clap.specs.declared.error.kind.ErrorKind.TheVariants as error
use Rattle.report_rows.specs.ReportRows as reports
use Rattle.report_rows.specs.declared.report_row.ReportName.{ReportName}
use Rattle.report_rows.specs.declared.report_row.Shape as subject
use Rattle.report_rows.specs.declared.report_row.Shape.TheVariants as about
use Rattle.command_line.specs.declared.fault.ArgumentFault.{ArgumentFault}
use Rattle.command_line.specs.declared.fault.ArgumentFault.TheVariants as fault
use Rattle.command_line.specs.declared.known_commands.Argument.{Argument}
use Rattle.command_line.specs.declared.known_commands.Argument.TheVariants as word
use Rattle.command_line.specs.declared.known_commands.KnownCommand.{KnownCommand}
use Rattle.command_line.specs.declared.known_commands.ValueKind.{ValueKind}
use Rattle.command_line.specs.declared.known_commands.ValueKind.TheVariants as kind
use Rattle.command_line.specs.declared.request.Request.{Request}
use Rattle.command_line.specs.Requests.{IsRequest}
use Rattle.command_line.specs.Shapes.{app_for, distinct, leaf}

-- the words of a command line, as texts
abbrev pub as_texts : List (String Global) → List Text
as_texts words = map string_bytes words

-- what a value may be, a word or an option, and a command, as one reads them
pub data ValueSeen : Type 0 where
  any : ValueSeen
  among : List Text → ValueSeen
  at_most : ℤ → ValueSeen
  up_to : ℤ → ValueSeen
  rate : ValueSeen

pub data WordSeen : Type 0 where
  flag : Text → WordSeen
  place : Text → ValueSeen → WordSeen
  place_or : Text → ValueSeen → Text → WordSeen
  place_if_given : Text → ValueSeen → WordSeen
  named : Text → ValueSeen → WordSeen
  named_or : Text → ValueSeen → Text → WordSeen
  named_if_given : Text → ValueSeen → WordSeen

-- so the code's table is read
abbrev pub value_seen : ValueKind → ValueSeen
value_seen kind.Text = any
value_seen (kind.OneOf texts) = among (map (λ text. text.now) texts.now)
value_seen (kind.AtMost most) = at_most most
value_seen (kind.UpTo most) = up_to most
value_seen kind.Rate = rate

abbrev pub word_seen : Argument → WordSeen
word_seen (word.Flag name help) = flag name.now
word_seen (word.InPlace name help value) = place name.now (value_seen value)
word_seen (word.InPlaceOr name help value text) = place_or name.now (value_seen value) text.now
word_seen (word.Named name help value) = named name.now (value_seen value)
word_seen (word.NamedOr name help value text) = named_or name.now (value_seen value) text.now
word_seen (word.NamedIfGiven name help value) = named_if_given name.now (value_seen value)
word_seen (word.InPlaceIfGiven name help value) = place_if_given name.now (value_seen value)

abbrev pub command_seen : KnownCommand → Text × List WordSeen
command_seen known = (known.name.now, map word_seen known.words.now)

-- ---- the words

-- the highest number of a period, or of what is explained
abbrev pub most_number : ℤ
most_number = pos 65535

abbrev pub book : WordSeen
book = place (codes "book") any

abbrev pub file : WordSeen
file = place (codes "file") any

abbrev pub period : WordSeen
period = place (codes "period") (at_most most_number)

-- the centre that is credited, with what, and why
abbrev pub credited : WordSeen
credited = place (codes "centre") any

abbrev pub amount : WordSeen
amount = place (codes "amount") any

abbrev pub reason : WordSeen
reason = place (codes "reason") any

abbrev pub date : WordSeen
date = place (codes "date") any

-- the text of a tariff that another took the place of
abbrev pub replaced : WordSeen
replaced = named_if_given (codes "replaced") any

abbrev pub digest : WordSeen
digest = place_if_given (codes "sha256") any

abbrev pub record_name : WordSeen
record_name = place (codes "sha256") any

abbrev pub names : WordSeen
names = named_if_given (codes "from") any

abbrev pub dumped : WordSeen
dumped = named_if_given (codes "dump") any

-- an entry of the journal, of which all that came by it is meant
abbrev pub imported : WordSeen
imported = named_if_given (codes "import") any

-- who asks, and why
abbrev pub by : WordSeen
by = named_if_given (codes "by") any

abbrev pub note : WordSeen
note = named_if_given (codes "note") any

abbrev pub number_kind : WordSeen
number_kind = place (codes "kind") (among (codes "frame" ∷ codes "ledger" ∷ codes "tariff"
    ∷ codes "damaged" ∷ codes "io" ∷ codes "busy" ∷ codes "exists" ∷ codes "word"
    ∷ codes "unsound" ∷ codes "log" ∷ codes "layout" ∷ codes "far" ∷ codes "torn" ∷ []))

abbrev pub kind_number : WordSeen
kind_number = place_or (codes "number") (at_most most_number) (codes "0")

abbrev pub port : WordSeen
port = named (codes "port") (up_to (pos 65535))

abbrev pub requests : WordSeen
requests = named (codes "requests") (up_to (pos 1000000))

abbrev pub layouts : WordSeen
layouts = named_or (codes "layout") (among (codes "rdw" ∷ codes "bdw" ∷ [])) (codes "rdw")

abbrev pub rate_of : Text → WordSeen
rate_of name = named_or name rate (codes "0")

-- a tariff file: of a trial, or of a statement by other prices
abbrev pub prices : WordSeen
prices = named_if_given (codes "tariff") any

abbrev pub quiet : WordSeen
quiet = flag (codes "quiet")

abbrev pub whole : WordSeen
whole = flag (codes "whole")

abbrev pub with_names : WordSeen
with_names = flag (codes "names")

abbrev pub explain : WordSeen
explain = flag (codes "explain")

abbrev pub dry_run : WordSeen
dry_run = flag (codes "dry-run")

abbrev pub near : WordSeen
near = flag (codes "near")

abbrev pub replace : WordSeen
replace = flag (codes "replace")

abbrev pub none : WordSeen
none = flag (codes "none")

abbrev pub csv : WordSeen
csv = flag (codes "csv")

abbrev pub html : WordSeen
html = flag (codes "html")

abbrev pub centre : WordSeen
centre = named_if_given (codes "centre") any

-- for how many seconds a command may be asked to wait for books that are in use, and waits unasked
abbrev pub most_wait : ℤ
most_wait = pos 3600

abbrev pub usual_wait : Text
usual_wait = codes "10"

abbrev pub wait : WordSeen
wait = named_or (codes "wait") (at_most most_wait) usual_wait

-- what says which period, tariff or record a report is about, by its shape,
abbrev pub named_by : subject.Shape → List WordSeen
named_by about.OfCentre = period ∷ []
named_by about.OfPeriod = period ∷ []
named_by about.OfOffice = []
named_by about.OfDay = date ∷ []
named_by about.OfRecord = record_name ∷ []

-- and of which centre, or which tariff that another took the place of
abbrev pub chosen_by : subject.Shape → List WordSeen
chosen_by about.OfCentre = centre ∷ []
chosen_by about.OfDay = replaced ∷ []
chosen_by other = []

-- what may be a table or a page, or be made by other prices
abbrev pub if_csv : Bool → List WordSeen
if_csv true = csv ∷ []
if_csv false = []

abbrev pub if_html : Bool → List WordSeen
if_html true = html ∷ []
if_html false = []

abbrev pub if_prices : Bool → List WordSeen
if_prices true = prices ∷ []
if_prices false = []

-- the words of a report follow from its row
abbrev pub report_words : reports.Row → List WordSeen
report_words row = book ∷ (named_by row.shape
    ++ (if_csv row.csv ++ (if_html row.html
    ++ (chosen_by row.shape ++ (if_prices row.by_prices ++ wait ∷ explain ∷ [])))))

abbrev pub report_command : ReportName → Text × List WordSeen
report_command name = ((reports.row_of name).word, report_words (reports.row_of name))

-- the commands above the reports in the program's help, and those below them
abbrev pub commands_above : List (Text × List WordSeen)
commands_above = (
  codes "trial",
  layouts ∷ rate_of (codes "cpu") ∷ rate_of (codes "excp") ∷ rate_of (codes "record") ∷ prices
      ∷ whole ∷ explain ∷ [],
) ∷
    (codes "check", layouts ∷ quiet ∷ whole ∷ with_names ∷ file ∷ explain ∷ []) ∷
    (codes "init", book ∷ explain ∷ []) ∷
    (codes "tariff", book ∷ file ∷ dry_run ∷ near ∷ replace ∷ by ∷ note ∷ wait ∷ explain ∷ []) ∷
    (codes "import", book ∷ file ∷ layouts ∷ quiet ∷ whole ∷ by ∷ note ∷ wait ∷ explain ∷ []) ∷
    (codes "close", book ∷ period ∷ date ∷ dry_run ∷ near ∷ by ∷ note ∷ wait ∷ explain ∷ []) ∷ (
      codes "choose",
      book ∷ digest ∷ names ∷ dumped ∷ layouts ∷ imported ∷ dry_run ∷ none ∷ by ∷ note ∷ wait
          ∷ explain ∷ [],
    ) ∷
    (codes "adopt", book ∷ dry_run ∷ by ∷ note ∷ wait ∷ explain ∷ []) ∷ (
      codes "credit",
      book ∷ period ∷ credited ∷ amount ∷ reason ∷ dry_run ∷ by ∷ note ∷ wait ∷ explain ∷ [],
    ) ∷
    []

abbrev pub commands_below : List (Text × List WordSeen)
commands_below = (codes "upgrade", book ∷ wait ∷ explain ∷ []) ∷
    (codes "audit", book ∷ quiet ∷ wait ∷ explain ∷ []) ∷
    (codes "backup", book ∷ file ∷ quiet ∷ wait ∷ explain ∷ []) ∷
    (codes "serve", book ∷ port ∷ requests ∷ by ∷ explain ∷ []) ∷
    (codes "explain", number_kind ∷ kind_number ∷ explain ∷ []) ∷
    []

-- The table of the commands.
unfoldable pub known_table : List (Text × List WordSeen)
known_table = commands_above ++ (map report_command reports.commands ++ commands_below)

-- The commands of the program are these; clap finds no fault with their words whatever the program is
-- called, and no command has two words of one name.
pub record IsTable (table : List KnownCommand) : Type 0 where
  pub is : map command_seen table ≡ known_table
  pub free : (program : Text) (highest : ℕ) → is_simple_and_free (app_for program highest table) ≡ true
  pub simple : (program : Text) (highest : ℕ) → is_simple (app_for program highest table) ≡ true
  pub alone : (program : Text) (highest : ℕ)
      → list_all (λ (shape : Shape). distinct shape.rules) (map (leaf program highest) table) ≡ true

-- help, or the version
abbrev pub is_help : ErrorKind → Bool
is_help error.DisplayHelp = true
is_help error.DisplayVersion = true
is_help other = false

-- what is said of one fault
abbrev pub IsFaultOf : ErrorKind → ArgumentFault → Type 0
IsFaultOf found fault.Memory = Unit {0}
IsFaultOf found (fault.Help text) = is_help found ≡ true
IsFaultOf found (fault.Wrong text) = is_help found ≡ false

-- a fault is among these, and is help, or is not
abbrev pub HasFault : Bool → Kinds → Type 0
HasFault help kinds = (found : ErrorKind) × IsAmong found kinds × (is_help found ≡ help)

-- What the words are, by the matches and the faults that clap's definition finds: the request of the
-- matches where there are no faults; help where that was asked for; or wrong. Memory may run out at
-- any words.
abbrev pub IsReadBy : Option (Text × List Row) → Kinds → Result Request ArgumentFault → Type 0
IsReadBy met kinds (Ok request) =
    (kinds ≡ []) × IsSomeAnd met (λ found. IsRequest found.0 found.1 request)
IsReadBy met kinds (Err fault.Memory) = Unit {0}
IsReadBy met kinds (Err (fault.Help text)) = HasFault true kinds
IsReadBy met kinds (Err (fault.Wrong text)) = HasFault false kinds

-- the words are read by the table of the commands
pub record AreReadAs (program : Text) (highest : ℕ) (words : List Text)
    (result : Result Request ArgumentFault) : Type 0 where
  pub table : List KnownCommand
  pub is : map command_seen table ≡ known_table
  pub read : IsReadBy (subcommand_of (app_for program highest table) words)
      (fault_of (app_for program highest table) words) result
