-- Which request clap's matches are: the name of a command, and what was found for its arguments.
use Rattle.std.specs.Prelude.{◌≡◌, ◌⊎◌, ◌&&◌, ◌||◌, ◌==◌, ℕ, Bool, true, false, List, Option, codes}
use Rattle.std.specs.Prelude.{Some, None, IsSome, IsSomeAnd, bytes_eq, is_some, nat_lt, not}
use Rattle.std.specs.Prelude.{length, nat_le, slice_get, ⊤}
use Rattle.std.specs.List.{list_all}
use Rattle.std.specs.Borrow.{Bor}
use Rattle.std.specs.Option.{option_map_or}
use Rattle.std.specs.Str.Parse.{IsNumeral, digits_value, without_leading_plus}
use Rattle.clap.specs.Matches.{found_of}
use Rattle.clap.specs.Values.{bool_text}
use Rattle.clap.specs.Walk.{Row, Text, first_of, one_of, rows_of}
use Rattle.clap.specs.declared.parser.matches.ArgMatches.{ArgMatches}
use Rattle.smf_frames.specs.declared.dump.Layout.{Layout}
use Rattle.smf_frames.specs.declared.dump.Layout.TheVariants.{Rdw, Bdw}
use Rattle.book_reports.specs.declared.what_if.StatementForm.{StatementForm}
use Rattle.book_reports.specs.declared.what_if.StatementForm.TheVariants as form
use Rattle.report_rows.specs.ReportRows as reports
use Rattle.report_rows.specs.declared.report_row.Shape.{Shape}
use Rattle.report_rows.specs.declared.report_row.Shape.TheVariants as shape
use Rattle.command_line.specs.declared.request.BookRequest.{BookRequest}
use Rattle.command_line.specs.declared.request.BookRequest.TheVariants as book
use Rattle.command_line.specs.declared.request.DumpFile.{DumpFile}
use Rattle.command_line.specs.declared.request.NoteWords.{NoteWords}
use Rattle.command_line.specs.declared.request.NumberKind.{NumberKind}
use Rattle.command_line.specs.declared.request.NumberKind.TheVariants as number
use Rattle.command_line.specs.declared.request.PeriodWords.{PeriodWords}
use Rattle.command_line.specs.declared.request.ReportAsked.{ReportAsked}
use Rattle.command_line.specs.declared.request.Request.{Request}
use Rattle.command_line.specs.declared.request.Request.TheVariants as request
use Rattle.command_line.specs.declared.request.Ruling.{Ruling}
use Rattle.command_line.specs.declared.request.Ruling.TheVariants as ruling
use Rattle.command_line.specs.declared.request.Unclear.{Unclear}
use Rattle.command_line.specs.declared.request.Unclear.TheVariants as unclear
use Rattle.command_line.specs.declared.request.Words.{Words}
use Rattle.command_line.specs.declared.request.Words.TheVariants as worded

-- what was found for a command's arguments
abbrev pub rows_in : ArgMatches → List Row
rows_in matches = rows_of (found_of matches)

-- decimal digits write the number, after a plus or none
abbrev pub Writes : Text → ℕ → Type 0
Writes text value =
    IsNumeral 10 (without_leading_plus text)
    × (value ≡ digits_value 10 (without_leading_plus text))

-- the text, the number or the flag that was given for an argument, or is its default
abbrev pub IsText : List Row → Text → Bor Text → Type 0
IsText rows name text = first_of name rows ≡ Some text.now

abbrev pub IsNumber : List Row → Text → ℕ → Type 0
IsNumber rows name value = IsSomeAnd (one_of name rows) (λ text. Writes text value)

abbrev pub IsFlag : List Row → Text → Bool → Type 0
IsFlag rows name flag = one_of name rows ≡ Some (bool_text flag)

-- the number of a period; and whether a table of comma-separated values is asked for
abbrev pub IsPeriod : List Row → ℕ → Type 0
IsPeriod rows period = IsNumber rows (codes "period") period

abbrev pub IsCsv : List Row → Bool → Type 0
IsCsv rows csv = IsFlag rows (codes "csv") csv

-- or a page
abbrev pub IsHtml : List Row → Bool → Type 0
IsHtml rows html = IsFlag rows (codes "html") html

-- a text was given for an argument that has no default
abbrev pub IsGiven : List Row → Text → Type 0
IsGiven rows name = IsSome (first_of name rows)

-- or none was
abbrev pub IsLeftOut : List Row → Text → Type 0
IsLeftOut rows name = first_of name rows ≡ None

-- the words for layouts, and for kinds of numbers and what has none
abbrev pub layout_text : Layout → Text
layout_text Rdw = codes "rdw"
layout_text Bdw = codes "bdw"

abbrev pub kind_text : NumberKind → Text
kind_text number.Frame = codes "frame"
kind_text number.Ledger = codes "ledger"
kind_text number.Tariff = codes "tariff"
kind_text number.Damaged = codes "damaged"
kind_text number.Io = codes "io"
kind_text number.Busy = codes "busy"
kind_text number.Exists = codes "exists"
kind_text number.Word = codes "word"
kind_text number.Unsound = codes "unsound"
kind_text number.Log = codes "log"
kind_text number.Layout = codes "layout"
kind_text number.Far = codes "far"
kind_text number.Torn = codes "torn"

abbrev pub IsLayout : List Row → Layout → Type 0
IsLayout rows value = first_of (codes "layout") rows ≡ Some (layout_text value)

abbrev pub IsKind : List Row → NumberKind → Type 0
IsKind rows value = first_of (codes "kind") rows ≡ Some (kind_text value)

-- whether a dump has to be whole
abbrev pub IsWhole : List Row → Bool → Type 0
IsWhole rows value = IsFlag rows (codes "whole") value

-- a dump in a file
pub record IsDump (rows : List Row) (dump : DumpFile) : Type 0 where
  pub file : IsText rows (codes "file") dump.file
  pub layout : IsLayout rows dump.layout
  pub quiet : IsFlag rows (codes "quiet") dump.quiet
  pub whole : IsWhole rows dump.whole

-- the centre that is named, or the whole office where none is
abbrev pub IsCentre : List Row → Option (Bor Text) → Type 0
IsCentre rows (Some centre) = IsText rows (codes "centre") centre
IsCentre rows None = IsLeftOut rows (codes "centre")

-- who asks, and why, where the words say it
abbrev pub IsIfGiven : List Row → Text → Option (Bor Text) → Type 0
IsIfGiven rows name (Some text) = IsText rows name text
IsIfGiven rows name None = IsLeftOut rows name

pub record IsNoted (rows : List Row) (said : NoteWords) : Type 0 where
  pub by : IsIfGiven rows (codes "by") said.by
  pub remark : IsIfGiven rows (codes "note") said.remark

-- a period, of the one or the other
pub record NamesPeriod (rows : List Row) (period : PeriodWords) : Type 0 where
  pub number : IsPeriod rows period.number
  pub centre : IsCentre rows period.centre

-- a report is a table where `--csv` asks for one, or else a text
abbrev pub is_table : StatementForm → Bool
is_table form.Text = false
is_table form.Table = true

-- this is the form that is asked for
abbrev pub IsForm : List Row → StatementForm → Type 0
IsForm rows value = IsCsv rows (is_table value)

-- the words that say what a report is about, by its shape
abbrev pub HasShape : Shape → List Row → Words → Type 0
HasShape shape.OfCentre rows (worded.OfCentre period) = NamesPeriod rows period
HasShape shape.OfPeriod rows (worded.OfPeriod period) = IsPeriod rows period
HasShape shape.OfOffice rows worded.OfOffice = ⊤
HasShape shape.OfDay rows (worded.OfDay date) =
    IsText rows (codes "date") date × IsLeftOut rows (codes "replaced")
HasShape shape.OfDay rows (worded.OfReplaced date digest) =
    IsText rows (codes "date") date × IsText rows (codes "replaced") digest
HasShape shape.OfRecord rows (worded.OfRecord digest) = IsText rows (codes "sha256") digest
HasShape other rows words = ⊥

-- A report, as its row has it. What is never a table is a text, what is never a page is none, and a
-- statement, where no tariff is named, is of what was charged.
pub record AsksReport (name : Text) (rows : List Row) (asked : ReportAsked) : Type 0 where
  pub word : name ≡ (reports.row_of asked.name).word
  pub table : (reports.row_of asked.name).csv ≡ true → IsForm rows asked.form
  pub text : (reports.row_of asked.name).csv ≡ false → asked.form ≡ form.Text
  pub page : (reports.row_of asked.name).html ≡ true → IsHtml rows asked.html
  pub no_page : (reports.row_of asked.name).html ≡ false → asked.html ≡ false
  pub words : HasShape (reports.row_of asked.name).shape rows asked.words
  pub charged : name ≡ codes "statement" → IsLeftOut rows (codes "tariff")

-- a ruling
abbrev pub IsRuling : Text → List Row → Ruling → Type 0
IsRuling name rows (ruling.Tariff file) =
    (name ≡ codes "tariff") × IsText rows (codes "file") file
    × IsFlag rows (codes "replace") false
IsRuling name rows (ruling.Close period date) =
    (name ≡ codes "close") × IsPeriod rows period
    × IsText rows (codes "date") date
IsRuling name rows (ruling.Choose digest) =
    (name ≡ codes "choose") × IsText rows (codes "sha256") digest
    × IsLeftOut rows (codes "from") × IsLeftOut rows (codes "dump")
    × IsLeftOut rows (codes "import") × IsFlag rows (codes "none") false
IsRuling name rows ruling.Adopt = name ≡ codes "adopt"
IsRuling name rows (ruling.Replace file) =
    (name ≡ codes "tariff") × IsText rows (codes "file") file
    × IsFlag rows (codes "replace") true
IsRuling name rows (ruling.Withhold digest) =
    (name ≡ codes "choose") × IsText rows (codes "sha256") digest
    × IsLeftOut rows (codes "from") × IsLeftOut rows (codes "dump")
    × IsLeftOut rows (codes "import") × IsFlag rows (codes "none") true
IsRuling name rows (ruling.Credit period centre amount reason) =
    (name ≡ codes "credit") × IsPeriod rows period × IsText rows (codes "centre") centre
    × IsText rows (codes "amount") amount × IsText rows (codes "reason") reason

-- whether only what would change is asked for
abbrev pub IsDryRun : List Row → Bool → Type 0
IsDryRun rows value = IsFlag rows (codes "dry-run") value

-- whether a ruling is made only where its day is not far; no other ruling has a day
abbrev pub IsNear : List Row → Ruling → Bool → Type 0
IsNear rows (ruling.Tariff file) value = IsFlag rows (codes "near") value
IsNear rows (ruling.Close period date) value = IsFlag rows (codes "near") value
IsNear rows (ruling.Replace file) value = IsFlag rows (codes "near") value
IsNear rows other value = value ≡ false

-- a record is named, or a list of names
abbrev pub names_some : List Row → Bool
names_some rows = is_some (first_of (codes "sha256") rows) || is_some (first_of (codes "from") rows)

-- or an import
abbrev pub names_others : List Row → Bool
names_others rows = names_some rows || is_some (first_of (codes "import") rows)

-- what is asked of books
abbrev pub IsOfBooks : Text → List Row → BookRequest → Type 0
IsOfBooks name rows book.Init = name ≡ codes "init"
IsOfBooks name rows (book.Rule ruled) =
    IsRuling name rows ruled × IsDryRun rows false × IsNear rows ruled false
IsOfBooks name rows (book.RuleNear ruled) =
    IsRuling name rows ruled × IsDryRun rows false × IsNear rows ruled true
IsOfBooks name rows (book.Import dump) = (name ≡ codes "import") × IsDump rows dump
IsOfBooks name rows (book.ChooseListed none file) =
    (name ≡ codes "choose") × IsLeftOut rows (codes "sha256")
    × IsText rows (codes "from") file × IsLeftOut rows (codes "dump")
    × IsLeftOut rows (codes "import") × IsFlag rows (codes "none") none × IsDryRun rows false
IsOfBooks name rows (book.TryListed none file) =
    (name ≡ codes "choose") × IsLeftOut rows (codes "sha256")
    × IsText rows (codes "from") file × IsLeftOut rows (codes "dump")
    × IsLeftOut rows (codes "import") × IsFlag rows (codes "none") none × IsDryRun rows true
IsOfBooks name rows (book.WithholdDump file layout) =
    (name ≡ codes "choose") × IsText rows (codes "dump") file × IsLayout rows layout
    × (names_others rows ≡ false) × IsFlag rows (codes "none") true × IsDryRun rows false
IsOfBooks name rows (book.WithholdImport number) =
    (name ≡ codes "choose") × IsLeftOut rows (codes "dump") × IsText rows (codes "import") number
    × (names_some rows ≡ false) × IsFlag rows (codes "none") true × IsDryRun rows false
IsOfBooks name rows (book.DryRun ruled) = IsRuling name rows ruled × IsDryRun rows true
IsOfBooks name rows (book.Report asked) =
    AsksReport name rows asked × ((reports.row_of asked.name).streamed ≡ false)
IsOfBooks name rows (book.List asked) =
    AsksReport name rows asked × ((reports.row_of asked.name).streamed ≡ true)
IsOfBooks name rows (book.WhatIf form period file) =
    (name ≡ codes "statement") × NamesPeriod rows period × IsForm rows form
    × IsText rows (codes "tariff") file
IsOfBooks name rows book.Upgrade = name ≡ codes "upgrade"
IsOfBooks name rows (book.Audit quiet) =
    (name ≡ codes "audit") × IsFlag rows (codes "quiet") quiet
IsOfBooks name rows (book.BackUp copy quiet) =
    (name ≡ codes "backup") × IsText rows (codes "file") copy × IsFlag rows (codes "quiet") quiet
IsOfBooks name rows (book.Serve port requests) =
    (name ≡ codes "serve") × IsNumber rows (codes "port") port
    × IsNumber rows (codes "requests") requests

-- a report is asked for as a table and as a page
abbrev pub is_both : BookRequest → Bool
is_both (book.Report asked) = asked.html && is_table asked.form
is_both other = false

-- the commands that wait for no books: new ones are not there yet, and a service has a time of its own
abbrev pub IsAtOnce : Text → Type 0
IsAtOnce name = (name ≡ codes "init") ⊎ (name ≡ codes "serve")

-- for how many seconds a command waits for books that are in use
abbrev pub IsWait : Text → List Row → ℕ → Type 0
IsWait name rows seconds =
    IsNumber rows (codes "wait") seconds ⊎ (IsAtOnce name × (seconds ≡ 0))

-- the rates of a trial, each of which is 0 where it is left out
abbrev pub AreRates : List Row → ℕ → ℕ → ℕ → Type 0
AreRates rows cpu excp price =
    IsNumber rows (codes "cpu") cpu × IsNumber rows (codes "excp") excp
    × IsNumber rows (codes "record") price

-- no rate is above 0
abbrev pub are_none : ℕ → ℕ → ℕ → Bool
are_none cpu excp price = cpu == 0 && excp == 0 && price == 0

-- a rate that is above 0 was given
pub record NamesRate (rows : List Row) : Type 0 where
  pub cpu : ℕ
  pub excp : ℕ
  pub price : ℕ
  pub are : AreRates rows cpu excp price
  pub some : are_none cpu excp price ≡ false

-- a number is written plainly: without a sign, and without a 0 before other digits
abbrev pub is_plain : Text → Bool
is_plain text =
    bytes_eq text (codes "0") || option_map_or (λ b. nat_lt 48 b && nat_lt b 58) (slice_get text 0) false

-- so is the period, where one is named
abbrev pub has_plain_period : List Row → Bool
has_plain_period rows = option_map_or is_plain (first_of (codes "period") rows) true

-- the longest person, and the longest remark
abbrev pub most_person : ℕ
most_person = 40

abbrev pub most_remark : ℕ
most_remark = 200

-- a text is no longer than that, and its characters are those from blank to tilde
abbrev pub is_printable : ℕ → Bool
is_printable character = nat_le 32 character && nat_le character 126

abbrev pub is_printable_within : ℕ → Text → Bool
is_printable_within most text = nat_le (length text) most && list_all is_printable text

-- so are the person and the remark, where they are given
abbrev pub has_plain_note : List Row → Bool
has_plain_note rows =
    option_map_or (is_printable_within most_person) (first_of (codes "by") rows) true
    && option_map_or (is_printable_within most_remark) (first_of (codes "note") rows) true

-- words that do not say what is asked, alone or together
abbrev pub IsUnclear : Text → List Row → Unclear → Type 0
IsUnclear name rows unclear.Choice =
    (name ≡ codes "choose") × IsLeftOut rows (codes "dump") × IsLeftOut rows (codes "import")
    × ((IsGiven rows (codes "sha256") × IsGiven rows (codes "from"))
    ⊎ (IsLeftOut rows (codes "sha256") × IsLeftOut rows (codes "from")))
IsUnclear name rows unclear.Dump =
    (name ≡ codes "choose") × IsGiven rows (codes "dump")
    × (IsFlag rows (codes "none") false ⊎ (IsDryRun rows true ⊎ (names_others rows ≡ true)))
IsUnclear name rows unclear.Import =
    (name ≡ codes "choose") × IsLeftOut rows (codes "dump") × IsGiven rows (codes "import")
    × (IsFlag rows (codes "none") false ⊎ (IsDryRun rows true ⊎ (names_some rows ≡ true)))
IsUnclear name rows unclear.Prices =
    (name ≡ codes "trial") × IsGiven rows (codes "tariff") × NamesRate rows
IsUnclear name rows unclear.Period = has_plain_period rows ≡ false
IsUnclear name rows unclear.Form =
    (asked : BookRequest) × IsOfBooks name rows asked × (is_both asked ≡ true)
IsUnclear name rows unclear.Note = has_plain_note rows ≡ false

-- what is asked of the program, by the words of a command
abbrev pub IsOfCommand : Text → List Row → Request → Type 0
IsOfCommand name rows (request.Trial layout cpu excp price whole) =
    (name ≡ codes "trial") × IsLayout rows layout × AreRates rows cpu excp price
    × IsLeftOut rows (codes "tariff") × IsWhole rows whole
IsOfCommand name rows (request.TrialUnder layout file whole) =
    (name ≡ codes "trial") × IsLayout rows layout × AreRates rows 0 0 0
    × IsText rows (codes "tariff") file × IsWhole rows whole
IsOfCommand name rows (request.Check dump names) =
    (name ≡ codes "check") × IsDump rows dump × IsFlag rows (codes "names") names
IsOfCommand name rows (request.Explain kind value) =
    (name ≡ codes "explain") × IsKind rows kind × IsNumber rows (codes "number") value
IsOfCommand name rows (request.OfBooks path wait said asked) =
    IsText rows (codes "book") path × IsWait name rows wait × IsNoted rows said
    × IsOfBooks name rows asked
IsOfCommand name rows (request.Unclear why) = IsUnclear name rows why

-- it is only said that a period is not written plainly
abbrev pub is_of_period_text : Request → Bool
is_of_period_text (request.Unclear unclear.Period) = true
is_of_period_text asked = false

-- or that a person or a remark is too long, or has other characters
abbrev pub is_of_note_text : Request → Bool
is_of_note_text (request.Unclear unclear.Note) = true
is_of_note_text asked = false

-- what is asked, by the words of a command whose period is written plainly
pub record IsPlainRequest (name : Text) (rows : List Row) (asked : Request) : Type 0 where
  pub command : IsOfCommand name rows asked
  pub noted : has_plain_note rows ≡ not (is_of_note_text asked)

-- What is asked of the program. A period that is not written plainly is refused before all else, and
-- then such a person or remark.
pub record IsRequest (name : Text) (rows : List Row) (asked : Request) : Type 0 where
  pub command : IsOfCommand name rows asked
  pub plain : has_plain_period rows ≡ not (is_of_period_text asked)
  pub noted : is_of_period_text asked ≡ false → has_plain_note rows ≡ not (is_of_note_text asked)
