-- The words of a report, in the table of the commands: a name that is no other command's is that of the
-- report whose word it is, and has the words of its row.
use Rattle.std.proofs.Common.{◌≡◌, ◌∙◌, Bool, true, false, cond, List, [], ◌∷◌, ◌++◌, map, Option}
use Rattle.std.proofs.Common.{Some, None, refl, sym, ap, subst, find, bytes_eq, IsSomeAnd}
use Rattle.report_rows.specs.ReportRows.{has_word, named_report, row_of}
use Rattle.report_rows.specs.declared.report_row.ReportName.{ReportName}
use Rattle.command_line.proofs.Shared.{same_Some, bytes_eq-Decides, Row, Text, HasWords, HasWordsOf}
use Rattle.command_line.specs.Given.{HasWord, NoneIs}
use Rattle.command_line.specs.Known.{WordSeen, chosen_by, commands_above, commands_below, if_csv}
use Rattle.command_line.specs.Known.{if_html, if_prices, known_table, named_by, report_command}
use Rattle.command_line.specs.Known.{report_words}
use Rattle.command_line.proofs.ReaderLemmas.{not_named}
use Rattle.command_line.proofs.RowLemmas.{none_some}
use Rattle.report_rows.specs.ReportRows as reports
use Rattle.command_line.specs.Known as known

-- a command has this name
abbrev is_called : Text → Text × List WordSeen → Bool
is_called name command = bytes_eq command.0 name

-- commands that have other names are passed over
passed : (table more : List (Text × List WordSeen)) (name : Text)
    → NoneIs (map (λ c. c.0) table) name
    → find (is_called name) (table ++ more) ≡ find (is_called name) more
passed [] more name none = refl
passed (c ∷ table) more name none =
    go (is_called name c) refl (passed table more name none.1)
  where
    go : (b : Bool) → bytes_eq c.0 name ≡ b
        → find (is_called name) (table ++ more) ≡ find (is_called name) more
        → cond b (Some c) (find (is_called name) (table ++ more)) ≡ find (is_called name) more
    go true same later = absurd (none.0 (sym ((bytes_eq-Decides c.0 name).0 same)))
    go false same later = later

-- the command of a report, or what comes after the reports
abbrev met_by : Option ReportName → Option (Text × List WordSeen) → Option (Text × List WordSeen)
met_by None later = later
met_by (Some report) later = Some (report_command report)

-- of the commands of reports, the one that has the name is that of the report, and where none has it,
-- they are passed over
passed_reports : (names : List ReportName) (more : List (Text × List WordSeen)) (name : Text)
    (which : Option ReportName) → find (has_word name) names ≡ which
    → find (is_called name) (map report_command names ++ more)
    ≡ met_by which (find (is_called name) more)
passed_reports [] more name which is = ap (λ which. met_by which (find (is_called name) more)) is
passed_reports (one ∷ names) more name which is =
    go (has_word name one) is (passed_reports names more name which)
  where
    go : (b : Bool) → cond b (Some one) (find (has_word name) names) ≡ which
        → (find (has_word name) names ≡ which
        → find (is_called name) (map report_command names ++ more)
        ≡ met_by which (find (is_called name) more))
        → cond b (Some (report_command one))
        (find (is_called name) (map report_command names ++ more))
        ≡ met_by which (find (is_called name) more)
    go true is later = ap (λ which. met_by which (find (is_called name) more)) is
    go false is later = later is

-- the report that is found has the word
word_of : (names : List ReportName) (name : Text) (report : ReportName)
    → find (has_word name) names ≡ Some report → name ≡ (row_of report).word
word_of [] name report is = absurd (none_some report is)
word_of (one ∷ names) name report is =
    go (has_word name one) refl is (word_of names name report)
  where
    go : (b : Bool) → bytes_eq (row_of one).word name ≡ b
        → cond b (Some one) (find (has_word name) names) ≡ Some report
        → (find (has_word name) names ≡ Some report → name ≡ (row_of report).word)
        → name ≡ (row_of report).word
    go true same is later =
        sym ((bytes_eq-Decides (row_of one).word name).0 same)
        ∙ ap (λ (other : ReportName). (row_of other).word) (same_Some one report is)
    go false same is later = later is

pub named_word : (name : Text) (report : ReportName) → Some report ≡ named_report name
    → name ≡ (row_of report).word
named_word name report is = word_of reports.commands name report (sym is)

-- some words have their values, and so have the first of them and the rest
apart : (rows : List Row) (words more : List WordSeen) → HasWords rows (words ++ more)
    → HasWords rows words × HasWords rows more
apart rows [] more has = (tt, has)
apart rows (word ∷ words) more has =
    let parts = apart rows words more has.1 in ((has.0, parts.0), parts.1)

-- of the words of a report: the books, what it is about, its form, and how long to wait
pub record HasReport (rows : List Row) (row : reports.Row) : Type 0 where
  pub book : HasWord rows known.book
  pub named : HasWords rows (named_by row.shape)
  pub csv : row.csv ≡ true → HasWord rows known.csv
  pub html : row.html ≡ true → HasWord rows known.html
  pub wait : HasWord rows known.wait

report_has : (rows : List Row) (row : reports.Row) → HasWords rows (report_words row)
    → HasReport rows row
report_has rows row has =
    let waits = known.wait ∷ known.explain ∷ [] in
    let priced = if_prices row.by_prices ++ waits in
    let chosen = chosen_by row.shape ++ priced in
    let paged = if_html row.html ++ chosen in
    let first = apart rows (named_by row.shape) (if_csv row.csv ++ paged) has.1 in
    let second = apart rows (if_csv row.csv) paged first.1 in
    let third = apart rows (if_html row.html) chosen second.1 in
    let fourth = apart rows (chosen_by row.shape) priced third.1 in
    let last = apart rows (if_prices row.by_prices) waits fourth.1 in
    record {
      book = has.0;
      named = first.0;
      csv = λ is. (subst (λ (csv : Bool). HasWords rows (if_csv csv)) is second.0).0;
      html = λ is. (subst (λ (html : Bool). HasWords rows (if_html html)) is third.0).0;
      wait = last.1.0;
    }

-- a report that is named has its words
pub words_of_report : (rows : List Row) (name : Text) (report : ReportName)
    → Some report ≡ named_report name → NoneIs (map (λ c. c.0) commands_above) name
    → HasWordsOf name rows → HasReport rows (row_of report)
unfolding known_table
words_of_report rows name report is above has =
    report_has rows (row_of report)
    (subst (λ (met : Option (Text × List WordSeen)).
    IsSomeAnd met (λ command. HasWords rows command.1))
    (passed commands_above (map report_command reports.commands ++ commands_below) name above
    ∙ passed_reports reports.commands commands_below name (Some report) (sym is)) has)

-- no other name has any
pub no_words : (rows : List Row) (name : Text) → None ≡ named_report name
    → NoneIs (map (λ c. c.0) commands_above) name → NoneIs (map (λ c. c.0) commands_below) name
    → HasWordsOf name rows → ⊥
unfolding known_table
no_words rows name is above below has =
    not_named (λ command. HasWords rows command.1) commands_below name below
    (subst (λ (met : Option (Text × List WordSeen)).
    IsSomeAnd met (λ command. HasWords rows command.1))
    (passed commands_above (map report_command reports.commands ++ commands_below) name above
    ∙ passed_reports reports.commands commands_below name None (sym is)) has)
