-- Dry runs: what a ruling would answer, and what it would change of the period that is open before
-- it. Each figure has a line, with its value before the ruling and after it.
use Rattle.std.specs.Prelude.{ℕ, ◌+◌, List, [], ◌++◌, codes, Result, Ok, Err}
use Rattle.std.specs.Fmt.{decimal}
use Rattle.hex.specs.Hex.{encode_lower}
use Rattle.book_model.specs.declared.answer.Ruled.{Ruled}
use Rattle.book_model.specs.declared.answer.Ruled.TheVariants.{Done, Already}
use Rattle.book_model.specs.declared.fault.LedgerFault.{LedgerFault}
use Rattle.book_model.specs.Words.{Book, IsDay, Naming, Outcome, after_any, day_text_of}
use Rattle.report_texts.specs.Columns.{newline, left_aligned, right_aligned, amount_text}
use Rattle.report_texts.specs.AdjustmentLists.{signed_text}
use Rattle.report_texts.specs.Figures.{figures, period_open}
use Rattle.report_texts.specs.RulingLists.{close_words}
use Rattle.report_texts.specs.declared.dry_runs.TriedRuling.{TriedRuling}
use Rattle.report_texts.specs.declared.dry_runs.TriedRuling.TheVariants.{Tariff, Close, Choose, Adopt}
use Rattle.report_texts.specs.declared.dry_runs.TriedRuling.TheVariants.{Credit, Replace, Withhold}
use Rattle.report_texts.specs.declared.figures.Figures.{Figures}

-- the day of the ruling, where it has one, is a day
abbrev pub NamesDay : TriedRuling → Type 0
NamesDay (Tariff first) = IsDay first
NamesDay (Close period through) = IsDay through
NamesDay (Choose name) = Unit {0}
NamesDay Adopt = Unit {0}
NamesDay (Replace first) = IsDay first
NamesDay (Withhold name) = Unit {0}
NamesDay (Credit period centre) = Unit {0}

-- a credit, by its period and its centre
unfoldable pub credit_words : ℕ → List ℕ → List ℕ
credit_words period centre = codes "CREDIT " ++ decimal period ++ codes " " ++ centre

-- a ruling: a tariff by its first day, a close by its period and its day, a choice by the record's name,
-- a credit by its period and its centre
unfoldable pub ruling_words : TriedRuling → List ℕ
ruling_words (Tariff first) = codes "TARIFF " ++ day_text_of first
ruling_words (Close period through) = close_words period through
ruling_words (Choose name) = codes "CHOOSE " ++ encode_lower name
ruling_words Adopt = codes "ADOPT"
ruling_words (Replace first) = codes "TARIFF " ++ day_text_of first ++ codes " REPLACE"
ruling_words (Withhold name) = codes "CHOOSE NONE " ++ encode_lower name
ruling_words (Credit period centre) = credit_words period centre

-- what is answered to it
abbrev pub answer_word : Ruled → List ℕ
answer_word Done = codes "DONE"
answer_word Already = codes "ALREADY"

-- the first line: the ruling, and its answer
unfoldable pub dry_run_head : TriedRuling → Ruled → List ℕ
dry_run_head ruling answer =
    codes "DRY RUN " ++ ruling_words ruling ++ codes " " ++ answer_word answer ++ newline

-- the line of a figure: which it is, what it was, and what it is then
unfoldable pub figure_line : List ℕ → List ℕ → List ℕ → List ℕ
figure_line name before after =
    left_aligned 16 name ++ codes " " ++ right_aligned 21 before
    ++ codes " " ++ right_aligned 21 after ++ newline

-- the line above them
abbrev pub figure_heading : List ℕ
figure_heading = figure_line [] (codes "BEFORE") (codes "AFTER")

-- a figure of a period, by a word and the number of the period
unfoldable pub figure_name : List ℕ → ℕ → List ℕ
figure_name word period = word ++ codes " " ++ decimal period

-- the line of what is counted
abbrev pub count_line : List ℕ → ℕ → ℕ → List ℕ
count_line name before after = figure_line name (decimal before) (decimal after)

-- the line of what the period's statement comes to
unfoldable pub statement_line : ℕ → Figures → Figures → List ℕ
statement_line period before after =
    figure_line (figure_name (codes "STATEMENT") period)
    (amount_text before.statement) (amount_text after.statement)

-- the line of what its adjustments come to
unfoldable pub adjustments_line : ℕ → Figures → Figures → List ℕ
adjustments_line period before after =
    figure_line (figure_name (codes "ADJUSTMENTS") period)
    (signed_text before.added before.reversed) (signed_text after.added after.reversed)

-- the line of how many records a period counts
unfoldable pub records_line : ℕ → ℕ → ℕ → List ℕ
records_line period before after = count_line (figure_name (codes "RECORDS") period) before after

-- the line of how many credits a period has
unfoldable pub credits_line : ℕ → ℕ → ℕ → List ℕ
credits_line period before after = count_line (figure_name (codes "CREDITS") period) before after

-- How many records that the period counts a tariff prices anew, of those dated on days on which it is
-- in force: none where it was in force already. (What is in dispute is priced anew too; no line of a
-- dry run counts it.)
abbrev pub priced_anew : Ruled → ℕ → ℕ
priced_anew Done dated = dated
priced_anew Already dated = 0

-- the line of the ruling: the records of the period that a tariff prices anew, those of the period
-- after the one that is open, the disputes, or the credits of the period
unfoldable pub own_line : TriedRuling → Ruled → ℕ → ℕ → ℕ → List ℕ
own_line (Tariff first) answer period before after =
    count_line (codes "PRICED") 0 (priced_anew answer after)
own_line (Close number through) answer period before after =
    records_line (period + 1) before after
own_line (Choose name) answer period before after = count_line (codes "DISPUTES") before after
own_line Adopt answer period before after = count_line (codes "DISPUTES") before after
own_line (Replace first) answer period before after =
    count_line (codes "PRICED") 0 (priced_anew answer after)
own_line (Withhold name) answer period before after = count_line (codes "DISPUTES") before after
own_line (Credit number centre) answer period before after = credits_line period before after

-- the lines of figures
abbrev pub figure_lines : TriedRuling → Ruled → ℕ → Figures → Figures → List ℕ
figure_lines ruling answer period before after =
    figure_heading
    ++ statement_line period before after
    ++ adjustments_line period before after
    ++ records_line period before.records after.records
    ++ own_line ruling answer period before.own after.own

-- a dry run of a ruling: its answer, and figures of the period that was open, before it and after it
abbrev pub dry_run_text : TriedRuling → Ruled → ℕ → Figures → Figures → List ℕ
dry_run_text ruling answer period before after =
    dry_run_head ruling answer ++ figure_lines ruling answer period before after

-- of the book before it, and the one after it
abbrev pub dry_run_of : Naming → TriedRuling → Ruled → Book → Book → List ℕ
dry_run_of naming ruling answer book after =
    let period = period_open book in
    dry_run_text ruling answer period
    (figures naming ruling period book) (figures naming ruling period after)

-- so by its answer; a refusal stays one
abbrev pub dry_answered :
    Naming → TriedRuling → Result Ruled LedgerFault → Book → Book → Result (List ℕ) LedgerFault
dry_answered naming ruling (Ok answer) book after = Ok (dry_run_of naming ruling answer book after)
dry_answered naming ruling (Err fault) book after = Err fault

-- What a dry run of a ruling answers, by what the ruling comes to: its text, by the book after the
-- one event that the ruling would be; or its refusal.
abbrev pub dry_answer : Naming → TriedRuling → Outcome Ruled → Book → Result (List ℕ) LedgerFault
dry_answer naming ruling outcome book =
    dry_answered naming ruling outcome.answer book (after_any outcome.event book)
