-- What runs do to the journal, and what notes do to reports.
use Rattle.std.specs.Prelude.{◌≡◌, ◌≤◌, ℕ, ◌+◌, Some, true, List, ◌∷◌, length}
use Rattle.book_model.specs.JournalLaws.{AreNoted, Stays, adoption_in, adoption_once, choice_in}
use Rattle.book_model.specs.JournalLaws.{close_in, credit_in, days_back, down_from, entered}
use Rattle.book_model.specs.JournalLaws.{kept_outside, tariff_in, without_notes}
use Rattle.book_model.specs.Words.{Book, Entry, Event, Naming, book_after, has, kept_in_all, members}
use Rattle.book_model.specs.Words.{Place, RulingSeen, ruling_at, times_kept}
use Rattle.book_reports.specs.BookTexts.{report_answer}
use Rattle.book_reports.specs.declared.report.Report.{Report}
use Rattle.book_laws.specs.Runs.{Run, IsRunAfter, book_after_run, history_with}
use Rattle.book_laws.specs.Statements.{ReadsNoEntry}

-- Histories that differ only in times, persons, remarks, files and imports give the same text of
-- each report that says nothing of the journal.
abbrev pub NotesChangeNoText : Type 0
NotesChangeNoText =
    (naming : Naming) (report : Report) (one other : List Event) → ReadsNoEntry report
    → without_notes one ≡ without_notes other
    → report_answer naming report (book_after one) ≡ report_answer naming report (book_after other)

-- No run changes an entry of the journal or lets one go: it stays where it stood, as it was, but
-- for an import that went on, which may have kept more.
abbrev pub RunsKeepEntries : Type 0
RunsKeepEntries =
    (naming : Naming) (history : List Event) (run : Run) (entry : Entry) (older : List Entry)
    → IsRunAfter naming history run → (book_after history).journal ≡ entry ∷ older
    → Stays entry older (book_after_run history run).journal

-- After any run a record that is held came by one import at most, and by one where each came in an
-- import; and what the imports kept, with what came in none, adds up to what is held.
pub record RunsKeepEachOnce : Type 0 where
  pub once :
      (naming : Naming) (history : List Event) (run : Run) (bytes : List ℕ)
      → IsRunAfter naming history run
      → times_kept (book_after_run history run).journal bytes ≤ 1
  pub all :
      (naming : Naming) (history : List Event) (run : Run) (bytes : List ℕ)
      → IsRunAfter naming history run → kept_outside (history_with history run) ≡ 0
      → has (book_after_run history run).held bytes ≡ true
      → times_kept (book_after_run history run).journal bytes ≡ 1
  pub sum :
      (naming : Naming) (history : List Event) (run : Run) → IsRunAfter naming history run
      → kept_in_all (book_after_run history run).journal
      + kept_outside (history_with history run)
      ≡ length (members (book_after_run history run).held)

-- The journal names each tariff, each close, each choice and each credit once, in the order in
-- which they came, and the adoption once.
pub record HasRulings (book : Book) : Type 0 where
  pub tariffs : entered tariff_in book.journal ≡ days_back book.rulings.tariffs
  pub closes : entered close_in book.journal ≡ down_from (length book.rulings.closes)
  pub choices : entered choice_in book.journal ≡ down_from (length book.rulings.choices)
  pub credits : entered credit_in book.journal ≡ down_from (length book.rulings.credits)
  pub adoption : entered adoption_in book.journal ≡ adoption_once book.rulings.adopted

-- So it is after any run, if each ruling came with a note.
abbrev pub RunsEnterRulings : Type 0
RunsEnterRulings =
    (naming : Naming) (history : List Event) (run : Run) → IsRunAfter naming history run
    → AreNoted (history_with history run) → HasRulings (book_after_run history run)

-- What the place of an entry leads to, it leads to after any run.
abbrev pub RunsKeepWords : Type 0
RunsKeepWords =
    (naming : Naming) (history : List Event) (run : Run) (place : Place) (seen : RulingSeen)
    → IsRunAfter naming history run
    → ruling_at naming (book_after history).rulings place ≡ Some seen
    → ruling_at naming (book_after_run history run).rulings place ≡ Some seen
