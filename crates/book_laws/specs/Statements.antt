-- The reports of equal books, and what stays of a closed period.
use Rattle.std.specs.Prelude.{◌≡◌, ℕ, List, Option}
use Rattle.book_model.specs.JournalLaws.{unjournaled}
use Rattle.book_model.specs.Words.{Naming, Book}
use Rattle.book_reports.specs.BookTexts.{report_answer}
use Rattle.book_reports.specs.declared.report.PeriodReport.{PeriodReport}
use Rattle.book_reports.specs.declared.report.Report.{Report}
use Rattle.book_reports.specs.declared.report.Report.TheVariants.{OfPeriod, Record}
use Rattle.book_laws.specs.ClosedPeriods.{IsReadAlike}

-- the books are the same, and so are all reports of them
pub record HaveSameTexts (one other : Book) : Type 0 where
  pub book : one ≡ other
  pub reports : (naming : Naming) (report : Report)
      → report_answer naming report one ≡ report_answer naming report other

-- A report says nothing of the journal. That of a record says by which entry it came.
abbrev pub ReadsNoEntry : Report → Type 0
ReadsNoEntry (Record name) = ⊥
ReadsNoEntry report = Unit {0}

-- The books differ in their journals alone; and so the reports that say nothing of it are the same.
pub record HaveSameTextsApart (one other : Book) : Type 0 where
  pub book : unjournaled one ≡ unjournaled other
  pub reports : (naming : Naming) (report : Report) → ReadsNoEntry report
      → report_answer naming report one ≡ report_answer naming report other

-- a closed period is read alike in both books, and its statement and its adjustments, those of the
-- office and of each centre, are the same
pub record StaysClosed (naming : Naming) (number : ℕ) (old new : Book) : Type 0 where
  pub read : IsReadAlike naming number old new
  pub reports : (report : PeriodReport) (centre : Option (List ℕ))
      → report_answer naming (OfPeriod report number centre) new
      ≡ report_answer naming (OfPeriod report number centre) old
