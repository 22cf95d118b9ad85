-- The paths that are served: a front, and behind it what names a period, a day or a record.
use Rattle.std.specs.Prelude.{◌≡◌, ℕ, ◌≤◌, List, [], ◌++◌, codes, decimal, Option, Some, None}
use Rattle.std.specs.Prelude.{IfSome}
use Rattle.book_model.specs.Words.{Rdw, Bdw, IsDay, IsName, day_text_of}
use Rattle.book_reports.specs.RecordNames.{name_in}
use Rattle.report_rows.specs.ReportRows.{path_in, row_of}
use Rattle.report_rows.specs.declared.about.About.{About}
use Rattle.report_rows.specs.declared.report_row.Shape.{Shape}
use Rattle.report_rows.specs.declared.report_row.Shape.TheVariants.{OfCentre, OfDay, OfOffice}
use Rattle.report_rows.specs.declared.report_row.Shape.TheVariants.{OfPeriod, OfRecord}
use Rattle.book_http.specs.declared.endpoint.Endpoint.{Endpoint}
use Rattle.book_reports.specs.declared.what_if.StatementForm.TheVariants as shown_as
use Rattle.report_rows.specs.declared.about.About.TheVariants as about
use Rattle.book_http.specs.declared.endpoint.Endpoint.TheVariants as endpoint

-- the front of the paths of what is served, if it is: that of a report as its row says
abbrev pub front_of : Endpoint → Option (List ℕ)
front_of (endpoint.Report name form) = path_in (row_of name) form
front_of endpoint.Office = Some (codes "/")
front_of (endpoint.WhatIf shown_as.Text) = Some (codes "/what-if/")
front_of (endpoint.WhatIf shown_as.Table) = Some (codes "/what-if-csv/")
front_of (endpoint.Import Rdw) = Some (codes "/import")
front_of (endpoint.Import Bdw) = Some (codes "/import-bdw")

-- what its paths name behind that
abbrev pub shape_of : Endpoint → Shape
shape_of (endpoint.Report name form) = (row_of name).shape
shape_of endpoint.Office = OfOffice
shape_of (endpoint.WhatIf form) = OfCentre
shape_of (endpoint.Import layout) = OfOffice

-- a period that a path can name
abbrev pub IsPathPeriod : ℕ → Type 0
IsPathPeriod n = (1 ≤ n) × (n ≤ 9999)

-- a period in a path, and a centre after it, if there is one
abbrev pub period_text : ℕ → Option (List ℕ) → List ℕ
period_text n None = decimal n
period_text n (Some centre) = decimal n ++ codes "/" ++ centre

-- a text names this in a path: no text the office, and digits of either case that spell its name a record
abbrev pub Names : Shape → List ℕ → About → Type 0
Names OfCentre text (about.OfCentre n centre) =
    (text ≡ period_text n centre) × IsPathPeriod n × IfSome centre IsName
Names OfPeriod text (about.OfPeriod n) = (text ≡ decimal n) × IsPathPeriod n
Names OfOffice text about.OfOffice = text ≡ []
Names OfDay text (about.OfDay day) = (text ≡ day_text_of day) × IsDay day
Names OfRecord text (about.OfRecord name) = name_in text ≡ Some name
Names shape text thing = ⊥

-- What a path leads to: an endpoint, and what the path names behind the front of that.
pub record IsPathOf (path : List ℕ) (asked : Endpoint × About) : Type 0 where
  pub front : List ℕ
  pub rest : List ℕ
  pub served : front_of asked.0 ≡ Some front
  pub is : path ≡ front ++ rest
  pub names : Names (shape_of asked.0) rest asked.1
