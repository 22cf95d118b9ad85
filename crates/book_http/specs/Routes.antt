-- How it is found what a path leads to: its endpoint by matchit's reading of the routes, which are made of
-- the fronts, and then what it names behind its front. That this finds what Paths says, and nothing else,
-- is a clause of the function that looks it up.
use Rattle.std.specs.Prelude.{ℕ, Bool, true, false, if◌then◌else◌, List, [], ◌∷◌, ◌==◌, ◌++◌, codes}
use Rattle.std.specs.Prelude.{length, drop, nat_eq, Option, Some, None, option_and_then, option_map}
use Rattle.std.specs.Prelude.{Result, Ok, Err, fold}
use Rattle.std.specs.List.{before_first, starts_with}
use Rattle.matchit.specs.Order.{placed}
use Rattle.matchit.specs.Route.{Scan, parse_route}
use Rattle.matchit.specs.Rows.{RowsOf}
use Rattle.matchit.specs.Router.{RouteOf, route_from}
use Rattle.matchit.specs.Seek.{first}
use Rattle.matchit.specs.declared.error.InsertError.{InsertError}
use Rattle.book_model.specs.Words.{Rdw, Bdw, day_of_text_of}
use Rattle.book_reports.specs.BookTexts.{centre_named}
use Rattle.book_reports.specs.RecordNames.{name_in}
use Rattle.report_rows.specs.ReportRows.{reports}
use Rattle.report_rows.specs.declared.about.About.{About}
use Rattle.report_rows.specs.declared.report_row.ReportName.{ReportName}
use Rattle.report_rows.specs.declared.report_row.Shape.{Shape}
use Rattle.report_rows.specs.declared.report_row.Shape.TheVariants.{OfCentre, OfDay, OfOffice}
use Rattle.report_rows.specs.declared.report_row.Shape.TheVariants.{OfPeriod, OfRecord}
use Rattle.book_http.specs.declared.endpoint.Endpoint.{Endpoint}
use Rattle.book_http.specs.Numbers.{decimal_value}
use Rattle.book_http.specs.Paths.{front_of, shape_of}
use Rattle.book_reports.specs.declared.what_if.StatementForm.TheVariants as shown_as
use Rattle.report_rows.specs.declared.about.About.TheVariants as about
use Rattle.book_http.specs.declared.endpoint.Endpoint.TheVariants as endpoint

-- a target up to a question mark; nothing is decoded
abbrev pub path_of : List ℕ → List ℕ
path_of target = before_first (λ b. b == 63) target

-- ---- what a text names

-- a period is 1 to 4 digits, the first of them no 0
unfoldable pub period : List ℕ → Option ℕ
period text = if starts_with nat_eq text (codes "0") then None else decimal_value 4 text

-- the slash, in ASCII
abbrev pub is_slash : ℕ → Bool
is_slash b = b == 47

-- a text up to its first slash
abbrev pub before_slash : List ℕ → List ℕ
before_slash [] = []
before_slash (b ∷ rest) = if is_slash b then [] else b ∷ before_slash rest

-- what comes after that slash, if there is one
abbrev pub after_slash : List ℕ → Option (List ℕ)
after_slash [] = None
after_slash (b ∷ rest) = if is_slash b then Some rest else after_slash rest

-- a period of the whole office, if it is one
abbrev pub period_of_all : Option ℕ → Option (ℕ × Option (List ℕ))
period_of_all None = None
period_of_all (Some number) = Some (number, None)

-- a period, if it is one, of the centre that has the name, if that is a name
abbrev pub period_of_centre : Option ℕ → Option (List ℕ) → Option (ℕ × Option (List ℕ))
period_of_centre (Some number) (Some centre) = Some (number, Some centre)
period_of_centre number name = None

-- of a centre where there is a name, and else of the whole office
abbrev pub period_by : Option ℕ → Option (List ℕ) → Option (ℕ × Option (List ℕ))
period_by number None = period_of_all number
period_by number (Some name) = period_of_centre number (centre_named name)

-- the period that a text names, and the centre, which is named after a slash, if there is one
unfoldable pub period_in : List ℕ → Option (ℕ × Option (List ℕ))
period_in text = period_by (period (before_slash text)) (after_slash text)

-- no text names the books
abbrev pub office_in : List ℕ → Option About
office_in text = if length text == 0 then Some about.OfOffice else None

-- what a text names, by the shape of the path
unfoldable pub thing_in : Shape → List ℕ → Option About
thing_in OfCentre text = option_map (λ named. about.OfCentre named.0 named.1) (period_in text)
thing_in OfPeriod text = option_map about.OfPeriod (period text)
thing_in OfOffice text = office_in text
thing_in OfDay text = option_map about.OfDay (day_of_text_of text)
thing_in OfRecord text = option_map about.OfRecord (name_in text)

-- ---- what a path leads to at an endpoint

-- what a path has after its prefix
unfoldable pub path_rest : List ℕ → List ℕ → Option (List ℕ)
path_rest prefix path =
    if starts_with nat_eq path prefix then Some (drop (length prefix) path) else None

-- by what a path has behind its front
abbrev pub asked_in : Endpoint → List ℕ → Option (Endpoint × About)
asked_in place rest = option_map (λ thing. (place, thing)) (thing_in (shape_of place) rest)

-- by a path with this front
abbrev pub asked_behind : Endpoint → List ℕ → List ℕ → Option (Endpoint × About)
asked_behind place front path = option_and_then (asked_in place) (path_rest front path)

-- by a path of this endpoint
unfoldable pub route_at : Endpoint → List ℕ → Option (Endpoint × About)
route_at place path = option_and_then (λ front. asked_behind place front path) (front_of place)

-- ---- the router

-- what the router keeps of a route
abbrev pub Key : Type 0
Key = RouteOf Endpoint

-- the rows of the router with one more route, as matchit reads its text
abbrev pub with_scan : Result Scan InsertError → Endpoint → RowsOf Key → RowsOf Key
with_scan (Ok scan) value rows = placed (scan.pattern, route_from scan value) rows
with_scan (Err error) value rows = rows

abbrev pub with_route : List ℕ → Endpoint → RowsOf Key → RowsOf Key
with_route text value rows = with_scan (parse_route text) value rows

-- the paths of this shape name nothing behind their front
abbrev pub is_plain : Shape → Bool
is_plain OfOffice = true
is_plain shape = false

-- the route of a front with whatever follows it
abbrev pub open_route : List ℕ → List ℕ
open_route front = front ++ codes "{*rest}"

-- the rows with an endpoint, if it is served
abbrev pub with_front : Endpoint → Option (List ℕ) → RowsOf Key → RowsOf Key
with_front place None rows = rows
with_front place (Some front) rows =
    with_route (if is_plain (shape_of place) then front else open_route front) place rows

abbrev pub with_place : Endpoint → RowsOf Key → RowsOf Key
with_place place rows = with_front place (front_of place) rows

-- of endpoints that are put in one after the other
abbrev pub rows_of : List Endpoint → RowsOf Key
rows_of places =
    fold (λ (rows : RowsOf Key) (place : Endpoint). with_place place rows) [] places

-- what is served beside the reports
abbrev pub other_places : List Endpoint
other_places = endpoint.Office ∷ endpoint.WhatIf shown_as.Text ∷ endpoint.WhatIf shown_as.Table
    ∷ endpoint.Import Rdw ∷ endpoint.Import Bdw ∷ []

-- the rows with a report, in both forms
abbrev pub with_report : RowsOf Key → ReportName → RowsOf Key
with_report rows name =
    with_place (endpoint.Report name shown_as.Table)
    (with_place (endpoint.Report name shown_as.Text) rows)

-- of reports, and of what is served beside them
abbrev pub rows_with : List ReportName → RowsOf Key
rows_with names = fold with_report (rows_of other_places) names

-- of all that is served
unfoldable pub route_rows : RowsOf Key
route_rows = rows_with reports

-- the endpoint of a path
unfoldable pub endpoint_of : List ℕ → Option Endpoint
endpoint_of path = option_map (λ row. row.value) (first route_rows path)

-- what a path leads to
abbrev pub route_on : Option Endpoint → List ℕ → Option (Endpoint × About)
route_on None path = None
route_on (Some found) path = route_at found path

abbrev pub route : List ℕ → Option (Endpoint × About)
route path = route_on (endpoint_of path) path
