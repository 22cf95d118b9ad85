-- What is served is found by the front of its paths, and whatever goes on behind that.
use Rattle.std.proofs.Common.{◌≡◌, ◌∙◌, ℕ, suc, zero, ◌-◌, ◌<◌, Bool, true, false, cond, ◌&&◌, List}
use Rattle.std.proofs.Common.{[], ◌∷◌, ◌++◌, length, Option, Some, None, arith, refl, sym}
use Rattle.std.proofs.Common.{ap, subst, append-nil, true≢false, option_and_then, ◌==◌, decimal}
use Rattle.std.proofs.Common.{option_map}
use Rattle.matchit.proofs.OnLiterals.{matchit_on_literals}
use Rattle.matchit.specs.Rows.{RowsOf, param_token, catch_all_token}
use Rattle.matchit.specs.Seek.{step, or_else, seek, param_step, has_slash}
use Rattle.book_model.proofs.Std.{nat_tests, list_all}
use Rattle.smf_text.proofs.DayOfTextLemmas.{day_text_begins}
use Rattle.book_model.specs.Words.{Layout, Rdw, Bdw, day_text_of}
use Rattle.book_reports.proofs.RecordNameLemmas.{name_begins}
use Rattle.report_rows.specs.ReportRows.{row_of}
use Rattle.book_http.specs.declared.endpoint.Endpoint.{Endpoint}
use Rattle.book_http.proofs.Words.{digit_at, is_ascii_digit, IsInRange, StatementForm, About}
use Rattle.book_http.proofs.Words.{ReportName, Shape, OfCentre, OfDay, OfOffice, OfPeriod, OfRecord}
use Rattle.book_http.proofs.Words.{IsPathPeriod, Names, front_of, shape_of}
use Rattle.book_http.specs.Routes.{Key, endpoint_of, route_rows}
use Rattle.book_http.proofs.NamedPeriodLemmas.{after_number, text_begins}
use Rattle.book_http.proofs.PeriodLemmas.{are_digits, decimal_digits, three_pass}
use Rattle.book_reports.specs.declared.what_if.StatementForm.TheVariants as shown_as
use Rattle.report_rows.specs.declared.about.About.TheVariants as about
use Rattle.report_rows.specs.declared.report_row.ReportName.TheVariants as report
use Rattle.book_http.specs.declared.endpoint.Endpoint.TheVariants as endpoint

-- ---- rows of a router

-- a lookup in no rows finds nothing
param_nothing : (path : List ℕ) → (param_step {K = Key} [] path).1 ≡ []
unfolding param_step
param_nothing path =
    elim (has_slash path) as (λ slash.
    (cond {A = ℕ × RowsOf Key} slash (0, []) (length path, [])).1 ≡ []) [
      | true ↦ refl
      | false ↦ refl
    ]

seek_nothing : (skip : ℕ) (path : List ℕ) → seek {K = Key} skip [] path ≡ None
unfolding seek
seek_nothing skip [] = refl
seek_nothing (suc skip) (b ∷ path) = seek_nothing skip path
seek_nothing zero (b ∷ path) =
    let behind = (param_step {K = Key} [] (b ∷ path)).0 in
    simp (seek_nothing 0 path, param_nothing (b ∷ path), seek_nothing (behind - 1) path)

or_else_none : (a : Option Key) → or_else a None ≡ a
or_else_none None = refl
or_else_none (Some key) = refl

abbrev is_empty : RowsOf Key → Bool
is_empty [] = true
is_empty (row ∷ rows) = false

empty_is : (rows : RowsOf Key) → is_empty rows ≡ true → rows ≡ []
empty_is [] e = refl
empty_is (row ∷ rows) e = absurd (true≢false (sym e))

-- there is no parameter in the rows along these bytes
abbrev is_plain_along : List ℕ → RowsOf Key → Bool
is_plain_along [] rows = true
is_plain_along (b ∷ front) rows =
    (is_empty (step param_token rows) && is_empty (step catch_all_token rows))
    && is_plain_along front (step b rows)

-- the rows after these bytes
abbrev rows_along : List ℕ → RowsOf Key → RowsOf Key
rows_along [] rows = rows
rows_along (b ∷ front) rows = rows_along front (step b rows)

plain_step : (rows : RowsOf Key) (b : ℕ) (path : List ℕ)
    → step param_token rows ≡ [] → step catch_all_token rows ≡ []
    → seek 0 rows (b ∷ path) ≡ seek 0 (step b rows) path
unfolding seek
plain_step rows b path no_param no_rest =
    let behind = (param_step {K = Key} [] (b ∷ path)).0 in
    let nothing = seek_nothing (behind - 1) path in
    simp (no_param, no_rest, param_nothing (b ∷ path), nothing, or_else_none)

walk : (front path : List ℕ) (rows : RowsOf Key) → is_plain_along front rows ≡ true
    → seek 0 rows (front ++ path) ≡ seek 0 (rows_along front rows) path
walk [] path rows plain = refl
walk (b ∷ front) path rows plain =
    let passed =
    three_pass (is_empty (step param_token rows)) (is_empty (step catch_all_token rows))
    (is_plain_along front (step b rows)) plain in
    plain_step rows b (front ++ path) (empty_is _ passed.0) (empty_is _ passed.1)
    ∙ walk front path (step b rows) passed.2

step_lone : (key : Key) (b : ℕ) → b < 256 → step b ((catch_all_token ∷ [], key) ∷ []) ≡ []
step_lone key b byte = let other : (257 == b) ≡ false = grind (arith, nat_tests) in rw other refl

-- anything is found where the rest of a path is due
lone_found : (key : Key) (b : ℕ) (rest : List ℕ) → b < 256
    → seek 0 ((catch_all_token ∷ [], key) ∷ []) (b ∷ rest) ≡ Some key
unfolding seek
lone_found key b rest byte =
    let behind = (param_step {K = Key} [] (b ∷ rest)).0 in
    rw (
      step_lone key b byte,
      seek_nothing 0 rest,
      param_nothing (b ∷ rest),
      seek_nothing (behind - 1) rest,
    ) refl

-- ---- the front of an endpoint

-- the endpoint that rows lead to by whatever comes, where there is one
abbrev lone : RowsOf Key → Option Endpoint
lone ((token ∷ [], key) ∷ []) = cond (token == catch_all_token) (Some key.value) None
lone rows = None

-- and that of each path that goes on behind a front
abbrev behind : List ℕ → Option Endpoint
behind front = cond (is_plain_along front route_rows) (lone (rows_along front route_rows)) None

abbrev is_there : Option Endpoint → Bool
is_there None = false
is_there (Some place) = true

none_there : (place : Endpoint) → None ≡ Some place → ⊥
none_there place is = true≢false (sym (ap is_there is))

lone_leads : (rows : RowsOf Key) (place : Endpoint) (b : ℕ) (rest : List ℕ) → b < 256
    → lone rows ≡ Some place
    → option_map (λ (row : Key). row.value) (seek 0 rows (b ∷ rest)) ≡ Some place
lone_leads ((token ∷ [], key) ∷ []) place b rest byte leads =
    by (token == catch_all_token) refl leads
  where
    by : (same : Bool) → (token == catch_all_token) ≡ same
        → cond same (Some key.value) None ≡ Some place
        → option_map (λ (row : Key). row.value) (seek 0 ((token ∷ [], key) ∷ []) (b ∷ rest))
        ≡ Some place
    by true e leads =
        let alike : token ≡ catch_all_token = grind (arith, nat_tests) in
        ap
        (λ (token : ℕ). option_map (λ (row : Key). row.value)
        (seek 0 ((token ∷ [], key) ∷ []) (b ∷ rest))) alike
        ∙ ap (option_map (λ (row : Key). row.value)) (lone_found key b rest byte) ∙ leads
    by false e leads = absurd (none_there place leads)
lone_leads rows place b rest byte leads = absurd (none_there place leads)

behind_found : (front : List ℕ) (b : ℕ) (rest : List ℕ) (place : Endpoint) → b < 256
    → behind front ≡ Some place → endpoint_of (front ++ b ∷ rest) ≡ Some place
unfolding endpoint_of
behind_found front b rest place byte leads = by (is_plain_along front route_rows) refl leads
  where
    by : (plain : Bool) → is_plain_along front route_rows ≡ plain
        → cond plain (lone (rows_along front route_rows)) None ≡ Some place
        → option_map (λ (row : Key). row.value) (seek 0 route_rows (front ++ b ∷ rest)) ≡ Some place
    by true e leads =
        ap (option_map (λ (row : Key). row.value)) (walk front (b ∷ rest) route_rows e)
        ∙ lone_leads (rows_along front route_rows) place b rest byte leads
    by false e leads = absurd (none_there place leads)

-- what a front leads to: alone, where its paths name nothing, and else by whatever follows
abbrev led_to : Shape → List ℕ → Option Endpoint
led_to OfOffice front = endpoint_of front
led_to shape front = behind front

-- what is served is what its front leads to: no front stands at the beginning of another
abbrev Leads : Endpoint → Type 0
Leads place =
    option_and_then (led_to (shape_of place)) (front_of place)
    ≡ option_map (λ (front : List ℕ). place) (front_of place)

text_leads : (name : ReportName) → Leads (endpoint.Report name shown_as.Text)
unfolding matchit_on_literals route_rows endpoint_of row_of
text_leads report.Statement = refl
text_leads name = refl

table_leads : (name : ReportName) → Leads (endpoint.Report name shown_as.Table)
unfolding matchit_on_literals route_rows endpoint_of row_of
table_leads report.Statement = refl
table_leads name = refl

office_leads : Leads endpoint.Office
unfolding matchit_on_literals route_rows endpoint_of row_of
office_leads = refl

what_if_leads : (form : StatementForm) → Leads (endpoint.WhatIf form)
unfolding matchit_on_literals route_rows endpoint_of row_of
what_if_leads shown_as.Text = refl
what_if_leads shown_as.Table = refl

import_leads : (layout : Layout) → Leads (endpoint.Import layout)
unfolding matchit_on_literals route_rows endpoint_of row_of
import_leads Rdw = refl
import_leads Bdw = refl

place_leads : (place : Endpoint) → Leads place
place_leads (endpoint.Report name shown_as.Text) = text_leads name
place_leads (endpoint.Report name shown_as.Table) = table_leads name
place_leads endpoint.Office = office_leads
place_leads (endpoint.WhatIf form) = what_if_leads form
place_leads (endpoint.Import layout) = import_leads layout

-- ---- a path

-- a text begins with a byte
abbrev Begins : List ℕ → Type 0
Begins text = (b : ℕ) × (rest : List ℕ) × (b < 256) × (text ≡ b ∷ rest)

digits_begin : (digits rest : List ℕ) → 0 < length digits → list_all is_ascii_digit digits ≡ true
    → Begins (digits ++ rest)
digits_begin [] rest some are = absurd (omega arith)
digits_begin (d ∷ digits) rest some are =
    let range : IsInRange 48 57 d =
    digit_at (d ∷ digits) 0 (are_digits.to (d ∷ digits) are) (omega arith) in
    (d, digits ++ rest, omega arith, refl)

number_begins : (n : ℕ) (rest : List ℕ) → IsPathPeriod n → Begins (decimal n ++ rest)
number_begins n rest named =
    let shown = decimal_digits n named in digits_begin (decimal n) rest shown.0 shown.1

begun_as : (text same : List ℕ) → text ≡ same → Begins same → Begins text
begun_as text same is it = (it.0, it.1, it.2, is ∙ it.3)

-- what goes on behind a front is found
begun_found : (front rest : List ℕ) (place : Endpoint) → behind front ≡ Some place → Begins rest
    → endpoint_of (front ++ rest) ≡ Some place
begun_found front rest place leads it =
    ap (λ (rest : List ℕ). endpoint_of (front ++ rest)) it.3
    ∙ behind_found front it.0 it.1 place it.2 leads

found_by : (shape : Shape) (front rest : List ℕ) (thing : About) (place : Endpoint)
    → led_to shape front ≡ Some place → Names shape rest thing
    → endpoint_of (front ++ rest) ≡ Some place
found_by OfCentre front rest (about.OfCentre n centre) place leads names =
    begun_found front rest place leads
    (begun_as rest (decimal n ++ after_number centre) (names.0 ∙ text_begins n centre)
    (number_begins n (after_number centre) names.1))
found_by OfPeriod front rest (about.OfPeriod n) place leads names =
    begun_found front rest place leads
    (begun_as rest (decimal n ++ []) (names.0 ∙ sym (append-nil (decimal n)))
    (number_begins n [] names.1))
found_by OfOffice front rest about.OfOffice place leads names =
    ap (λ (rest : List ℕ). endpoint_of (front ++ rest)) names ∙ ap endpoint_of (append-nil front)
    ∙ leads
found_by OfDay front rest (about.OfDay day) place leads names =
    begun_found front rest place leads
    (begun_as rest (day_text_of day) names.0 (day_text_begins day names.1))
found_by OfRecord front rest (about.OfRecord name) place leads names =
    begun_found front rest place leads (name_begins rest name names)
found_by shape front rest thing place leads names = absurd names

-- a path of an endpoint, and of what it names there, is that endpoint's
pub place_found : (place : Endpoint) (front rest : List ℕ) (thing : About)
    → front_of place ≡ Some front → Names (shape_of place) rest thing
    → endpoint_of (front ++ rest) ≡ Some place
place_found place front rest thing served names =
    let leads : led_to (shape_of place) front ≡ Some place =
    subst
    (λ (found : Option (List ℕ)). option_and_then (led_to (shape_of place)) found
    ≡ option_map (λ (front : List ℕ). place) found)
    served (place_leads place) in
    found_by (shape_of place) front rest thing place leads names
