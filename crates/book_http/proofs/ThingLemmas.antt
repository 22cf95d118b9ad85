-- What a text names in a path is what has that text there, and nothing else.
use Rattle.std.proofs.Common.{◌≡◌, ◌∙◌, ℕ, Bool, true, false, cond, List, [], ◌∷◌, length, refl, ap}
use Rattle.std.proofs.Common.{arith, Option, Some, None, IfSome, ◌==◌, decimal, option_map}
use Rattle.book_model.proofs.Std.{nat_tests}
use Rattle.smf_text.proofs.DayOfTextLemmas.{day_found, day_named}
use Rattle.book_model.specs.Words.{IsDay, day_of_text_of, day_text_of}
use Rattle.book_reports.specs.RecordNames.{name_in}
use Rattle.book_http.proofs.Words.{About, Shape, OfCentre, OfDay, OfOffice, OfPeriod, OfRecord}
use Rattle.book_http.proofs.Words.{IsPathPeriod, Names, period}
use Rattle.book_http.specs.Routes.{office_in, period_in, thing_in}
use Rattle.book_http.proofs.NamedPeriodLemmas.{IsNamedBy, text_named, text_names}
use Rattle.book_http.proofs.PeriodLemmas.{period_found, period_named}
use Rattle.report_rows.specs.declared.about.About.TheVariants as about

-- ---- what is found has its text there

mapped : {A B : Type 0} (f : A → B) (found : Option A) (F : A → Type 0) (G : B → Type 0)
    → IfSome found F → ((it : A) → F it → G (f it)) → IfSome (option_map f found) G
mapped f None F G holds so = tt
mapped f (Some it) F G holds so = so it holds

-- what is read is what is read
itself : {A : Type 0} (found : Option A) → IfSome found (λ it. found ≡ Some it)
itself None = tt
itself (Some it) = refl

nothing_is : (text : List ℕ) → (length text == 0) ≡ true → text ≡ []
nothing_is [] e = refl
nothing_is (b ∷ text) e =
    let none : length (b ∷ text) ≡ 0 = grind (arith, nat_tests) in absurd (omega arith)

office_named : (text : List ℕ) → IfSome (office_in text) (Names OfOffice text)
office_named text = by (length text == 0) refl
  where
    by : (nothing : Bool) → (length text == 0) ≡ nothing
        → IfSome (cond nothing (Some about.OfOffice) None) (Names OfOffice text)
    by true e = nothing_is text e
    by false e = tt

pub thing_named : (shape : Shape) (text : List ℕ) → IfSome (thing_in shape text) (Names shape text)
unfolding thing_in
thing_named OfCentre text =
    mapped (λ (named : ℕ × Option (List ℕ)). about.OfCentre named.0 named.1) (period_in text)
    (IsNamedBy text) (Names OfCentre text) (text_names text) (λ named it. it)
thing_named OfPeriod text =
    mapped about.OfPeriod (period text) (λ n. (text ≡ decimal n) × IsPathPeriod n)
    (Names OfPeriod text) (period_named text) (λ n it. it)
thing_named OfOffice text = office_named text
thing_named OfDay text =
    mapped about.OfDay (day_of_text_of text) (λ day. (text ≡ day_text_of day) × IsDay day)
    (Names OfDay text) (day_named text) (λ day it. it)
thing_named OfRecord text =
    mapped about.OfRecord (name_in text) (λ name. name_in text ≡ Some name) (Names OfRecord text)
    (itself (name_in text)) (λ name it. it)

-- ---- what has its text there is found

pub thing_found : (shape : Shape) (text : List ℕ) (thing : About) → Names shape text thing
    → thing_in shape text ≡ Some thing
unfolding thing_in
thing_found OfCentre text (about.OfCentre n centre) names =
    ap (thing_in OfCentre) names.0
    ∙ ap (option_map (λ (named : ℕ × Option (List ℕ)). about.OfCentre named.0 named.1))
    (text_named n centre names.1 names.2)
thing_found OfPeriod text (about.OfPeriod n) names =
    ap (thing_in OfPeriod) names.0 ∙ ap (option_map about.OfPeriod) (period_found n names.1)
thing_found OfOffice text about.OfOffice names = ap office_in names
thing_found OfDay text (about.OfDay day) names =
    ap (thing_in OfDay) names.0 ∙ ap (option_map about.OfDay) (day_found day names.1)
thing_found OfRecord text (about.OfRecord name) names = ap (option_map about.OfRecord) names
thing_found shape text thing names = absurd names
