-- A text `YYYY-MM-DD` has one date.
use Rattle.std.proofs.Common.{◌≡◌, ◌≢◌, ℕ, ◌+◌, ◌*◌, ◌/◌, ◌%◌, ◌<◌, Option, Result, Ok, Err, IfOk, IfSome, List, [], ◌∷◌, ◌++◌, length, get_or, refl, sym, ap, ◌∙◌, arith, ℤ, pos, negsuc, ◌≤ℤ◌}
use Rattle.std.specs.Result.{result_ok}
use Rattle.jiff_core.specs.declared.civil.date.Date.{Date}
use Rattle.jiff_core.specs.Date.{epoch_day}
use Rattle.jiff_core.proofs.SignedLemmas.{signed_arith}
use Rattle.jiff_core.proofs.DateLemmas.{epoch_day_same}
use Rattle.jiff_fmt.specs.Text.{date_text, pad2}
use Rattle.smf_text.specs.Day.{IsDay, date_of, day_text_of}
use Rattle.smf_text.proofs.DateLemmas.{jiff_date_of, epoch_day-jiff_date_of, date_text-jiff_date_of}

-- two digits for the century, the year in it, the month and the day
abbrev pub spelled : ℕ → ℕ → ℕ → ℕ → List ℕ
spelled century year month day =
    pad2 century ++ pad2 year ++ 45 ∷ [] ++ pad2 month ++ 45 ∷ [] ++ pad2 day

-- a text of this form is what its digits spell
pub text-spelled : (text : List ℕ) (century year month day : ℕ) → length text ≡ 10
    → get_or text 4 0 ≡ 45 → get_or text 7 0 ≡ 45
    → pad2 century ≡ get_or text 0 0 ∷ get_or text 1 0 ∷ []
    → pad2 year ≡ get_or text 2 0 ∷ get_or text 3 0 ∷ []
    → pad2 month ≡ get_or text 5 0 ∷ get_or text 6 0 ∷ []
    → pad2 day ≡ get_or text 8 0 ∷ get_or text 9 0 ∷ [] → text ≡ spelled century year month day
text-spelled (c1 ∷ c2 ∷ y1 ∷ y2 ∷ h1 ∷ m1 ∷ m2 ∷ h2 ∷ d1 ∷ d2 ∷ [])
    century year month day long first second c y m d = cc
text-spelled _ century year month day long first second c y m d = absurd (omega arith)

-- two digits spell one number
pad2_injective : (a b : ℕ) → pad2 a ≡ pad2 b → a ≡ b
pad2_injective a b e =
    let tens : 48 + a / 10 ≡ 48 + b / 10 = cc in
    let ones : 48 + a % 10 ≡ 48 + b % 10 = cc in
    omega arith

-- the text of a date is what its parts spell
date_text-spelled : (date : Date) (year : ℕ) → date.year ≡ pos year
    → date_text date ≡ spelled (year / 100) (year % 100) date.month date.day
date_text-spelled date year e = rw e refl

-- a date of these parts has the text that they spell
pub date_text-parts : (date : Date) (text : List ℕ) (century year month day : ℕ) → year < 100
    → text ≡ spelled century year month day → date.year ≡ pos (100 * century + year)
    → date.month ≡ month → date.day ≡ day → date_text date ≡ text
date_text-parts date text century year month day small e y m d =
    let c_is : (100 * century + year) / 100 ≡ century = omega arith in
    let y_is : (100 * century + year) % 100 ≡ year = omega arith in
    date_text-spelled date (100 * century + year) y ∙ rw (c_is, y_is, m, d, e) refl

-- the year, the month and the day of a date are so
pub record HasParts (date : Date) (year month day : ℕ) : Type 0 where
  pub year_is : date.year ≡ pos year
  pub month_is : date.month ≡ month
  pub day_is : date.day ≡ day

-- what a date's text spells are its parts
pub spelled_parts : (date : Date) (text : List ℕ) (century year month day : ℕ)
    → text ≡ spelled century year month day → pos 0 ≤ℤ date.year → date_text date ≡ text
    → HasParts date (100 * century + year) month day
spelled_parts date text century year month day e since same = go date.year refl since where
  go : (z : ℤ) → date.year ≡ z → pos 0 ≤ℤ z → HasParts date (100 * century + year) month day
  go (pos n) is since =
      let both : spelled (n / 100) (n % 100) date.month date.day ≡ spelled century year month day =
      sym (date_text-spelled date n is) ∙ same ∙ e in
      let c_is : n / 100 ≡ century = pad2_injective _ _ (cc) in
      let y_is : n % 100 ≡ year = pad2_injective _ _ (cc) in
      let n_is : n ≡ 100 * century + year = omega arith in
      record {
        year_is = is ∙ ap pos n_is;
        month_is = pad2_injective _ _ (cc);
        day_is = pad2_injective _ _ (cc);
      }
  go (negsuc n) is since = absurd (omega (arith, signed_arith))

-- a date with the text of a day is that day's
pub epoch_day-from_text : (date : Date) (day : ℤ) → IsDay day → pos 0 ≤ℤ date.year
    → date_text date ≡ day_text_of day → epoch_day date ≡ day
epoch_day-from_text date day h since same =
    let found = jiff_date_of day h in
    let year = (date_of day).year in
    let text_is = sym (date_text-jiff_date_of day h) ∙ date_text-spelled found year refl in
    let parts =
    spelled_parts date (day_text_of day) (year / 100) (year % 100) found.month found.day
    text_is since same in
    let year_is : 100 * (year / 100) + year % 100 ≡ year = omega arith in
    epoch_day_same date found (parts.year_is ∙ ap pos year_is) parts.month_is parts.day_is
    ∙ epoch_day-jiff_date_of day h

-- a text that no date has is no day's
pub no_day : (text : List ℕ) → ((date : Date) → pos 0 ≤ℤ date.year → date_text date ≢ text)
    → (day : ℤ) → IsDay day → text ≢ day_text_of day
no_day text none day h e =
    none (jiff_date_of day h) (omega (arith, signed_arith)) (date_text-jiff_date_of day h ∙ sym e)

-- what holds of the value of a result holds of it as an option
pub IfSome-result_ok : {T E : Type 0} (r : Result T E) (o : Option T) (P Q : T → Type 0)
    → o ≡ result_ok r → ((x : T) → P x → Q x) → IfOk r P → IfSome o Q
IfSome-result_ok (Ok x) o P Q e more h = rw e (more x h)
IfSome-result_ok (Err _) o P Q e more h = rw e tt
