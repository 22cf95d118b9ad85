-- The digits of a day's text spell the day.
use Rattle.std.proofs.Common.{◌≡◌, ℕ, ◌+◌, ◌-◌, ◌*◌, ◌/◌, ◌%◌, ◌<◌, ◌∷◌, ◌&&◌, ◌↔◌, if◌then◌else◌, Bool, true, false, List, refl, sym, ap, ◌∙◌, arith, inl, inr, Option, None, Some, IfSome, ℤ, ◌≤ℤ◌}
use Rattle.std.proofs.lemmas.Bool.{and_parts, cases_Bool}
use Rattle.std.proofs.lemmas.Slice.Eq.{bytes_eq-Decides}
use Rattle.std.specs.Int.Signed.{le_z}
use Rattle.std.specs.Str.{bytes_eq}
use Rattle.jiff_core.proofs.SignedLemmas.{signed_arith}
use Rattle.smf_text.specs.Day.{CalendarDate, IsDay, first_day, last_day, is_day, day_of_date, date_of, date_text, day_text_of, day_spelled_by, day_of_text_of}
use Rattle.smf_text.proofs.DateLemmas.{date_of_found}

-- two digits spell their number
two_digits_spell : (n : ℕ) → 10 * (48 + n / 10 - 48) + (48 + n % 10 - 48) ≡ n
two_digits_spell n = omega arith

-- the text of a date spells its day
date_text-spells : (date : CalendarDate)
    → day_spelled_by (date_text date) ≡ day_of_date date.year date.month date.day
unfolding day_spelled_by
date_text-spells date =
    let year_is : 100 * (date.year / 100) + date.year % 100 ≡ date.year = omega arith in
    let century = two_digits_spell (date.year / 100) in
    let of_century = two_digits_spell (date.year % 100) in
    let month = two_digits_spell date.month in
    let day = two_digits_spell date.day in
    rw (century, of_century, month, day, year_is) refl

-- the text of a day spells it
day_text_of-spells : (day : ℤ) → IsDay day → day_spelled_by (day_text_of day) ≡ day
unfolding day_text_of
day_text_of-spells day h = date_text-spells (date_of day) ∙ (date_of_found day h).day_is

-- a number that is not below another passes the test
le_z-passes : (a b : ℤ) → a ≤ℤ b → le_z a b ≡ true
le_z-passes a b h = go (le_z a b) refl where
  go : (test : Bool) → le_z a b ≡ test → test ≡ true
  go true is = refl
  go false is = absurd (omega (arith, signed_arith, is))

-- a day passes the test
is_day-passes : (day : ℤ) → IsDay day → is_day day ≡ true
is_day-passes day h = rw (le_z-passes _ _ h.0, le_z-passes _ _ h.1) refl

-- what passes the test is a day
is_day-holds : (day : ℤ) → is_day day ≡ true → IsDay day
is_day-holds day is =
    let parts = and_parts (le_z first_day day) (le_z day last_day) is in
    (omega (arith, signed_arith, parts.0), omega (arith, signed_arith, parts.1))

-- a day is the one that has this text
day_of_text_of-some : (text : List ℕ) (day : ℤ) → IsDay day → text ≡ day_text_of day
    → Some day ≡ day_of_text_of text
unfolding day_of_text_of
day_of_text_of-some text day h is =
    let spelled : day_spelled_by text ≡ day = ap day_spelled_by is ∙ day_text_of-spells day h in
    let same = (bytes_eq-Decides (day_text_of day) text).1 (sym is) in
    rw (spelled, is_day-passes day h, same) refl

-- an option that is the day with this text is the day that the text spells
pub the_day_found : (text : List ℕ) (r : Option ℤ)
    → ((day : ℤ) → IsDay day → ((r ≡ Some day) ↔ (text ≡ day_text_of day))) → IfSome r IsDay
    → r ≡ day_of_text_of text
unfolding day_of_text_of
the_day_found text r exact is_day_of = go r refl where
  go : (answer : Option ℤ) → r ≡ answer → r ≡ day_of_text_of text
  go (Some day) is =
      let within : IsDay day = rw is at is_day_of in
      is ∙ day_of_text_of-some text day within ((exact day within).0 is)
  go None is =
      let day = day_spelled_by text in
      let test = is_day day && bytes_eq (day_text_of day) text in
      is ∙ elim (cases_Bool test) [
        | inl passes ↦
            let parts = and_parts (is_day day) (bytes_eq (day_text_of day) text) passes in
            let same = (bytes_eq-Decides (day_text_of day) text).0 parts.1 in
            let found = (exact day (is_day-holds day parts.0)).1 (sym same) in
            cc
        | inr fails ↦ rw fails refl
      ]

-- a day is read from its text
pub day_found : (day : ℤ) → IsDay day → day_of_text_of (day_text_of day) ≡ Some day
day_found day h = sym (day_of_text_of-some (day_text_of day) day h refl)

-- and what is read from a text is the day that has this text
pub day_named : (text : List ℕ)
    → IfSome (day_of_text_of text) (λ day. (text ≡ day_text_of day) × IsDay day)
unfolding day_of_text_of
day_named text = go (is_day day && bytes_eq (day_text_of day) text) refl
  where
    day : ℤ
    day = day_spelled_by text

    go : (passes : Bool) → (is_day day && bytes_eq (day_text_of day) text) ≡ passes
        → IfSome (if passes then Some day else None) (λ day. (text ≡ day_text_of day) × IsDay day)
    go true is =
        let parts = and_parts (is_day day) (bytes_eq (day_text_of day) text) is in
        (sym ((bytes_eq-Decides (day_text_of day) text).0 parts.1), is_day-holds day parts.0)
    go false is = tt

-- the text of a day begins with a digit
pub day_text_begins : (day : ℤ) → IsDay day
    → (digit : ℕ) × (rest : List ℕ) × (digit < 256) × (day_text_of day ≡ digit ∷ rest)
unfolding day_text_of
day_text_begins day h =
    let year = (date_of_found day h).civil.0 in
    (48 + (date_of day).year / 100 / 10, _, omega (arith, signed_arith, year), refl)
