-- A text that names a period is the number's own text, and no other.
use Rattle.std.proofs.Common.{◌≡◌, ◌≢◌, ℕ, ◌<◌, ◌≤◌, ◌^◌, Bool, true, false, ◌&&◌, arith, rules}
use Rattle.std.proofs.Common.{◌+◌, List, [], ◌∷◌, ◌++◌, length, map, take, drop, get_or, codes}
use Rattle.std.proofs.Common.{Option, Some, None, IfSome, refl, sym, ap, ◌∙◌, take-append-drop, Bor}
use Rattle.std.proofs.Common.{true≢false, MatchOption, decimal, nat_eq, nat_lt, nat_le, cond}
use Rattle.std.proofs.Common.{option_map}
use Rattle.std.proofs.Math.Seq.{drop-append_seam}
use Rattle.std.proofs.lemmas.Fmt.{decimal-digits_of, decimal-digits_value, decimal_digit}
use Rattle.std.proofs.lemmas.Fmt.{decimal_is_IsNumeral, digits_decimal, length-decimal-le}
use Rattle.std.proofs.lemmas.Int.Digits.{first_digits_of}
use Rattle.std.proofs.lemmas.Slice.Eq.{bytes_eq-Decides}
use Rattle.std.proofs.lemmas.Str.Parse.{IsNumeralModel}
use Rattle.std.specs.List.{starts_with}
use Rattle.std.specs.Int.Digits.{digits_of}
use Rattle.std.specs.Str.Parse.{IsNumeral}
use Rattle.std.specs.Str.Pattern.{FindsTextPrefix, StripsPrefix}
use Rattle.book_model.proofs.Std.{nat_tests, list_all}
use Rattle.book_http.specs.Numbers.{is_number, decimal_value}
use Rattle.book_http.proofs.Words.{take-append_seam, digit_at, digits_value_short}
use Rattle.book_http.proofs.Words.{numerals_by_value, is_ascii_digit, IsInRange, digits_value}
use Rattle.book_http.proofs.Words.{IsPathPeriod}
use Rattle.book_http.specs.Routes.{path_rest, period}
use Rattle.book_http.proofs.SlashLemmas.{HasNoSlash}

-- the test of digits is std's
pub are_digits : IsNumeralModel (λ text. list_all is_ascii_digit text ≡ true) (digits_value 10)
are_digits = numerals_by_value _ (search rules)

-- of three tests that pass, each passes
pub three_pass : (a b c : Bool) → ((a && b) && c) ≡ true → (a ≡ true) × (b ≡ true) × (c ≡ true)
three_pass true true true e = (refl, refl, refl)
three_pass true true false e = absurd (true≢false (sym e))
three_pass true false c e = absurd (true≢false (sym e))
three_pass false b c e = absurd (true≢false (sym e))

-- digits whose first is no 0 are the text of their number
number_text : (text : List ℕ) → list_all is_ascii_digit text ≡ true
    → 0 < length text → length text ≤ 4
    → starts_with nat_eq text (codes "0") ≡ false
    → (text ≡ decimal (digits_value 10 text)) × IsPathPeriod (digits_value 10 text)
number_text [] digits some few first = absurd (omega arith)
number_text (digit ∷ rest) digits some few first =
    let text = digit ∷ rest in
    let small : digits_value 10 text < 10 ^ 4 = digits_value_short are_digits text 4 digits few in
    let no_zero : digit ≢ 48 = λ e. true≢false (sym (zero_first e) ∙ first) in
    let same : decimal (digits_value 10 text) ≡ text =
    decimal-digits_value are_digits text digits some (λ e. absurd (no_zero e)) (omega arith) in
    let some_value : digits_value 10 text ≢ 0 =
    λ e. no_zero (first_of (ap decimal (sym e) ∙ same)) in
    (sym same, (omega arith, omega arith))
  where
    zero_first : digit ≡ 48 → starts_with nat_eq (digit ∷ rest) (codes "0") ≡ true
    zero_first e = rw e refl

    first_of : decimal 0 ≡ digit ∷ rest → digit ≡ 48
    first_of e = ap (λ l. get_or l 0 0) (sym e ∙ decimal_digit 0 (omega arith))

-- a text that names a period is that number's
pub period_named : (text : List ℕ)
    → IfSome (period text) (λ n. (text ≡ decimal n) × IsPathPeriod n)
unfolding period decimal_value
period_named text = by (starts_with nat_eq text (codes "0")) refl
  where
    behind : (passes : Bool) → is_number 4 text ≡ passes
        → starts_with nat_eq text (codes "0") ≡ false
        → IfSome (cond passes (Some (digits_value 10 text)) None)
        (λ n. (text ≡ decimal n) × IsPathPeriod n)
    behind true e first =
        let passed =
        three_pass (nat_lt 0 (length text)) (nat_le (length text) 4)
        (list_all is_ascii_digit text) e in
        number_text text passed.2 (grind (arith, nat_tests, passed.0))
        (grind (arith, nat_tests, passed.1)) first
    behind false e first = tt

    by : (starts : Bool) → starts_with nat_eq text (codes "0") ≡ starts
        → IfSome (cond starts None (decimal_value 4 text)) (λ n. (text ≡ decimal n) × IsPathPeriod n)
    by true e = tt
    by false e = behind (is_number 4 text) refl e

-- a path that has something after a prefix is that prefix, and then it
pub rest_named : (front path : List ℕ)
    → IfSome (path_rest front path) (λ rest. path ≡ front ++ rest)
unfolding path_rest
rest_named front path = by (starts_with nat_eq path front) refl
  where
    by : (starts : Bool) → starts_with nat_eq path front ≡ starts
        → IfSome (cond starts (Some (drop (length front) path)) None) (λ rest. path ≡ front ++ rest)
    by true e =
        let begins : front ≡ take (length front) path =
        (bytes_eq-Decides front (take (length front) path)).0 e in
        sym (take-append-drop (length front) path)
        ∙ ap (λ l. l ++ drop (length front) path) (sym begins)
    by false e = tt

-- digits, the first of which is above 0, do not begin with 0
first_shown : (digits : List ℕ) → 0 < get_or digits 0 0
    → starts_with nat_eq (map (λ d. 48 + d) digits) (codes "0") ≡ false
first_shown [] some = absurd (omega arith)
first_shown (d ∷ digits) some =
    let other : nat_eq 48 (48 + d) ≡ false = grind (arith, nat_tests) in rw other refl

-- the text of a period's number names it
pub period_found : (n : ℕ) → IsPathPeriod n → period (decimal n) ≡ Some n
unfolding period decimal_value
period_found n named =
    let fits : n < 2 ^ 64 = omega (arith, named.0, named.1) in
    let shown : IsNumeral 10 (decimal n) × (digits_value 10 (decimal n) ≡ n) =
    decimal_is_IsNumeral n fits in
    let above : 0 < n = omega (arith, named.0) in
    let digits : list_all is_ascii_digit (decimal n) ≡ true = digits_decimal are_digits n fits in
    let small : n < 10 ^ 4 = omega (arith, named.1) in
    let few : length (decimal n) ≤ 4 = length-decimal-le 4 n (omega arith) small fits in
    let some : 0 < length (decimal n) = shown.0.0 in
    let first : starts_with nat_eq (decimal n) (codes "0") ≡ false =
    rw (decimal-digits_of n above fits)
    (first_shown (digits_of 10 n) (first_digits_of 10 n (omega arith) above)) in
    let low : nat_lt 0 (length (decimal n)) ≡ true = grind (arith, nat_tests) in
    let high : nat_le (length (decimal n)) 4 ≡ true = grind (arith, nat_tests) in
    rw (first, low, high, digits, shown.1) refl

-- what comes after a prefix is found there
pub rest_found : (front rest : List ℕ) → path_rest front (front ++ rest) ≡ Some rest
unfolding path_rest
rest_found front rest =
    let starts : starts_with nat_eq (front ++ rest) front ≡ true =
    (bytes_eq-Decides front (take (length front) (front ++ rest))).1
    (sym (take-append_seam front rest)) in
    rw (starts, drop-append_seam front rest) refl

-- what `strip_prefix` leaves
pub stripped : (front path : List ℕ) (left : Option (Bor (List ℕ)))
    → MatchOption left (FindsTextPrefix front path None)
    (λ rest. StripsPrefix (FindsTextPrefix front) path rest.now)
    → option_map (λ rest. rest.now) left ≡ path_rest front path
unfolding path_rest
stripped front path None strips = by (starts_with nat_eq path front) refl
  where
    by : (starts : Bool) → starts_with nat_eq path front ≡ starts
        → None ≡ cond starts (Some (drop (length front) path)) None
    by true e =
        let begins : front ≡ take (length front) path =
        (bytes_eq-Decides front (take (length front) path)).0 e in
        absurd (strips (drop (length front) path)
        (sym (take-append-drop (length front) path)
        ∙ ap (λ l. l ++ drop (length front) path) (sym begins)))
    by false e = refl
stripped front path (Some rest) strips =
    let found = strips.1 in
    let whole : path ≡ front ++ rest.now =
    found.1 ∙ ap (λ l. front ++ l) (sym strips.2) in
    sym (ap (path_rest front) whole ∙ rest_found front rest.now)

-- a number's text is digits, one or more
pub decimal_digits : (n : ℕ) → IsPathPeriod n
    → (0 < length (decimal n)) × (list_all is_ascii_digit (decimal n) ≡ true)
decimal_digits n named =
    let fits : n < 2 ^ 64 = omega (arith, named.0, named.1) in
    ((decimal_is_IsNumeral n fits).0.0, digits_decimal are_digits n fits)

-- which are no slashes
pub decimal_has_no_slash : (n : ℕ) → IsPathPeriod n → HasNoSlash (decimal n)
decimal_has_no_slash n named i within =
    let range : IsInRange 48 57 (get_or (decimal n) i 0) =
    digit_at (decimal n) i (are_digits.to (decimal n) (decimal_digits n named).1) within in
    λ slash. absurd (omega arith)
