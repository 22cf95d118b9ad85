-- Numbers of few digits.
use Rattle.std.proofs.Common.{◌≡◌, ℕ, ◌+◌, ◌*◌, ◌-◌, ◌<◌, ◌≤◌, ◌^◌, arith, List, length, take}
use Rattle.std.proofs.Common.{get_or, length-take}
use Rattle.std.proofs.lemmas.Str.{digit_value_digit}
use Rattle.std.proofs.lemmas.Str.Parse.{digit_from_value, tells_digits}
use Rattle.book_http.proofs.Words.{digits_more, digits_value_more, digit_value, AllDigits}
use Rattle.book_http.proofs.Words.{digits_value, digits_value_short, numerals_by_value}

-- that many digits write a number below that power of ten
pub few_digits : (most : ℕ) (text : List ℕ) → AllDigits 10 text → length text ≤ most
    → digits_value 10 text < 10 ^ most
few_digits most text digits few =
    digits_value_short (numerals_by_value (AllDigits 10) tells_digits) text most digits few

-- what a digit is worth
pub digit_behind_zero : (c : ℕ) → digit_value c < 10 → c - 48 ≡ digit_value c
digit_behind_zero c is_digit =
    let same = digit_value_digit c (digit_from_value c is_digit) in omega arith

-- with one more digit, a number of at most 19 fits 64 bits
pub next_digit : (text : List ℕ) (at : ℕ) → at < length text → length text ≤ 19
    → AllDigits 10 (take at text) → digit_value (get_or text at 0) < 10
    → digits_value 10 (take at text) * 10 + digit_value (get_or text at 0) < 2 ^ 64
next_digit text at within few digits is_digit =
    let more = digits_more 10 text at within digits is_digit in
    let short : length (take (at + 1) text) ≤ 19 = rw length-take (omega arith) in
    let least = few_digits 19 (take (at + 1) text) more short in
    rw (← digits_value_more 10 text at within) (omega arith)
