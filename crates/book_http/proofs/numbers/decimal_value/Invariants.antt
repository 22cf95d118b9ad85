use Rattle.std.proofs.Common.{◌≡◌, take, true}
use Rattle.book_model.proofs.Std.{list_all}
use Rattle.book_http.proofs.Words.{is_ascii_digit, AllDigits, digits_value}
use Rattle.book_http.proofs.numbers.decimal_value.Given as goal

abbrev pub invariant-loop-digit : goal.invariant-loop-digit
invariant-loop-digit l = record {
  passed : list_all is_ascii_digit (take l.digit-index l.text) ≡ true;
  digits : AllDigits 10 (take l.digit-index l.text);
  value : l.decimal_value ≡ digits_value 10 (take l.digit-index l.text);
}
