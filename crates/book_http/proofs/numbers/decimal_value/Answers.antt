use Rattle.std.proofs.Common.{rules, arith, ◌≡◌, ◌<◌, get_or, take_all, true, refl}
use Rattle.std.proofs.lemmas.List.Folds.{list_all_more}
use Rattle.book_http.proofs.NumberLemmas.{digit_behind_zero, few_digits, next_digit}
use Rattle.book_http.proofs.Words.{digits_more, digits_value_more, digit_value, is_ascii_digit}
use Rattle.book_http.proofs.numbers.decimal_value.Goals as goal

pub overflow_mul-decimal_value : goal.overflow_mul-decimal_value
overflow_mul-decimal_value c =
    let so_far = c.loop-digit.invariant in
    let at = c.loop-digit.digit-index in
    let is_digit : digit_value (get_or c.args.text.now at 0) < 10 =
    search (rules, c.if-not-is_ascii_digit.ensures.bound) in
    let fits = next_digit c.args.text.now at c.loop-digit-test.true (omega arith) so_far.digits
    is_digit in
    rw so_far.value (omega arith)

pub overflow_add-decimal_value : goal.overflow_add-decimal_value
overflow_add-decimal_value c =
    let so_far = c.loop-digit.invariant in
    let at = c.loop-digit.digit-index in
    let is_digit : digit_value (get_or c.args.text.now at 0) < 10 =
    search (rules, c.if-not-is_ascii_digit.ensures.bound) in
    let worth = digit_behind_zero (get_or c.args.text.now at 0) is_digit in
    let fits = next_digit c.args.text.now at c.loop-digit-test.true (omega arith) so_far.digits
    is_digit in
    omega (arith, fits, worth, c.from.ensures, so_far.value)

pub loop-digit-preserved : goal.loop-digit-preserved
loop-digit-preserved c =
    let so_far = c.loop-digit.invariant in
    let text = c.args.text.now in
    let at = c.loop-digit.digit-index in
    let within = c.loop-digit-test.true in
    let is_digit : digit_value (get_or text at 0) < 10 =
    search (rules, c.if-not-is_ascii_digit.ensures.bound) in
    let worth = digit_behind_zero (get_or text at 0) is_digit in
    let more = digits_value_more 10 text at within in
    let passes : is_ascii_digit (get_or text at 0) ≡ true = search rules in
    record {
      passed = rw (list_all_more is_ascii_digit text at 0 within, so_far.passed, passes) refl;
      digits = digits_more 10 text at within so_far.digits is_digit;
      value = omega (arith, more, worth, c.from.ensures, so_far.value);
    }

pub returns-clause-bound : goal.returns-clause-bound
returns-clause-bound c =
    let so_far = c.loop-digit.invariant in
    let all = take_all c.loop-digit.digit-index c.args.text.now c.loop-digit-test.false in
    rw so_far.value (few_digits c.args.most _ so_far.digits (rw all (omega arith)))
