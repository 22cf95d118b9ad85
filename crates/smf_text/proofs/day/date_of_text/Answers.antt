use Rattle.std.proofs.Common.{◌≡◌, get_or, length, arith}
use Rattle.std.proofs.lemmas.Int.{ints}
use Rattle.smf_text.proofs.DateTextLemmas.{text-spelled, date_text-parts, IfSome-result_ok}
use Rattle.smf_text.proofs.day.date_of_text.Goals as goal

pub returns-clause-value : goal.returns-clause-value
returns-clause-value c =
    let items = c.as_bytes.ensures.value in
    let long : length c.args.text.now ≡ 10 = omega arith in
    let first : get_or c.args.text.now 4 0 ≡ 45 = cc in
    let second : get_or c.args.text.now 7 0 ≡ 45 = cc in
    let text_is =
    text-spelled _ _ _ _ _ long first second
    (rw items at c.in_ok-century.ensures.value)
    (rw items at c.in_ok-year.ensures.value)
    (rw items at c.in_ok-month.ensures.value)
    (rw items at c.in_ok-day.ensures.value) in
    IfSome-result_ok c.new.result _ _ _ c.ok.ensures.value
    (λ date is. date_text-parts date _ _ _ _ _ c.in_ok-year.ensures.small text_is
    (omega (arith, ints, is.0, c.from.ensures, c.from-2.ensures))
    (omega (arith, ints, is.1, c.in_ok-month.ensures.small))
    (omega (arith, ints, is.2, c.in_ok-day.ensures.small)))
    c.new.ensures.value
