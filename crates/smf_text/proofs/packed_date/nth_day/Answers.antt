use Rattle.std.proofs.Common.{arith}
use Rattle.std.proofs.lemmas.Int.{ints}
use Rattle.smf_text.proofs.YearLemmas.{nth_day_is_day}
use Rattle.smf_text.proofs.packed_date.nth_day.Goals as goal

pub returns-clause-day : goal.returns-clause-day
returns-clause-day c =
    let within =
    nth_day_is_day c.args.year c.args.n
    c.requires.early c.requires.late c.requires.first c.requires.last in
    omega (arith, ints, within, c.new_year.ensures.exact)
