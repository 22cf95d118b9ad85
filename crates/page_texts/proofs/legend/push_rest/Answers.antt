use Rattle.std.proofs.Common.{◌≡◌, append_assoc, arith, false, nat_le}
use Rattle.std.proofs.lemmas.Bool.Decides.{nat_tests}
use Rattle.page_texts.specs.Bars.{most_colours}
use Rattle.page_texts.specs.OfficePage.{legend_rest}
use Rattle.page_texts.proofs.legend.push_rest.Goals as goal

pub returns : goal.returns
unfolding legend_rest
returns c =
    let past : nat_le c.args.count most_colours ≡ false = grind (arith, nat_tests) in
    rw (past, c.push_str-2.ensures, c.push_number.ensures, c.push_str.ensures) (simp append_assoc)
