use Rattle.std.proofs.Common.{ap, ap₂, sym, ◌∙◌}
use Rattle.book_http.specs.Routes.{period, period_of_all, period_of_centre}
use Rattle.book_http.proofs.SlashLemmas.{named_cut, named_whole, split_as}
use Rattle.book_http.proofs.route.period_in.Goals as goal

pub returns-in-None : goal.returns-in-None
returns-in-None c =
    let text = c.args.text.now in
    let split = rw c.in-None.is at (split_as text c.split_once.result c.split_once.ensures.cases) in
    c.period_of_all.ensures
    ∙ ap period_of_all (c.period.ensures ∙ ap period c.as_bytes.ensures.value)
    ∙ sym (named_whole text split)

pub returns-in-Some : goal.returns-in-Some
returns-in-Some c =
    let text = c.args.text.now in
    let split = rw c.in-Some.is at (split_as text c.split_once.result c.split_once.ensures.cases) in
    c.period_of_centre.ensures
    ∙ ap₂ period_of_centre
    (c.period-in-Some.ensures ∙ ap period c.as_bytes-in-Some.ensures.value) c.centre_named.ensures
    ∙ sym (named_cut text c.in-Some.number.now c.in-Some.name.now split)
