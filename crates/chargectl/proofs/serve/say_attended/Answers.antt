use Rattle.std.proofs.Common.{◌∙◌, List, reverse, subst}
use Rattle.std.proofs.lemmas.List.{take_all}
use Rattle.book_http.specs.declared.served.Served.{Served}
use Rattle.without_books.specs.ServedLines.{Gains, seen_of}
use Rattle.chargectl.specs.ClientRequests.{all_behind, later_of}
use Rattle.chargectl.specs.Serving.{lines_of}
use Rattle.chargectl.proofs.ServingLemmas.{line_more, lines_behind, no_lines}
use Rattle.chargectl.proofs.serve.say_attended.Goals as goal

pub loop-what-init : goal.loop-what-init
loop-what-init g c = no_lines (seen_of g.O.Write.contents c.say_served.new.lines)

pub loop-what-preserved : goal.loop-what-preserved
loop-what-preserved g c =
    let seen = seen_of g.O.Write.contents in
    line_more (seen c.say_served.new.lines) (seen c.loop-what.lines)
    (seen c.say_served-in-loop-what.new.lines) c.args.attended.now.served c.told_behind.result
    c.as_slice-later.result.now c.loop-what.what-index _ c.loop-what-test.true c.loop-what.invariant
    c.told_behind.ensures c.say_served-in-loop-what.ensures

pub returns : goal.returns
returns g c =
    let seen = seen_of g.O.Write.contents in
    let attended = c.args.attended.now in
    let items = c.as_slice-later.result.now in
    let whole = take_all c.loop-what.what-index items c.loop-what-test.false in
    lines_behind (seen c.args.lines.now) (seen c.say_served.new.lines) (seen c.loop-what.lines)
    attended.served (later_of attended) c.say_served.ensures
    (subst (λ (items : List Served). Gains (seen c.say_served.new.lines) (seen c.loop-what.lines)
    (lines_of (all_behind attended.served (reverse items)))) (whole ∙ c.as_slice-later.ensures.value)
    c.loop-what.invariant)
