use Rattle.std.proofs.Common.{◌≡◌, ◌+◌, ◌∙◌, ◌++◌, [], ◌∷◌, List, ap, arith, length, reverse, subst}
use Rattle.std.proofs.lemmas.List.{take_all}
use Rattle.book_http.specs.declared.served.Served.{Served}
use Rattle.chargectl.specs.ClientRequests.{all_behind}
use Rattle.chargectl.specs.Serving.{due_from}
use Rattle.chargectl.proofs.ServingLemmas.{due_more, later_count, one_more, told_count}
use Rattle.chargectl.proofs.due.Due.after_all.Goals as goal

pub after-first-requires : goal.after-first-requires
after-first-requires c = let few = c.requires in omega (arith, few)

pub loop-what-init : goal.loop-what-init
loop-what-init c =
    let first = c.after-first.result in
    let one = c.after-first.ensures.one in
    let each : (first.left + first.beside) + (0 + 1) ≡ c.args.self.left + c.args.self.beside =
    omega (arith, one) in
    let left = c.after-first.ensures.left in
    record {
      due = c.after-first.ensures.due;
      each = each;
      left = omega (arith, left);
    }

-- one more of those behind it
pub loop-what-preserved : goal.loop-what-preserved
loop-what-preserved c =
    let items = c.as_slice-later.result.now in
    let it = c.loop-what.invariant in
    let each = it.each in
    let most = it.left in
    let one = c.after-due.ensures.one in
    let left = c.after-due.ensures.left in
    let more = one_more items c.loop-what.what-index c.loop-what-test.true in
    record {
      due = due_more c.args.self c.loop-what.due c.after-due.result c.args.attended.now.served
          c.told_behind.result items c.loop-what.what-index _ c.loop-what-test.true it.due
          c.told_behind.ensures c.after-due.ensures.due;
      each = omega (arith, each, more, one);
      left = omega (arith, left, most);
    }

-- fewer are behind it than are left
pub after-due-requires : goal.after-due-requires
after-due-requires c =
    let few = c.requires in
    let most = c.loop-what.invariant.left in
    let within = c.loop-what-test.true in
    let long = later_count c.args.attended.now in
    let same = ap length c.as_slice-later.ensures.value in
    omega (arith, few, most, within, long, same)

pub returns-clause-due : goal.returns-clause-due
returns-clause-due c =
    let items = c.as_slice-later.result.now in
    let first = c.args.attended.now.served in
    let whole = take_all c.loop-what.what-index items c.loop-what-test.false in
    subst (λ (items : List Served). c.loop-what.due ≡ due_from c.args.self
    (all_behind first (reverse items) ++ first ∷ [])) (whole ∙ c.as_slice-later.ensures.value)
    c.loop-what.invariant.due

pub returns-clause-each : goal.returns-clause-each
returns-clause-each c =
    let items = c.as_slice-later.result.now in
    let whole = take_all c.loop-what.what-index items c.loop-what-test.false in
    let each = c.loop-what.invariant.each in
    let long = ap length (whole ∙ c.as_slice-later.ensures.value) in
    let later = later_count c.args.attended.now in
    let told = told_count c.args.attended.now in
    omega (arith, each, long, later, told)
