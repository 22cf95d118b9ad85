use Rattle.std.proofs.Common.{◌≡◌, ◌∙◌, ◌≤◌, ◌+◌, All, List, ap, length, map, subst, sym}
use Rattle.book_model.specs.declared.listed_ruling.ListedRuling.{ListedRuling}
use Rattle.book_model.specs.Words.{HasDays, ruling_shown}
use Rattle.plain_ledger.proofs.ReplacedList.{more_dated, more_few, more_listed}
use Rattle.plain_ledger.proofs.replaced.list_replaced.Goals as goal

pub loop-one-preserved : goal.loop-one-preserved
loop-one-preserved c =
    let before = c.loop-one.invariant in
    let all = c.loop-one.all.items in
    let found = c.in_ok-listed_as_replaced.field-0 in
    let pushed = c.in_ok-push_listed.ensures in
    record {
      listed = ap (map ruling_shown) pushed
          ∙ more_listed c.args.replaced.now c.loop-one.one-index c.one-item.result all found
          c.loop-one-test.true c.one-item.is before.listed
          c.in_ok-listed_as_replaced.ensures.listed;
      few = subst (λ (list : List ListedRuling). length list ≤ c.loop-one.one-index + 1) (sym pushed)
          (more_few all found c.loop-one.one-index before.few);
      days = subst (λ (list : List ListedRuling). All (λ one. HasDays (ruling_shown one)) list)
          (sym pushed)
          (more_dated all found before.days c.in_ok-listed_as_replaced.ensures.days);
    }
