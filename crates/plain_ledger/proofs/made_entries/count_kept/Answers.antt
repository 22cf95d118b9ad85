use Rattle.std.proofs.Common.{◌∙◌, ap, arith, length, sym, take_all}
use Rattle.book_model.specs.Words.{by_bytes, members}
use Rattle.book_model.proofs.Lemmas.{members-empty}
use Rattle.plain_ledger.specs.MadeEntries.{kept_of}
use Rattle.plain_ledger.proofs.MadeLemmas.{few_more, next_counted}
use Rattle.plain_ledger.proofs.made_entries.count_kept.Goals as goal

-- none yet
pub loop-at-init : goal.loop-at-init
loop-at-init c = record { counted = sym (ap length (members-empty by_bytes)); few = omega arith }

-- one more
pub loop-at-preserved : goal.loop-at-preserved
loop-at-preserved c =
    let kept = c.args.kept.now in
    let there = c.has_among-there.result in
    let its = rw c.deref.ensures.value at c.has_among-there.ensures in
    record {
      counted = c.counted_with-count.ensures
          ∙ next_counted kept c.loop-at.at c.index-kept-at.result c.loop-at-test.true
          c.index-kept-at.is there (sym its) c.loop-at.count c.loop-at.invariant.counted;
      few = few_more there c.loop-at.count c.loop-at.at c.counted_with-count.result
          c.counted_with-count.ensures c.loop-at.invariant.few;
    }

pub counted_with-count-requires : goal.counted_with-count-requires
counted_with-count-requires c =
    let few = c.loop-at.invariant.few in
    omega (arith, few)

-- all of them
pub returns : goal.returns
returns c =
    c.loop-at.invariant.counted
    ∙ ap (λ kept. length (members (kept_of kept)))
    (take_all c.loop-at.at c.args.kept.now c.loop-at-test.false)
