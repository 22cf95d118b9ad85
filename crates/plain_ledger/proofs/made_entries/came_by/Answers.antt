use Rattle.std.proofs.Common.{◌∙◌, ◌+◌, ap, cond, sym, take, take_all}
use Rattle.book_model.specs.Journal.{came_by, kept_by}
use Rattle.book_model.specs.Words.{has}
use Rattle.plain_ledger.specs.declared.made_entries.MadeEntry.{MadeEntry}
use Rattle.plain_ledger.specs.MadeEntries.{act_of, entries_made}
use Rattle.plain_ledger.proofs.MadeLemmas.{came_more}
use Rattle.plain_ledger.proofs.made_entries.came_by.Goals as goal

-- one more
pub loop-at-preserved : goal.loop-at-preserved
loop-at-preserved c =
    let at = c.loop-at.at in
    c.number_where-number.ensures
    ∙ (λ i. cond (c.has_kept-test.ensures i) (at + 1) (c.loop-at.invariant i))
    ∙ ap (λ (one : MadeEntry). cond (has (kept_by (act_of one.act)) c.args.bytes.now) (at + 1)
    (came_by (entries_made (take at c.args.made.now)) c.args.bytes.now)) (sym c.index-made-at.is)
    ∙ sym (came_more c.args.made.now at c.index-made-at.result c.args.bytes.now
    c.loop-at-test.true c.index-made-at.is)

-- all of them
pub returns : goal.returns
returns c =
    c.loop-at.invariant
    ∙ ap (λ made. came_by (entries_made made) c.args.bytes.now)
    (take_all c.loop-at.at c.args.made.now c.loop-at-test.false)
