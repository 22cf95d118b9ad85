use Rattle.std.proofs.Common.{Vec, Global, ℕ, sym, ◌∙◌}
use Rattle.book_model.specs.Words.{same_bytes}
use Rattle.tariff_rules.proofs.SearchLemmas.{any_passes, fails_more, none_passes}
use Rattle.plain_ledger.proofs.MadeLemmas.{kept_among}
use Rattle.plain_ledger.proofs.made_entries.has_bytes.Goals as goal

-- one of them has
pub returns-then-is_record : goal.returns-then-is_record
returns-then-is_record c =
    let bytes = c.args.bytes.now in
    any_passes (λ (one : Vec ℕ Global). same_bytes one.items bytes) c.args.kept.now
    c.loop-one.one-index c.one-item.result c.loop-one-test.true
    (rw (← c.one-item.is) (sym (rw c.deref.ensures.value at c.is_record.ensures)
    ∙ c.if-is_record.true))
    ∙ kept_among c.args.kept.now bytes

pub loop-one-preserved : goal.loop-one-preserved
loop-one-preserved c =
    let bytes = c.args.bytes.now in
    fails_more (λ (one : Vec ℕ Global). same_bytes one.items bytes) c.args.kept.now
    c.loop-one.one-index c.one-item.result c.loop-one-test.true c.loop-one.invariant
    (rw (← c.one-item.is) (sym (rw c.deref.ensures.value at c.is_record.ensures)
    ∙ c.if-is_record.false))

-- none has
pub returns : goal.returns
returns c =
    let bytes = c.args.bytes.now in
    none_passes (λ (one : Vec ℕ Global). same_bytes one.items bytes) c.args.kept.now
    c.loop-one.one-index c.loop-one-test.false c.loop-one.invariant
    ∙ kept_among c.args.kept.now bytes
