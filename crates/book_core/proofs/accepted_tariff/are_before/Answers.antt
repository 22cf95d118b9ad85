use Rattle.std.proofs.Common.{sym, ◌∙◌}
use Rattle.std.specs.Prelude.{int_lt}
use Rattle.book_model.specs.Words.{AcceptedTerms}
use Rattle.tariff_rules.proofs.SearchLemmas.{all_pass, one_fails, passes_more}
use Rattle.book_core.proofs.accepted_tariff.are_before.Goals as goal

pub returns-then-not-is_before : goal.returns-then-not-is_before
returns-then-not-is_before c =
    one_fails
    (λ (tariff : AcceptedTerms). int_lt tariff.terms.effective c.args.other.now.effective)
    c.args.tariffs.now c.loop-accepted.accepted-index c.accepted-item.result
    c.loop-accepted-test.true
    (rw (← c.accepted-item.is) (sym c.is_before.ensures ∙ c.if-not-is_before.true))

pub loop-accepted-preserved : goal.loop-accepted-preserved
loop-accepted-preserved c =
    passes_more
    (λ (tariff : AcceptedTerms). int_lt tariff.terms.effective c.args.other.now.effective)
    c.args.tariffs.now c.loop-accepted.accepted-index c.accepted-item.result
    c.loop-accepted-test.true c.loop-accepted.invariant
    (rw (← c.accepted-item.is) (sym c.is_before.ensures ∙ c.if-not-is_before.false))

pub returns : goal.returns
returns c =
    all_pass
    (λ (tariff : AcceptedTerms). int_lt tariff.terms.effective c.args.other.now.effective)
    c.args.tariffs.now c.loop-accepted.accepted-index c.loop-accepted-test.false
    c.loop-accepted.invariant
