use Rattle.std.proofs.Common.{◌≡◌, ◌∙◌, ap, subst, sym}
use Rattle.std.proofs.lemmas.Result.{IfOk-weaker}
use Rattle.book_model.specs.Words.{AreRows}
use Rattle.bill_texts.specs.ShiftSums.{sums_of}
use Rattle.bill_texts.proofs.ShiftLemmas.{AreDated, by_tariff_days, dated_shown}
use Rattle.bill_texts.proofs.shift_sums.by_tariff.Goals as goal

-- rows that are dated since their tariffs can be shown
pub sums_of-requires : goal.sums_of-requires
sums_of-requires c =
    subst AreRows (sym (c.deref.ensures.value ∙ c.in_ok-dated.ensures))
    (dated_shown c.args.tariffs.now c.args.rows.now c.requires.tariffs c.requires.rows)

-- and their sums are dated on days
pub returns-clause-days : goal.returns-clause-days
returns-clause-days c =
    let dated = c.deref.ensures.value ∙ c.in_ok-dated.ensures in
    IfOk-weaker c.sums_of.result (λ sums. sums.items ≡ sums_of c.deref.result.now) _
    (λ sums is.
    subst AreDated (sym (is ∙ ap sums_of dated))
    (by_tariff_days c.args.tariffs.now c.args.rows.now c.requires.tariffs c.requires.rows.days))
    c.sums_of.ensures
