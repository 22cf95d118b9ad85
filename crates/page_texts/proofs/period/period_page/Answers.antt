use Rattle.std.proofs.Common.{◌∙◌, ℕ, ℤ, subst, sym}
use Rattle.std.specs.Prelude.{All}
use Rattle.book_model.specs.Words.{IsDay}
use Rattle.page_texts.proofs.DayLemmas.{days_dated}
use Rattle.page_texts.proofs.period.period_page.Goals as goal

-- what costs something is dated on days
pub push_day_table-requires : goal.push_day_table-requires
push_day_table-requires c =
    subst (All (λ (cost : ℤ × ℕ). IsDay cost.0)) (sym (c.deref.ensures.value ∙ c.in_ok-days.ensures))
    (days_dated c.args.rows.now c.requires.rows.days)
