use Rattle.std.proofs.Common.{◌∙◌, ◌&&◌, sym, ap, Bool, List, w32, int_lt, ℤ}
use Rattle.book_model.proofs.Std.{to_z-of_z, list_all}
use Rattle.book_model.specs.Words.{AcceptedTerms, is_after, last_close}
use Rattle.book_model.proofs.Lemmas.{day_fits}
use Rattle.book_core.specs.Words.{ruled_in}
use Rattle.book_core.proofs.rulings.Rulings.is_later.Goals as goal

-- the first day of each tariff is before a day
abbrev all_before : ℤ → List AcceptedTerms → Bool
all_before day = list_all (λ tariff. int_lt tariff.terms.effective day)

pub returns-then-are_before : goal.returns-then-are_before
returns-then-are_before c =
    let day = c.args.tariff.now.effective in
    let before = ap (all_before day) (sym c.deref.ensures.value) ∙ sym c.are_before.ensures
    ∙ c.if-are_before.true in
    let last = c.last_close.result in
    sym (ap (λ b. b && is_after (last_close (ruled_in c.args.self.now)) day) before
    ∙ (λ i. is_after (sym c.last_close.ensures i) (sym c.effective.ensures.value i))
    ∙ ap (is_after last) (sym (to_z-of_z w32 c.effective.result
    (day_fits c.effective.result c.effective.ensures.day)))
    ∙ sym c.is_after.ensures)

pub returns-else-are_before : goal.returns-else-are_before
returns-else-are_before c =
    let day = c.args.tariff.now.effective in
    let before = ap (all_before day) (sym c.deref.ensures.value) ∙ sym c.are_before.ensures
    ∙ c.if-are_before.false in
    c.if-are_before.false
    ∙ sym (ap (λ b. b && is_after (last_close (ruled_in c.args.self.now)) day) before)
