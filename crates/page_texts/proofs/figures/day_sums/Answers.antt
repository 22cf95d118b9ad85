use Rattle.std.proofs.Common.{◌≡◌, ◌∙◌, ◌+◌, ap, arith, of_z, refl, rules, subst, sym, to_z}
use Rattle.std.proofs.Common.{unwrap_or, w32}
use Rattle.std.specs.BTreeMap.{insert_entry, is_at}
use Rattle.std.specs.Map.{lookup}
use Rattle.std.specs.Ordering.{int_cmp}
use Rattle.std.proofs.lemmas.Cmp.{int_cmp_total}
use Rattle.std.proofs.lemmas.Map.Lookups.{exact_signed}
use Rattle.book_model.proofs.DayLemmas.{day_kept}
use Rattle.book_model.specs.Words.{IsDay}
use Rattle.book_model.specs.declared.row.ChargeRow.{ChargeRow}
use Rattle.page_texts.proofs.CostLemmas.{cost_fits, key_costs-more, key_costs-none}
use Rattle.page_texts.proofs.figures.day_sums.Goals as goal
use Rattle.page_texts.proofs.figures.day_sums.Goals.{After-or_insert-cost}

-- the day of the row is the same in the code
kept : (c : After-or_insert-cost)
    → to_z w32 (of_z w32 c.row-item.result.day) ≡ c.row-item.result.day
kept c =
    day_kept c.row-item.result.day
    (subst (λ (row : ChargeRow). IsDay row.day) (sym c.row-item.is)
    (c.requires.days c.loop-row.row-index c.row-item.result c.loop-row-test.true))

-- what was found is what the day costs so far
found : (c : After-or_insert-cost)
    → c.or_insert-cost.result.now
    ≡ unwrap_or (lookup (is_at (int_cmp c.row-item.result.day)) c.loop-row.costs.entries) 0
found c =
    c.or_insert-cost.ensures.value ∙ ap (λ one. unwrap_or one 0) c.in_ok-costs.ensures.value
    ∙ ap (λ day. unwrap_or (lookup (is_at (int_cmp day)) c.loop-row.costs.entries) 0) (kept c)

pub loop-row-init : goal.loop-row-init
loop-row-init c =
    c.new-costs.ensures.empty
    ∙ sym (key_costs-none int_cmp_total exact_signed (λ a b. refl) (λ (row : ChargeRow). row.day))

pub overflow_add-cost : goal.overflow_add-cost
overflow_add-cost c =
    let most =
    cost_fits int_cmp_total exact_signed (λ a b. refl) (λ (row : ChargeRow). row.day)
    c.args.rows.now c.loop-row.row-index c.row-item.result c.loop-row.costs.entries
    c.or_insert-cost.result.now c.loop-row-test.true c.row-item.is c.loop-row.invariant
    (found (goal.at.overflow_add-cost c).After-or_insert-cost) in
    omega (arith, c.requires.amount)

pub loop-row-preserved : goal.loop-row-preserved
loop-row-preserved c =
    let at = (goal.at.loop-row-preserved c).After-or_insert-cost in
    let cost = c.or_insert-cost.result.now + c.row-item.result.amount in
    let written = c.in_ok-costs.ensures.update.1 cost in
    let more = ap (λ day. insert_entry int_cmp c.loop-row.costs.entries day cost) (kept at)
    ∙ key_costs-more int_cmp_total exact_signed (λ a b. refl) (λ (row : ChargeRow). row.day)
    c.args.rows.now c.loop-row.row-index c.row-item.result c.loop-row.costs.entries
    c.or_insert-cost.result.now c.loop-row-test.true c.row-item.is c.loop-row.invariant
    (found at) in
    search (rules, written, more)
