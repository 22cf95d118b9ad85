use Rattle.std.proofs.Common.{◌≡◌, ◌∙◌, ◌+◌, ap, arith, rules, sym, unwrap_or}
use Rattle.std.specs.BTreeMap.{is_at}
use Rattle.std.specs.Cmp.Lexicographic.{texts_ties}
use Rattle.std.specs.Map.{lookup}
use Rattle.std.proofs.lemmas.Cmp.{nat_list_cmp_total}
use Rattle.std.proofs.lemmas.Map.Lookups.{exact_bytes}
use Rattle.book_model.specs.Words.{by_bytes}
use Rattle.book_model.specs.declared.row.ChargeRow.{ChargeRow}
use Rattle.page_texts.proofs.CostLemmas.{cost_fits, key_costs-more, key_costs-none}
use Rattle.page_texts.proofs.figures.costs_of.Goals as goal
use Rattle.page_texts.proofs.figures.costs_of.Goals.{After-or_insert-cost}

-- what was found is what the centre costs so far
found : (c : After-or_insert-cost)
    → c.or_insert-cost.result.now
    ≡ unwrap_or (lookup (is_at (by_bytes c.row-item.result.centre)) c.loop-row.costs.entries) 0
found c = c.or_insert-cost.ensures.value ∙ ap (λ one. unwrap_or one 0) c.in_ok-costs.ensures.value

pub loop-row-init : goal.loop-row-init
loop-row-init c =
    c.new-costs.ensures.empty
    ∙ sym (key_costs-none nat_list_cmp_total exact_bytes texts_ties (λ (row : ChargeRow). row.centre))

pub overflow_add-cost : goal.overflow_add-cost
overflow_add-cost c =
    let most =
    cost_fits nat_list_cmp_total exact_bytes texts_ties (λ (row : ChargeRow). row.centre)
    c.args.rows.now c.loop-row.row-index c.row-item.result c.loop-row.costs.entries
    c.or_insert-cost.result.now c.loop-row-test.true c.row-item.is c.loop-row.invariant
    (found (goal.at.overflow_add-cost c).After-or_insert-cost) in
    omega (arith, c.requires.amount)

pub loop-row-preserved : goal.loop-row-preserved
loop-row-preserved c =
    let written =
    c.in_ok-costs.ensures.update.1 (c.or_insert-cost.result.now + c.row-item.result.amount) in
    let more =
    key_costs-more nat_list_cmp_total exact_bytes texts_ties (λ (row : ChargeRow). row.centre)
    c.args.rows.now c.loop-row.row-index c.row-item.result c.loop-row.costs.entries
    c.or_insert-cost.result.now c.loop-row-test.true c.row-item.is c.loop-row.invariant
    (found (goal.at.loop-row-preserved c).After-or_insert-cost) in
    search (rules, written, more)
