use Rattle.std.proofs.Common.{◌≡◌, ◌∙◌, SFits, arith, rules, sym, subst, w32, ℤ, ◌+ℤ◌, pos}
use Rattle.book_model.proofs.Std.{ints, to_z-of_z}
use Rattle.tree_tables.specs.declared.detail_rows.DetailStart.TheVariants.{Centre}
use Rattle.table_ledger.specs.DetailReads.{GoesOn}
use Rattle.table_ledger.proofs.DetailTries.{on_its_day, on_the_next}
use Rattle.table_ledger.proofs.details.Sought.after.Goals as goal

-- the centre comes later on the same day
pub returns-in-Less : goal.returns-in-Less
returns-in-Less c =
    let sought = c.args.self.now in
    let passed = c.args.passed.now in
    let centre = c.in-Some.centre in
    let fits : SFits w32 passed.priced.day = search rules in
    subst (λ (day : ℤ). GoesOn sought passed (Centre day centre))
    (sym (to_z-of_z w32 passed.priced.day fits)) (on_its_day sought passed centre c.in-Some.is)

-- or on a later one
pub returns-in-Some-checked_add : goal.returns-in-Some-checked_add
returns-in-Some-checked_add c =
    let sought = c.args.self.now in
    let passed = c.args.passed.now in
    let centre = c.in-Some.centre in
    let fits : SFits w32 passed.priced.day = search rules in
    let next : c.in-Some-checked_add.next ≡ passed.priced.day +ℤ pos 1 =
    (let is = c.in-Some-checked_add.ensures.1 in omega (arith, ints, is, fits)) in
    let kept : SFits w32 c.in-Some-checked_add.next = search rules in
    subst (λ (day : ℤ). GoesOn sought passed (Centre day centre))
    (sym (to_z-of_z w32 c.in-Some-checked_add.next kept ∙ next))
    (on_the_next sought passed centre c.in-Some.is (sym c.cmp.ensures ∙ c.in-Greater.is))
