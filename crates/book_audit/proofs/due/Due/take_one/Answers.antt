use Rattle.std.proofs.Common.{◌≡◌, ◌<◌, ◌+◌, ◌-◌, ℕ, List, Some, arith, length, rules, slice_index_or}
use Rattle.std.proofs.Common.{slice_set, subst, sym}
use Rattle.std.proofs.lemmas.Grind.{get_or_default_zero}
use Rattle.book_audit.specs.Came.{TakesOne}
use Rattle.book_audit.proofs.Rows.Due.{one_fewer}
use Rattle.book_audit.proofs.due.Due.take_one.Goals as goal

-- one was due, and is so no more
pub returns : goal.returns
returns c so =
    let old : List ℕ = c.args.self.now.left.items in
    let at : ℕ = c.in-Some.at in
    let left : ℕ = c.index-left.result.now in
    let number : c.args.number ≡ at + 1 = search rules in
    let inside : at < length old = search rules in
    let gives : left ≡ slice_index_or old at left = search rules in
    let stands : slice_index_or old at left ≡ slice_index_or old at 0 =
    get_or_default_zero old at left inside in
    let some : 0 < left = omega arith in
    let put : c.put_at.new.numbers.items ≡ slice_set old at (left - 1) = c.put_at.ensures in
    subst (λ (new : List ℕ). TakesOne old new (Some c.args.number)) (sym put)
    (one_fewer old c.args.number at (left - 1) number inside (omega (arith, some, gives, stands)))
