use Rattle.std.proofs.Common.{Option, ℕ, arith, subst, sym}
use Rattle.book_audit.specs.Came.{TakesOne}
use Rattle.book_audit.proofs.due.Due.take.Goals as goal

-- a record that came by no entry is due by none
pub returns-in_default : goal.returns-in_default
returns-in_default c so =
    let due = c.args.self.now.left.items in
    subst (λ (came : Option ℕ). TakesOne due due came) (sym c.in_default.is)
    (λ number. omega arith)

pub returns : goal.returns
returns c so =
    subst (λ (came : Option ℕ). TakesOne c.args.self.now.left.items c.take_one.new.self.left.items came)
    (sym c.in-Some.is) (c.take_one.ensures so)
