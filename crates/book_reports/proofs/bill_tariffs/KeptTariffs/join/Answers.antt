use Rattle.std.proofs.Common.{◌∙◌, ◌++◌, append-nil, ap, subst, sym, w32}
use Rattle.book_model.proofs.Std.{to_z-of_z}
use Rattle.book_reports.proofs.Words.{on_ok_weaker, HasKept, kept_of, left_by}
use Rattle.book_reports.proofs.KeptTariffLemmas.{kept_more, through_none, through_one}
use Rattle.book_reports.proofs.bill_tariffs.KeptTariffs.join.Goals as goal

-- it begins after the last day
pub returns-then-not-is_through-clause-joined : goal.returns-then-not-is_through-clause-joined
returns-then-not-is_through-clause-joined c = λ read kept.
    let same = to_z-of_z w32 c.args.day c.ranges.day in
    let left = left_by c.args.days.before c.args.day (kept_of c.args.days read) in
    let after = sym (rw same at c.is_through.ensures) ∙ c.if-not-is_through.true in
    subst (HasKept c.leave.new.self)
    (sym (kept_more c.args.days read c.args.day c.args.text.now
    ∙ ap (λ more. left ++ more) (through_none c.args.days.through c.args.day c.args.text.now after)
    ∙ append-nil left))
    ((rw same at c.leave.ensures) (kept_of c.args.days read) kept)

-- or by then
pub returns-clause-joined : goal.returns-clause-joined
returns-clause-joined c =
    let same = to_z-of_z w32 c.args.day c.ranges.day in
    let begun = sym (rw same at c.is_through.ensures) ∙ c.if-not-is_through.false in
    on_ok_weaker c.push.result
    (λ pushed read kept.
    let left = left_by c.args.days.before c.args.day (kept_of c.args.days read) in
    subst (HasKept c.push.new.self)
    (sym (kept_more c.args.days read c.args.day c.args.text.now
    ∙ ap (λ more. left ++ more) (through_one c.args.days.through c.args.day c.args.text.now begun)))
    (pushed left ((rw same at c.leave.ensures) (kept_of c.args.days read) kept)))
    (rw same at c.push.ensures.pushed)
