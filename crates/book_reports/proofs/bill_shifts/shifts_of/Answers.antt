use Rattle.std.proofs.Common.{◌≡◌, ◌∙◌, ap, rules}
use Rattle.std.proofs.lemmas.Result.{IfOk-weaker}
use Rattle.book_reports.specs.BillTariffs.{with_shifts}
use Rattle.book_reports.proofs.ShiftLemmas.{all_shifts}
use Rattle.book_reports.proofs.bill_shifts.shifts_of.Goals as goal

-- BASE has joined none, and then those of the rules
pub returns : goal.returns
returns c =
    let none = c.new-shifts.result.keys in
    let base = c.insert_base.new.shifts.keys in
    let all = c.insert_shifts.new.shifts.keys in
    let joined =
    all_shifts c.args.tariff.now none base all c.new-shifts.ensures.empty
    c.in_ok-insert_base.ensures
    (c.in_ok-insert_shifts.ensures ∙ ap (with_shifts base) c.shift_rules.ensures) in
    IfOk-weaker c.collect.result (λ shifts. shifts.items ≡ all) _ (λ shifts is. is ∙ joined)
    (search rules)
