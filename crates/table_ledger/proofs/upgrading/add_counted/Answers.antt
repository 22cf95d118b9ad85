use Rattle.std.proofs.Common.{◌≡◌, ◌∙◌, ◌++◌, ◌∷◌, [], List, ap, sym}
use Rattle.std.proofs.lemmas.List.{map-append}
use Rattle.std.specs.BTreeMap.{get}
use Rattle.book_model.specs.Words.{by_bytes}
use Rattle.table_model.specs.CountedRead.{charged_before_lines}
use Rattle.table_ledger.specs.OldForms.{names_of}
use Rattle.table_ledger.specs.declared.upgrading.Counted.{Counted}
use Rattle.table_ledger.proofs.CountedList.{adds_none, adds_one}
use Rattle.table_ledger.proofs.upgrading.add_counted.Goals as goal

-- a record that is not counted does not join
pub returns-then-not-is_counted : goal.returns-then-not-is_counted
returns-then-not-is_counted c = λ came entry is.
    let lines = c.args.lines.now in
    let same = c.in_ok-mark.ensures.read came entry is in
    let told : c.is_counted.result
    ≡ charged_before_lines (get by_bytes lines entry.0) entry.1.charged =
    c.is_counted.ensures
    ∙ (λ i. charged_before_lines (c.get.ensures.value i) (same i).charged)
    ∙ (λ i. charged_before_lines (get by_bytes lines (same i).name) entry.1.charged) in
    adds_none (get by_bytes lines entry.0) entry (names_of c.args.all.now.items)
    (sym told ∙ c.if-not-is_counted.true)

-- one that is does
pub returns : goal.returns
returns c = λ came entry is.
    let lines = c.args.lines.now in
    let olds = c.args.all.now.items in
    let same = c.in_ok-mark.ensures.read came entry is in
    let told : c.is_counted.result
    ≡ charged_before_lines (get by_bytes lines entry.0) entry.1.charged =
    c.is_counted.ensures
    ∙ (λ i. charged_before_lines (c.get.ensures.value i) (same i).charged)
    ∙ (λ i. charged_before_lines (get by_bytes lines (same i).name) entry.1.charged) in
    adds_one (get by_bytes lines entry.0) entry (names_of olds) (names_of c.push.new.self.items)
    (sym told ∙ c.if-not-is_counted.false)
    (ap (λ (all : List Counted). names_of all) c.in_ok-push.ensures.items
    ∙ map-append (λ (one : Counted). one.name) olds _
    ∙ ap (λ name. names_of olds ++ name ∷ []) (λ i. (same i).name))
