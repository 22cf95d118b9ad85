use Rattle.std.proofs.Common.{◌≡◌, ◌≢◌, ◌∙◌, ℕ, List, eqb-true, length, subst, sym}
use Rattle.std.proofs.lemmas.Bool.{eqb-false}
use Rattle.program_output.specs.Names.{HasRead, IsNamesFault, IsNoLine, KeepsLine, names_in}
use Rattle.program_output.proofs.NameLemmas.{ended_named, ended_numbered, ended_refused, ended_whole}
use Rattle.program_output.proofs.NameLemmas.{fault_is, numbers_whole}
use Rattle.program_output.proofs.names.NameList.end.Goals as goal

pub returns-then-is_empty-clause-names : goal.returns-then-is_empty-clause-names
returns-then-is_empty-clause-names c =
    λ text had. ended_whole text c.args.self had
    (subst (λ line. length line ≡ 0) c.as_slice-last.ensures.value
    (eqb-true (length c.as_slice-last.result.now) 0 (sym c.is_empty.ensures ∙ c.if-is_empty.true)))

pub returns-then-is_empty-clause-lines : goal.returns-then-is_empty-clause-lines
returns-then-is_empty-clause-lines c =
    λ text had. numbers_whole text c.args.self had
    (subst (λ line. length line ≡ 0) c.as_slice-last.ensures.value
    (eqb-true (length c.as_slice-last.result.now) 0 (sym c.is_empty.ensures ∙ c.if-is_empty.true)))

pub returns-in_err-keep_line-clause-refused : goal.returns-in_err-keep_line-clause-refused
returns-in_err-keep_line-clause-refused c =
    let list = c.args.self in
    let last = c.as_slice-last.result.now in
    let why = c.in_err-keep_line.field-0.0 in
    fault_is c.from_residual.result why
    (λ fault. (text : List ℕ) → HasRead text list → IsNamesFault (names_in text) fault)
    c.from_residual.ensures.1
    (λ text had. ended_refused text list why had
    (subst (λ line. length line ≢ 0) c.as_slice-last.ensures.value
    (eqb-false (length last) 0 (sym c.is_empty.ensures ∙ c.if-is_empty.false)))
    (subst (λ line. IsNoLine list.ended line why) c.as_slice-last.ensures.value
    c.in_err-keep_line.ensures.refused))

pub returns-clause-names : goal.returns-clause-names
returns-clause-names c =
    let list = c.args.self in
    let last = c.as_slice-last.result.now in
    let new = c.keep_line.new.listed in
    λ text had. ended_named text list new c.in_ok-keep_line.field-0 had
    (subst (λ line. length line ≢ 0) c.as_slice-last.ensures.value
    (eqb-false (length last) 0 (sym c.is_empty.ensures ∙ c.if-is_empty.false)))
    (subst (λ line. KeepsLine list.listed list.ended line new c.in_ok-keep_line.field-0) c.as_slice-last.ensures.value
    c.in_ok-keep_line.ensures.kept)

pub returns-clause-lines : goal.returns-clause-lines
returns-clause-lines c =
    let list = c.args.self in
    let last = c.as_slice-last.result.now in
    let new = c.keep_line.new.listed in
    λ text had. ended_numbered text list new c.in_ok-keep_line.field-0 had
    (subst (λ line. length line ≢ 0) c.as_slice-last.ensures.value
    (eqb-false (length last) 0 (sym c.is_empty.ensures ∙ c.if-is_empty.false)))
    (subst (λ line. KeepsLine list.listed list.ended line new c.in_ok-keep_line.field-0) c.as_slice-last.ensures.value
    c.in_ok-keep_line.ensures.kept)
