use Rattle.std.proofs.Common.{◌∙◌, ◌∷◌, ◌++◌, ℕ, List, ap}
use Rattle.std.specs.Str.Lines.{strip_carriage_return}
use Rattle.program_output.specs.Names.{HasRead, IsNamesFault, names_in}
use Rattle.program_output.proofs.NameLemmas.{fault_is, line_read, line_refused}
use Rattle.program_output.proofs.names.NameList.push.Goals as goal

pub returns-in_err-ended-clause-refused : goal.returns-in_err-ended-clause-refused
returns-in_err-ended-clause-refused c =
    let list = c.args.self.now in
    let why = c.in_err-ended.field-0.0 in
    fault_is c.from_residual.result why
    (λ fault. (text more : List ℕ) → HasRead text list
    → IsNamesFault (names_in (text ++ c.args.byte ∷ more)) fault)
    c.from_residual.ensures.1
    (λ text more had. line_refused text more list c.args.byte c.without_return.result.now why
    c.if-byte-eq10.true
    (c.without_return.ensures ∙ ap strip_carriage_return c.deref.ensures.value) had
    c.in_err-ended.ensures.refused)

pub returns-in_ok-ended-clause-read : goal.returns-in_ok-ended-clause-read
returns-in_ok-ended-clause-read c =
    λ text had. line_read text c.args.self.now _ c.args.byte c.without_return.result.now
    c.if-byte-eq10.true (c.without_return.ensures ∙ ap strip_carriage_return c.deref.ensures.value) had
    c.in_ok-ended.ensures.kept c.clear.ensures.items
