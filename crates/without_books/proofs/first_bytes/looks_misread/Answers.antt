use Rattle.std.proofs.Common.{◌≡◌, ◌∙◌, ◌&&◌, ap, subst, sym, IfOk}
use Rattle.program_output.specs.Layouts.{is_misread}
use Rattle.without_books.proofs.FirstByteLemmas.{whole_seen}
use Rattle.without_books.proofs.first_bytes.looks_misread.Goals as goal

-- not all of them came
pub returns-then-not-is_whole : goal.returns-then-not-is_whole
returns-then-not-is_whole c =
    ap (λ b. b && is_misread c.args.layout c.args.first.now.bytes.items)
    (sym c.if-not-is_whole.true ∙ c.is_whole.ensures)

-- or all did
pub returns : goal.returns
returns c =
    whole_seen c.args.layout c.args.first.now.end c.args.first.now.bytes.items c.is_misread.result
    (sym c.is_whole.ensures ∙ c.if-not-is_whole.false)
    (subst (λ bytes. IfOk c.is_misread.result (λ is. is ≡ is_misread c.args.layout bytes))
    c.deref.ensures.value c.is_misread.ensures.misread)
