use Rattle.std.proofs.Common.{[], ◌∙◌, ap, sym}
use Rattle.book_model.specs.Words.{change_newest, keep_in}
use Rattle.plain_ledger.specs.Journals.{entries_in, said_from}
use Rattle.plain_ledger.proofs.JournalLemmas.{none_said}
use Rattle.plain_ledger.proofs.journal.Journal.alone.Goals as goal

-- where nothing was said, no import goes on
pub returns-then-is_empty : goal.returns-then-is_empty
returns-then-is_empty c =
    let said = c.args.self.now.said in
    let none = none_said said.items said.len said.ok.0 (sym c.is_empty.ensures ∙ c.if-is_empty.true)
    in
    ap (said_from []) none
    ∙ sym (ap (λ said. change_newest (keep_in c.args.bytes.now) (said_from [] said)) none)

pub returns : goal.returns
returns c =
    ap (λ bytes. change_newest (keep_in bytes) (entries_in c.args.self.now))
    c.in_ok-own.ensures.items
