use Rattle.std.proofs.Common.{[], ◌∙◌, ap}
use Rattle.plain_ledger.specs.Journals.{said_from}
use Rattle.plain_ledger.proofs.JournalLemmas.{said_more}
use Rattle.plain_ledger.proofs.journal.Journal.add.Goals as goal

pub returns : goal.returns
returns c =
    ap (said_from []) c.push_reserved.ensures.items
    ∙ said_more [] c.args.self.now.said.items c.args.said
