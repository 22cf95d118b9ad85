use Rattle.std.proofs.Common.{◌∙◌, ap, if◌then◌else◌}
use Rattle.plain_ledger.specs.Journals.{entries_in, is_kept, said_all}
use Rattle.plain_ledger.proofs.ledger.PlainLedger.keep_told.Goals as goal

pub returns-clause-said : goal.returns-clause-said
returns-clause-said g c =
    let same = c.reserve.ensures.same in
    let entries = entries_in c.args.self.now.journal in
    c.add_if.ensures
    ∙ (λ i. if c.is_kept.ensures i then said_all c.in_ok-said.said (same i) else same i)
    ∙ ap (λ later. if is_kept c.keep_record-answer.result then later else entries)
    c.in_ok-said.ensures
