use Rattle.std.proofs.Common.{append_assoc}
use Rattle.page_texts.specs.PeriodTables.{identity_row}
use Rattle.page_texts.proofs.period_disputes.push_identity.Goals as goal

pub returns : goal.returns
unfolding identity_row
returns c =
    rw (c.push_str-2.ensures, c.push_identity_text.ensures, c.push_str.ensures)
    (simp append_assoc)
