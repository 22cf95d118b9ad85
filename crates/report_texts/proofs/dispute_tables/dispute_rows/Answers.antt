use Rattle.book_model.specs.Words.{dispute_shown}
use Rattle.report_texts.proofs.RowLemmas.{long_enough}
use Rattle.report_texts.proofs.dispute_tables.dispute_rows.Goals as goal

-- the dispute can be shown
pub add_members-requires-clause-identity : goal.add_members-requires-clause-identity
add_members-requires-clause-identity c =
    rw c.deref.ensures.value (long_enough (dispute_shown c.args.dispute.now) c.requires)

pub add_members-requires-clause-days : goal.add_members-requires-clause-days
add_members-requires-clause-days c = rw c.deref-2.ensures.value c.requires.days
