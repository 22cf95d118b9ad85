use Rattle.std.specs.Prelude.{option_map}
use Rattle.book_model.specs.Words.{dispute_shown}
use Rattle.book_lists.proofs.DisputeCursorLemmas.{first_asked, later_asked, above_zero}
use Rattle.book_lists.proofs.dispute_cursors.DisputeCursorCursor.next.Goals as goal

-- at first
pub returns-then-count-eq0-clause-item : goal.returns-then-count-eq0-clause-item
returns-then-count-eq0-clause-item g c =
    first_asked c.args.count (option_map dispute_shown c.args.last) c.if-count-eq0.true
    c.dispute_from.ensures.dispute

-- later
pub dispute_after-requires : goal.dispute_after-requires
dispute_after-requires g c = c.requires (above_zero c.args.count c.if-count-eq0.false)

pub returns-clause-item : goal.returns-clause-item
returns-clause-item g c =
    later_asked c.args.count (option_map dispute_shown c.args.last) c.if-count-eq0.false
    c.dispute_after.ensures.dispute
