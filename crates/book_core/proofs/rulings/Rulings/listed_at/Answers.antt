use Rattle.std.proofs.Common.{Err, subst}
use Rattle.book_model.specs.Words.{closes_seen, tariffs_seen}
use Rattle.book_core.specs.ListedRulings.{LeadsInto, StandsIn, choices_part}
use Rattle.book_core.specs.OfficeRulings.{ruled_in}
use Rattle.book_core.proofs.ListedLemmas.{past_closes}
use Rattle.book_core.proofs.rulings.Rulings.listed_at.Goals.{After-close_at, In-Err-close_at}
use Rattle.book_core.proofs.rulings.Rulings.listed_at.Goals as goal

-- the number is past the tariffs,
past : (c : After-close_at)
    → LeadsInto (tariffs_seen (ruled_in c.args.self.now).tariffs) c.args.number (Err c.in-Err.rest)
past c =
    subst (λ tariffs. LeadsInto (tariffs_seen tariffs) c.args.number (Err c.in-Err.rest))
    c.tariffs.ensures (rw c.in-Err.is at c.in_ok-found.ensures.leads)

-- and past the closes
gone : (c : In-Err-close_at)
    → LeadsInto (closes_seen 1 (ruled_in c.args.self.now).closes) c.in-Err.rest
    (Err c.in-Err-close_at.rest)
gone c =
    subst (λ closes. LeadsInto (closes_seen 1 closes) c.in-Err.rest (Err c.in-Err-close_at.rest))
    c.closes.ensures c.in-Err-close_at.ensures.leads

-- so it leads to what comes after them
pub returns-clause-stands : goal.returns-clause-stands
returns-clause-stands c =
    let at = goal.at.returns-clause-stands c in
    let found = c.listed_behind_closes.result in
    past_closes (ruled_in c.args.self.now) c.args.counts.now c.args.number c.in-Err.rest
    c.in-Err-close_at.rest found (past at.After-close_at) (gone at.In-Err-close_at)
    (subst (λ adopted. StandsIn (choices_part adopted) c.args.counts.now c.in-Err-close_at.rest found)
    c.adopted.ensures c.listed_behind_closes.ensures.stands)
