use Rattle.std.proofs.Common.{◌++◌, ◌∷◌, [], subst}
use Rattle.table_ledger.proofs.Words.{SumsUp}
use Rattle.table_ledger.proofs.DetailCosts.{summed_all, summed_dear, summed_next, summed_none}
use Rattle.table_ledger.proofs.TryLemmas.{looks_known, saw_found, saw_none, saw_so, saw_then}
use Rattle.table_ledger.proofs.detail_prices.rows_by_details.Goals as goal

pub details-init : goal.details-init
details-init g c =
    saw_so saw_none (λ tables nothing. summed_none c.args.tariff.now c.args.close c.args.through
    c.new-sums.result tables c.new-sums.ensures)

-- none is left: these are the rows
pub returns-in_default : goal.returns-in_default
returns-in_default g c = record {
  looks = looks_known (saw_then c.details.invariant
      (saw_found (rw c.in_default.is at c.in_ok-next.ensures.looks)))
      (λ tables known. summed_all c.args.tariff.now c.args.close c.args.through c.details.last
      c.details.sums tables known.0 known.1 c.in_ok-rows.rows c.in_ok-rows.ensures);
}

-- with it they cost more than the books can hold
pub returns-then-not-room : goal.returns-then-not-room
returns-then-not-room g c = record {
  looks =
      let next = c.in-Some.next in
      let more = c.add.new.self in
      looks_known (saw_then c.details.invariant
      (saw_found (rw c.in-Some.is at c.in_ok-next.ensures.looks)))
      (λ tables known. summed_dear c.args.tariff.now c.args.close c.args.through c.details.last
      c.details.sums tables known.0 next known.1 more (λ costs are.
      subst (SumsUp more (costs ++ next.priced ∷ [])) c.if-not-room.true
      (c.in_ok-room.ensures.sums costs are)));
}

-- the walk goes on
pub details-preserved : goal.details-preserved
details-preserved g c =
    let next = c.in-Some.next in
    let more = c.add.new.self in
    saw_so (saw_then c.details.invariant
    (saw_found (rw c.in-Some.is at c.in_ok-next.ensures.looks)))
    (λ tables known. summed_next c.args.tariff.now c.args.close c.args.through c.details.last
    c.details.sums tables known.0 next known.1 more (λ costs are.
    subst (SumsUp more (costs ++ next.priced ∷ [])) c.if-not-room.false
    (c.in_ok-room.ensures.sums costs are)))
