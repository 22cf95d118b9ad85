use Rattle.std.proofs.Common.{◌∙◌, arith, sym, vec_len, eqb-true}
use Rattle.table_ledger.proofs.PostedDetails.{posted_all, posted_on}
use Rattle.table_ledger.proofs.Walks.{walks_all, walks_on}
use Rattle.table_ledger.proofs.close.post_details.Goals as goal

-- none is left
pub returns-then-is_empty : goal.returns-then-is_empty
returns-then-is_empty g c =
    let names = c.in_ok-names.names in
    let none = eqb-true (vec_len names) 0 (sym c.is_empty.ensures ∙ c.if-is_empty.true) in
    let same = names.ok.0 in
    walks_all c.details.invariant c.in_ok-names.ensures
    (λ tables rest so_far gathers.
    posted_all c.args.last c.args.close.now.through c.details.passed tables _ rest so_far
    (λ now held. (gathers now held).ends (omega (arith, none, same))))

-- they are
pub details-preserved : goal.details-preserved
details-preserved g c =
    walks_on c.details.invariant c.in_ok-names.ensures c.in_ok-post_names.ensures
    (λ tables so_far acts.
    posted_on c.args.last c.args.close.now.through c.details.passed c.gather_names.new.passed
    c.in_ok-names.names.items tables _ so_far (λ now held. (acts now held).0) _
    (λ now held. (acts now held).1))
