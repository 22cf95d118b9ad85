use Rattle.std.proofs.Common.{◌≡◌, ◌∙◌, List, Vec, ap, map, not, subst, sym, Global, Bool}
use Rattle.std.proofs.Common.{filter, if◌then◌else◌, take_all}
use Rattle.book_model.specs.Words.{AreDisputes, Disputed, dispute_shown}
use Rattle.table_model.specs.Words.{grouped, is_unsettled, join_last}
use Rattle.table_ledger.specs.DisputeReads.{is_settled_in}
use Rattle.table_ledger.proofs.Words.{Dispute, stored_entry, StoredRecord, IsShownRow}
use Rattle.table_ledger.proofs.DisputeTries.{unsettled_is}
use Rattle.table_ledger.proofs.JoinLemmas.{grouped_more}
use Rattle.table_ledger.proofs.LooksRefused.{look_given_up, look_refused}
use Rattle.table_ledger.proofs.TryLemmas.{looks_known, saw_found, saw_so, saw_then}
use Rattle.table_ledger.proofs.disputes.grouped.Goals.{then-not-branch+in_ok-join, else-not-branch}
use Rattle.table_ledger.proofs.disputes.grouped.Goals as goal

-- one more row is left out, or joins the groups
pub loop-stored-preserved : goal.loop-stored-preserved
loop-stored-preserved g c =
    let rows = c.args.rows.now in
    let at = c.loop-stored.stored-index in
    let row = c.stored-item.result in
    let shown : Vec Dispute Global → List Disputed = λ found. map dispute_shown found.items in
    let olds = shown c.loop-stored.found in
    let settled = c.in_ok-is_settled_by.field-0 in
    let joined : Bool → List Disputed =
    λ settled. if settled then olds else join_last olds (stored_entry row) in
    let more : shown c.if-not-branch.found ≡ joined settled =
    elim c.if-not-branch.branch [
      | then-not-branch+in_ok-join w ↦
          ap shown w.found-is ∙ w.in_ok-join.ensures.joined
          ∙ sym (ap joined w.if-not-branch.true)
      | else-not-branch w ↦ ap shown w.found-is ∙ sym (ap joined w.if-not-branch.false)
    ] in
    record {
      saw = saw_so (saw_then c.loop-stored.invariant.saw
          (saw_found c.in_ok-is_settled_by.ensures.looks))
          (λ tables known lasts.
          grouped_more (is_unsettled tables) rows at row olds
          (shown c.if-not-branch.found) settled c.loop-stored-test.true c.stored-item.is
          (ap not (known.1 lasts ∙ ap (is_settled_in tables) c.deref.ensures.value)
          ∙ sym (unsettled_is tables (stored_entry row))) more (known.0 lasts));
      shown = elim c.if-not-branch.branch [
        | then-not-branch+in_ok-join w ↦
            subst (λ (found : Vec Dispute Global). AreDisputes (shown found)) (sym w.found-is)
            (w.in_ok-join.ensures.shown
            (subst (λ (row : StoredRecord). IsShownRow (stored_entry row)) (sym c.stored-item.is)
            (c.requires.shown at row c.loop-stored-test.true))
            c.loop-stored.invariant.shown)
        | else-not-branch w ↦
            subst (λ (found : Vec Dispute Global). AreDisputes (shown found)) (sym w.found-is)
            c.loop-stored.invariant.shown
      ];
    }

-- all of them
pub returns-clause-looks : goal.returns-clause-looks
returns-clause-looks g c =
    looks_known c.loop-stored.invariant.saw (λ tables known lasts.
    known lasts
    ∙ ap (λ (rows : List StoredRecord). grouped (filter (is_unsettled tables)
    (map stored_entry rows)))
    (take_all c.loop-stored.stored-index c.args.rows.now c.loop-stored-test.false))

-- a look that fails leaves all as it was
pub returns-in_err-is_settled_by-clause-looks : goal.returns-in_err-is_settled_by-clause-looks
returns-in_err-is_settled_by-clause-looks g c =
    look_refused _ c.from_residual.ensures.0 c.loop-stored.invariant.saw
    c.in_err-is_settled_by.ensures.looks

pub returns-in_err-join-clause-looks : goal.returns-in_err-join-clause-looks
returns-in_err-join-clause-looks g c =
    look_given_up _ c.from_residual-in_err-join.ensures.0
    (saw_then c.loop-stored.invariant.saw (saw_found c.in_ok-is_settled_by.ensures.looks))
