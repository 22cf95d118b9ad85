use Rattle.std.proofs.Common.{List, subst, sym}
use Rattle.table_model.proofs.PostedRows.{posted_alike}
use Rattle.table_model.specs.Words.{PostsTouched}
use Rattle.table_ledger.proofs.Words.{ListsLines, StoredLine, names_in}
use Rattle.table_ledger.proofs.PostedDetails.{rest_posted}
use Rattle.table_ledger.proofs.StageLemmas.{does_seen}
use Rattle.table_ledger.proofs.StepLemmas.{does_so, does_then}
use Rattle.table_ledger.proofs.TryLemmas.{saw_found, saw_then}
use Rattle.table_ledger.proofs.close.post_charged.Goals as goal

-- the records of the lines, and then those that are counted
pub returns : goal.returns
returns g c =
    let close = c.args.close.now in
    let last = c.args.last in
    let all = c.deref.result.now in
    does_seen {When = PostsTouched close.period last} c.post_details.result
    (saw_then (saw_found c.in_ok-counts_many.ensures) (saw_found c.in_ok-lines.ensures.looks))
    (does_so c.post_details.result
    (does_then {When = λ tables. PostsTouched close.period last tables
    × ListsLines close.period tables all} c.post_details.result
    c.in_ok-post_lines.ensures c.post_details.ensures
    (λ tables known. (
      tt,
      rest_posted close.period last close.through tables all known.0 known.1,
    )))
    (λ tables known. (
      (
        known.0,
        subst (λ (lines : List StoredLine). ListsLines close.period tables lines)
            (sym c.deref.ensures.value) known.1.1,
      ),
      posted_alike close.through (names_in all) tables,
    )))
