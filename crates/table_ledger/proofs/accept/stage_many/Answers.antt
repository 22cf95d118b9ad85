use Rattle.std.proofs.Common.{◌∙◌, Ok, subst, sym}
use Rattle.book_core.specs.Words.{records_in}
use Rattle.book_core.proofs.SubmissionLemmas.{some_in}
use Rattle.table_ledger.specs.Stages.{StagesJoined}
use Rattle.table_ledger.proofs.GroupStages.{group_as_one, group_failed, none_as_one}
use Rattle.table_ledger.proofs.ManyLemmas.{none_left}
use Rattle.table_ledger.proofs.StageLemmas.{stage_unseen}
use Rattle.table_ledger.proofs.TryLemmas.{saw_found, saw_none}
use Rattle.table_ledger.proofs.Words.{state}
use Rattle.table_ledger.proofs.accept.stage_many.Goals as goal

-- the newest entry was not found
pub returns-in_err-newest-clause-stages : goal.returns-in_err-newest-clause-stages
returns-in_err-newest-clause-stages g c =
    stage_unseen _ c.from_residual-in_err-newest.ensures.0 saw_none c.in_err-newest.ensures

-- the store refused
pub returns-in_err-told-clause-stages : goal.returns-in_err-told-clause-stages
returns-in_err-told-clause-stages g c =
    group_failed _ _ _ _ _ _ _ _ _ _ c.joined_of-joined.result (saw_found c.in_ok-newest.ensures) c.joined_of-joined.ensures
    c.from_residual-in_err-told.result c.from_residual-in_err-told.ensures.0
    c.in_err-told.ensures.stages

pub returns-in_default-clause-stages : goal.returns-in_default-clause-stages
returns-in_default-clause-stages g c =
    group_as_one _ _ _ _ _ _ _ _ _ _ c.joined_of-joined.result (saw_found c.in_ok-newest.ensures) c.joined_of-joined.ensures
    c.stage_joined.new.answers c.in_ok-told.ensures.stages

pub returns-then-is_empty-clause-stages : goal.returns-then-is_empty-clause-stages
returns-then-is_empty-clause-stages g c =
    let answers = c.stage_joined.new.answers in
    none_as_one _ _ _ _ _ _ _ _ _ _ c.joined_of-joined.result (saw_found c.in_ok-newest.ensures)
    c.joined_of-joined.ensures c.in-Err.fault
    (none_left answers.items answers.len answers.ok.0 (sym c.is_empty.ensures ∙ c.if-is_empty.true))
    (some_in c.args.records.now c.requires.some)
    (subst (λ told. StagesJoined c.joined_of-joined.result (g.N.Naming.name_of c.args.naming.now)
    c.args.import.now c.args.count (records_in c.args.records.now) c.args.summary.now
    c.stage_joined.new.summary (state g.S.Store c.newest_entry.new.tables.store)
    (state g.S.Store c.stage_joined.new.tables.store) answers.items (Ok told)) c.in-Err.is
    c.in_ok-told.ensures.stages)

pub returns-clause-stages : goal.returns-clause-stages
returns-clause-stages g c =
    group_as_one _ _ _ _ _ _ _ _ _ _ c.joined_of-joined.result (saw_found c.in_ok-newest.ensures) c.joined_of-joined.ensures
    c.stage_joined.new.answers c.in_ok-told.ensures.stages
