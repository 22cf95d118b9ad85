use Rattle.std.proofs.Common.{refl}
use Rattle.table_ledger.proofs.CommitLemmas.{committed, uncommitted}
use Rattle.table_ledger.proofs.EndTries.{end_is_event, end_nothing}
use Rattle.table_ledger.proofs.StageLemmas.{stage_steps}
use Rattle.table_ledger.proofs.TryLemmas.{saw_found, saw_none, try_refused}
use Rattle.table_ledger.proofs.ends.try_end.Goals as goal

-- no import goes on
pub returns-in_default : goal.returns-in_default
returns-in_default g c = record {
  tries =
      λ naming.
      end_nothing naming c.args.summary.now c.args.stop c.in_ok-newest.newest c.newest_joined.result
      c.newest_joined.ensures c.in_default.is (saw_found c.in_ok-newest.ensures);
}

-- the commit is refused
pub returns-in_err-commit_written : goal.returns-in_err-commit_written
returns-in_err-commit_written g c = record {
  tries =
      λ naming.
      uncommitted g.S.Store _ _ c.from_residual-in_err-commit_written.ensures.0
      (stage_steps _ (saw_found c.in_ok-newest.ensures) c.write_end-written.ensures.does
      (λ book at known. end_is_event naming c.args.summary.now c.args.stop c.in_ok-newest.newest
      c.newest_joined.result c.newest_joined.ensures c.in-Some.joined c.in-Some.is book at known))
      c.in_err-commit_written.ensures (λ book same. same);
}

-- the import is ended
pub returns : goal.returns
returns g c = record {
  tries =
      λ naming.
      committed g.S.Store
      (stage_steps _ (saw_found c.in_ok-newest.ensures) c.write_end-written.ensures.does
      (λ book at known. end_is_event naming c.args.summary.now c.args.stop c.in_ok-newest.newest
      c.newest_joined.result c.newest_joined.ensures c.in-Some.joined c.in-Some.is book at known))
      c.in_ok-commit_written.ensures
      (record {
        rulings = refl;
        choices = refl;
        replaced = refl;
        credits = refl;
        held = refl;
        total = refl;
      });
}

-- what is not read leaves all as it was
pub returns-in_err-newest : goal.returns-in_err-newest
returns-in_err-newest g c = record {
  tries = λ naming. try_refused _ c.from_residual.ensures.0 saw_none c.in_err-newest.ensures;
}
