use Rattle.std.proofs.Common.{◌∙◌, Err, ap, inl, inr, refl, subst}
use Rattle.std.specs.IoError.{error_kind}
use Rattle.streams.specs.Failures.{HasFailed}
use Rattle.without_books.specs.Faults.{without_log}
use Rattle.without_books.specs.Reading.{Lists}
use Rattle.without_books.specs.declared.command_fault.CommandFault.{CommandFault}
use Rattle.without_books.proofs.checks.check.Goals as goal

-- what the reader had is what the file holds
pub returns-in-Ok : goal.returns-in-Ok
returns-in-Ok g c =
    let contents = g.O.Write.contents in
    let listed = c.list_dump-listed in
    inl (subst (λ had. Lists c.args.dump.layout c.args.dump.whole c.args.names had
    (contents c.args.output) (contents listed.result.1)
    (∥ HasFailed g.O.Writer.may_answer listed.result.1 ∥₁) listed.result.0)
    c.in-Ok.ensures listed.ensures)

-- a file that is not opened
pub returns-in-Err : goal.returns-in-Err
returns-in-Err g c = inr (record {
  why = error_kind c.in-Err.error;
  none = refl;
  ends = c.without_log.ensures
      ∙ ap (λ (fault : CommandFault). without_log (Err fault)) c.from.ensures;
})
