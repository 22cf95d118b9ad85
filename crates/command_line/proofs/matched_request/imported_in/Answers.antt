use Rattle.std.proofs.Common.{◌∙◌, ap, codes, inl, inr, is_some, refl, subst, sym}
use Rattle.command_line.specs.Requests.{IsDryRun, IsFlag, rows_in}
use Rattle.command_line.proofs.matched_request.imported_in.Goals as goal

-- it is not said that none of the works counts
pub returns-then-not-withheld-clause-request : goal.returns-then-not-withheld-clause-request
returns-then-not-withheld-clause-request c = λ no_dump given. (
  refl,
  no_dump,
  ap is_some given,
  inl (subst (IsFlag (rows_in c.args.found.now) (codes "none")) c.if-not-withheld.true
      c.in_ok-withheld.ensures.flag),
)

-- or it is a dry run
pub returns-then-tried-clause-request : goal.returns-then-tried-clause-request
returns-then-tried-clause-request c = λ no_dump given. (
  refl,
  no_dump,
  ap is_some given,
  inr (inl (subst (IsDryRun (rows_in c.args.found.now)) c.if-tried.true c.in_ok-tried.ensures.flag)),
)

-- or records are named beside the import
pub returns-then-names_some-clause-request : goal.returns-then-names_some-clause-request
returns-then-names_some-clause-request c = λ no_dump given. (
  refl,
  no_dump,
  ap is_some given,
  inr (inr (sym c.names_some.ensures ∙ c.if-names_some.true)),
)

pub returns-clause-request : goal.returns-clause-request
returns-clause-request c =
    λ no_dump given.
    let rows = rows_in c.args.found.now in
    c.of_books_in.ensures.request (codes "choose") (
      refl,
      no_dump,
      given,
      sym c.names_some.ensures ∙ c.if-names_some.false,
      subst (IsFlag rows (codes "none")) c.if-not-withheld.false c.in_ok-withheld.ensures.flag,
      subst (IsDryRun rows) c.if-tried.false c.in_ok-tried.ensures.flag,
    )
