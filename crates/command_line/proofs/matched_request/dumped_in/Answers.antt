use Rattle.std.proofs.Common.{◌∙◌, ap, codes, inl, inr, is_some, refl, subst, sym}
use Rattle.command_line.specs.Requests.{IsDryRun, IsFlag, rows_in}
use Rattle.command_line.proofs.matched_request.dumped_in.Goals as goal

-- it is not said that none of the works counts
pub returns-then-not-none-clause-request : goal.returns-then-not-none-clause-request
returns-then-not-none-clause-request c = λ given. (
  refl,
  ap is_some given,
  inl (subst (IsFlag (rows_in c.args.found.now) (codes "none")) c.if-not-none.true
      c.in_ok-none.ensures.flag),
)

-- or it is a dry run
pub returns-then-tried-clause-request : goal.returns-then-tried-clause-request
returns-then-tried-clause-request c = λ given. (
  refl,
  ap is_some given,
  inr (inl (subst (IsDryRun (rows_in c.args.found.now)) c.if-tried.true c.in_ok-tried.ensures.flag)),
)

-- or records are named beside the dump
pub returns-then-names_others-clause-request : goal.returns-then-names_others-clause-request
returns-then-names_others-clause-request c = λ given. (
  refl,
  ap is_some given,
  inr (inr (sym c.names_others.ensures ∙ c.if-names_others.true)),
)

pub returns-clause-request : goal.returns-clause-request
returns-clause-request c =
    λ given.
    let rows = rows_in c.args.found.now in
    c.of_books_in.ensures.request (codes "choose") (
      refl,
      given,
      c.in_ok-layout.ensures.layout,
      sym c.names_others.ensures ∙ c.if-names_others.false,
      subst (IsFlag rows (codes "none")) c.if-not-none.false c.in_ok-none.ensures.flag,
      subst (IsDryRun rows) c.if-tried.false c.in_ok-tried.ensures.flag,
    )
