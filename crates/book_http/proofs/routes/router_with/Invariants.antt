use Rattle.std.proofs.Common.{◌≡◌, take}
use Rattle.book_http.specs.Routes.{rows_with}
use Rattle.book_http.proofs.routes.router_with.Given as goal

-- the reports so far are put in
abbrev pub invariant-loop-name : goal.invariant-loop-name
invariant-loop-name l = l.router ≡ rows_with (take l.name-index l.names)
