use Rattle.std.proofs.Common.{◌≡◌, take}
use Rattle.book_http.specs.Routes.{rows_of}
use Rattle.book_http.proofs.routes.router_of.Given as goal

-- the endpoints so far are put in
abbrev pub invariant-loop-place : goal.invariant-loop-place
invariant-loop-place l = l.router ≡ rows_of (take l.place-index l.places)
