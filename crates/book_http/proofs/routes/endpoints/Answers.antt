use Rattle.std.proofs.Common.{◌≡◌, IfOk, subst}
use Rattle.book_http.specs.Routes.{route_rows, rows_with}
use Rattle.book_http.proofs.routes.endpoints.Goals as goal

pub returns : goal.returns
unfolding route_rows
returns c =
    subst (λ names. IfOk c.router_with.result (λ router. router ≡ rows_with names))
    c.all_reports.ensures c.router_with.ensures
