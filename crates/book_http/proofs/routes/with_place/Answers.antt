use Rattle.std.proofs.Common.{◌≡◌, IfOk, subst}
use Rattle.book_http.specs.Routes.{with_front}
use Rattle.book_http.proofs.routes.with_place.Goals as goal

pub returns-in-Some : goal.returns-in-Some
returns-in-Some c =
    subst
    (λ front. IfOk c.with_front.result (λ more. more ≡ with_front c.args.place front c.args.router))
    c.in-Some.ensures c.with_front.ensures
