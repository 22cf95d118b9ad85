use Rattle.std.proofs.Common.{rules, ◌≡◌, ◌∙◌, None}
use Rattle.book_http.specs.Routes as spec
use Rattle.book_http.proofs.RouteLemmas.{path_found, route_found}
use Rattle.book_http.proofs.route.find_route.Goals as goal

pub returns-in-Some-clause-served : goal.returns-in-Some-clause-served
returns-in-Some-clause-served c =
    let value : c.route_at.result ≡ spec.route (spec.path_of c.args.target.now) = search rules in
    rw value (route_found (spec.path_of c.args.target.now))

pub returns-in-Some-clause-finds : goal.returns-in-Some-clause-finds
returns-in-Some-clause-finds c asked it =
    let value : c.route_at.result ≡ spec.route (spec.path_of c.args.target.now) = search rules in
    value ∙ path_found (spec.path_of c.args.target.now) asked it

pub returns-in-None-clause-finds : goal.returns-in-None-clause-finds
returns-in-None-clause-finds c asked it =
    let value : None ≡ spec.route (spec.path_of c.args.target.now) = search rules in
    value ∙ path_found (spec.path_of c.args.target.now) asked it
