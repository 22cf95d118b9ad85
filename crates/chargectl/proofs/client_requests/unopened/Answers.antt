use Rattle.std.proofs.Common.{List, ap, reverse}
use Rattle.book_http.specs.declared.served.Served.{Served}
use Rattle.chargectl.specs.ClientRequests.{all_behind}
use Rattle.chargectl.proofs.client_requests.unopened.Goals as goal

pub returns-clause-later : goal.returns-clause-later
returns-clause-later c =
    ap (λ (later : List Served). all_behind c.args.served (reverse later)) c.new.ensures.items
