use Rattle.book_http.proofs.PeriodLemmas.{stripped}
use Rattle.book_http.proofs.route.path_rest.Goals as goal

pub returns : goal.returns
returns c = stripped c.args.prefix.now c.args.path.now c.strip_prefix.result c.strip_prefix.ensures.cases
