use Rattle.std.proofs.Common.{◌∙◌, ap}
use Rattle.book_http.specs.declared.method.Method.{Method}
use Rattle.book_http.specs.Asked.{asked_body, asked_of, due_size}
use Rattle.book_http.proofs.asked.asked_on.Goals as goal

pub returns-in-Ok-clause-asked : goal.returns-in-Ok-clause-asked
returns-in-Ok-clause-asked c =
    c.asked_of.ensures.asked
    ∙ ap (asked_body (asked_of c.args.place c.args.thing))
    (c.in-Ok.ensures.size
    ∙ ap (λ (method : Method). due_size method c.args.has_origin c.args.framing) c.method_of.ensures)

pub returns-in-Err-clause-asked : goal.returns-in-Err-clause-asked
returns-in-Err-clause-asked c =
    ap (asked_body (asked_of c.args.place c.args.thing))
    (c.in-Err.ensures.size
    ∙ ap (λ (method : Method). due_size method c.args.has_origin c.args.framing) c.method_of.ensures)

pub returns-in-Ok-clause-limit : goal.returns-in-Ok-clause-limit
returns-in-Ok-clause-limit c = c.asked_of.ensures.limit c.in-Ok.ensures.limit
