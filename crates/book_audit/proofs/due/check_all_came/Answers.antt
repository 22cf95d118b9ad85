use Rattle.std.proofs.Common.{◌≡◌, ◌∙◌, rules, sym, true}
use Rattle.book_audit.proofs.due.check_all_came.Goals as goal

pub returns : goal.returns
returns c =
    let empty : c.is_empty.result ≡ true = search rules in
    sym c.is_empty.ensures ∙ empty
