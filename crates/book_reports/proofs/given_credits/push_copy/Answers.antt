use Rattle.std.proofs.Common.{◌∙◌, ◌++◌, [], ◌∷◌, ap, map, sym}
use Rattle.book_model.specs.Words.{Credit, credit_shown}
use Rattle.book_reports.proofs.Words.{map_push}
use Rattle.book_reports.proofs.given_credits.push_copy.Goals as goal

pub returns : goal.returns
returns c =
    let old = c.args.credits.now.items in
    ap (map credit_shown) c.in_ok-push.ensures.items
    ∙ sym (map_push credit_shown old c.in_ok-copy.copy)
    ∙ ap (λ (one : Credit). map credit_shown old ++ one ∷ []) c.in_ok-copy.ensures
