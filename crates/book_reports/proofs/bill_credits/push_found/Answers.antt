use Rattle.std.proofs.Common.{◌∙◌, ◌++◌, [], Option, ap, append-nil, map, option_map, sym}
use Rattle.std.specs.List.{cons_option}
use Rattle.book_model.specs.Words.{credit_shown}
use Rattle.book_model.specs.declared.bill.Credit.{Credit}
use Rattle.book_reports.proofs.Words.{map_push}
use Rattle.book_reports.proofs.bill_credits.push_found.Goals as goal

pub returns-in_default : goal.returns-in_default
returns-in_default c =
    let old = map credit_shown c.args.credits.now.items in
    sym (append-nil old)
    ∙ ap (λ (found : Option Credit). old ++ cons_option (option_map credit_shown found) [])
    (sym c.in_default.is)

pub returns : goal.returns
returns c =
    let old = map credit_shown c.args.credits.now.items in
    ap (map credit_shown) c.in_ok-push.ensures.items
    ∙ sym (map_push credit_shown c.args.credits.now.items c.in-Some.credit)
    ∙ ap (λ (found : Option Credit). old ++ cons_option (option_map credit_shown found) [])
    (sym c.in-Some.is)
