use Rattle.std.proofs.Common.{◌≡◌, ◌∙◌, ap, length, nat_lt, rules, sym, vec_len}
use Rattle.book_model.proofs.Std.{length-map}
use Rattle.book_model.specs.Words.{credit_shown}
use Rattle.bill_texts.proofs.bill_sheets.has_credits.Goals as goal

-- as many credits are shown as the bill has
pub returns : goal.returns
returns c =
    let credits = c.args.bill.now.credits in
    let count : vec_len credits ≡ length credits.items = search rules in
    ap (nat_lt 0) (c.len.ensures ∙ count ∙ sym (length-map credits.items credit_shown))
