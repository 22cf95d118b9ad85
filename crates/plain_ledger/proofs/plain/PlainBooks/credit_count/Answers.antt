use Rattle.std.proofs.Common.{◌∙◌, sym}
use Rattle.std.proofs.lemmas.List.{length-map}
use Rattle.book_model.specs.Words.{credit_shown}
use Rattle.plain_ledger.proofs.plain.PlainBooks.credit_count.Goals as goal

pub returns : goal.returns
returns g c =
    let all = c.args.self.now.credits in
    c.len.ensures ∙ all.ok.0 ∙ sym (length-map all.items credit_shown)
