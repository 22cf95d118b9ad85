use Rattle.std.proofs.Common.{◌∙◌, sym}
use Rattle.std.proofs.lemmas.List.{length-map}
use Rattle.book_model.specs.Words.{credit_shown}
use Rattle.plain_ledger.specs.Choices.{choice_of}
use Rattle.plain_ledger.proofs.plain.PlainBooks.ruling_counts.Goals as goal

pub returns-clause-choices : goal.returns-clause-choices
returns-clause-choices g c =
    let choices = c.args.self.now.choices in
    c.len.ensures ∙ choices.ok.0 ∙ sym (length-map choices.items choice_of)

pub returns-clause-credits : goal.returns-clause-credits
returns-clause-credits g c =
    let credits = c.args.self.now.credits in
    c.len-2.ensures ∙ credits.ok.0 ∙ sym (length-map credits.items credit_shown)
