use Rattle.std.proofs.Common.{◌∙◌, sym}
use Rattle.std.proofs.lemmas.List.{length-map}
use Rattle.plain_ledger.specs.Choices.{choice_of}
use Rattle.plain_ledger.proofs.plain.PlainBooks.choice_count.Goals as goal

pub returns : goal.returns
returns g c =
    let all = c.args.self.now.choices in
    c.len.ensures ∙ all.ok.0 ∙ sym (length-map all.items choice_of)
