use Rattle.std.proofs.Common.{◌∙◌, Global, List, String, ap, filter_map, map, option_map, slice_get}
use Rattle.std.proofs.Common.{string_bytes, sym}
use Rattle.book_model.specs.Words.{RulingSeen, ruling_shown}
use Rattle.book_reports.specs.ReplacedTexts.{or_later, replaced_in}
use Rattle.book_reports.proofs.ReplacedTextLemmas.{first_more}
use Rattle.book_reports.proofs.Words.{map_push}
use Rattle.book_reports.proofs.replaced_texts.ReplacedStepStepListedRuling.add.Goals as goal

-- with one more ruling
pub returns-clause-added : goal.returns-clause-added
returns-clause-added c rulings is =
    let day = c.args.self.now.day in
    let digest = c.args.self.now.digest in
    let ruling = c.args.ruling.now in
    let had = ap (option_map (λ (text : String Global). string_bytes text)) c.take.ensures.value ∙ is in
    c.or_later.ensures
    ∙ (λ i. or_later (had i) (c.in_ok-later.ensures i))
    ∙ sym (first_more (replaced_in day digest) (map ruling_shown rulings) (ruling_shown ruling))
    ∙ ap (λ (all : List RulingSeen). slice_get (filter_map (replaced_in day digest) all) 0)
    (map_push ruling_shown rulings ruling)
