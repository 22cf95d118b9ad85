use Rattle.std.proofs.Common.{[], ◌∷◌, ◌∙◌, ap, slice_index_or}
use Rattle.std.specs.List.{swap_remove}
use Rattle.std.proofs.lemmas.List.{get_or_append_left}
use Rattle.book_core.proofs.RulingLemmas.{last_into}
use Rattle.book_core.proofs.accepted_tariff.put_in_place.Goals as goal

pub returns-clause-was : goal.returns-clause-was
returns-clause-was c =
    c.swap_remove.ensures.value
    ∙ ap (λ tariffs. slice_index_or tariffs c.args.place c.swap_remove.result)
    c.push_reserved.ensures.items
    ∙ get_or_append_left c.args.tariffs.now.items (c.args.accepted ∷ []) c.swap_remove.result
    c.args.place c.requires.within

pub returns-clause-put : goal.returns-clause-put
returns-clause-put c =
    c.swap_remove.ensures.items
    ∙ ap (λ tariffs. swap_remove tariffs c.args.place c.swap_remove.result)
    c.push_reserved.ensures.items
    ∙ last_into c.args.tariffs.now.items c.args.accepted c.swap_remove.result c.args.place
    c.requires.within
