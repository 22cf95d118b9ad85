use Rattle.std.proofs.Common.{◌∙◌, ap, map, min, rules, sym, unwrap_or}
use Rattle.std.proofs.lemmas.Iterator.Consumers.{min_from_yields_List}
use Rattle.book_model.proofs.Std.{reduce}
use Rattle.book_model.specs.Words.{amount_for}
use Rattle.book_reports.proofs.Words.{YieldsList-from_map, YieldsList-from_slice, option_map_id}
use Rattle.book_reports.proofs.held_back.least_for.Goals as goal

pub returns : goal.returns
returns c =
    let cost = amount_for c.args.centre.now in
    c.unwrap_or.ensures
    ∙ ap (λ found. unwrap_or found 0)
    (sym (option_map_id _)
    ∙ min_from_yields_List _ _ c.min-least.ensures.ran
    (YieldsList-from_map _ cost (YieldsList-from_slice c.as_slice-members.result.now cc)
    c.map.ensures.closure (λ x r q k. search rules)))
    ∙ ap (λ members. unwrap_or (reduce min (map cost members)) 0) c.as_slice-members.ensures.value
