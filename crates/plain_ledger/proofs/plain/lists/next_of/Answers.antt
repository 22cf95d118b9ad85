use Rattle.std.proofs.Common.{◌≡◌, ◌∙◌, ◌<◌, ◌+◌, ℕ, Bool, cond, List, ◌∷◌, length, get_or, drop}
use Rattle.std.proofs.Common.{ap, sym, Option, Some}
use Rattle.std.proofs.lemmas.List.{at_drop_more}
use Rattle.book_model.specs.declared.detail.Detail.{Detail}
use Rattle.plain_ledger.specs.PlainDetails.{is_sought, next_among}

-- the first of those that are left is the next one, if that is sought, or the first of those after it
one_on : (centre : Option (List ℕ)) (last : Option Detail) (details : List Detail) (i : ℕ)
    (detail : Detail) (passes : Bool) → i < length details → detail ≡ get_or details i detail
    → is_sought centre last detail ≡ passes
    → next_among centre last (drop i details)
    ≡ cond passes (Some detail) (next_among centre last (drop (i + 1) details))
one_on centre last details i detail passes within is sought =
    let rest = drop (i + 1) details in
    at_drop_more (next_among centre last) details i detail within
    ∙ ap (λ (one : Detail). next_among centre last (one ∷ rest)) (sym is)
    ∙ ap (λ b. cond b (Some detail) (next_among centre last rest)) sought
