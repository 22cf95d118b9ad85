-- The records of a dump, one by one.
use Rattle.std.proofs.Common.{◌≡◌, ◌<◌, ◌∙◌, ℕ, List, [], All, Global, Vec, ap, get_or, length, subst}
use Rattle.std.proofs.Common.{sym}
use Rattle.std.proofs.lemmas.List.{get_or-map, length-map}
use Rattle.book_model.specs.Words.{IsFramed, texts}

-- a record of some that are framed is framed
pub framed_at : (records : List (Vec ℕ Global)) (i : ℕ) (record_ : Vec ℕ Global)
    → i < length records → record_ ≡ get_or records i record_ → All IsFramed (texts records)
    → IsFramed record_.items
framed_at records i record_ within is framed =
    subst IsFramed
    (get_or-map (λ v. v.items) records i record_ [] within ∙ ap (λ v. v.items) (sym is))
    (framed i [] (simp length-map (within)))
