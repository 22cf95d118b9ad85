-- The first text that was replaced, after one more ruling.
use Rattle.std.proofs.Common.{◌≡◌, ◌∙◌, ℕ, List, [], ◌∷◌, ◌++◌, Option, Some, None, ap, filter_map, refl}
use Rattle.std.proofs.Common.{slice_get}
use Rattle.std.specs.List.{cons_option}
use Rattle.book_model.proofs.Std.{filter_map-append}
use Rattle.book_reports.specs.ReplacedTexts.{or_later}

-- the first of two lists
first_of_both : (some others : List (List ℕ))
    → slice_get (some ++ others) 0 ≡ or_later (slice_get some 0) (slice_get others 0)
first_of_both [] others = refl
first_of_both (text ∷ more) others = refl

first_of_one : (found : Option (List ℕ)) → slice_get (cons_option found []) 0 ≡ found
first_of_one None = refl
first_of_one (Some text) = refl

-- what is said of the first ruling, or of the next one
pub first_more : {X : Type 0} (say : X → Option (List ℕ)) (read : List X) (item : X)
    → slice_get (filter_map say (read ++ item ∷ [])) 0
    ≡ or_later (slice_get (filter_map say read) 0) (say item)
first_more say read item =
    ap (λ (texts : List (List ℕ)). slice_get texts 0) (filter_map-append say read (item ∷ []))
    ∙ first_of_both (filter_map say read) (cons_option (say item) [])
    ∙ ap (or_later (slice_get (filter_map say read) 0)) (first_of_one (say item))
