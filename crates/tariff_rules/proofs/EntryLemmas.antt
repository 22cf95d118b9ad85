-- The entries of an array.
use Rattle.std.proofs.Common.{◌≡◌, Option, List, [], ◌∷◌, map, refl, ap}
use Rattle.std.proofs.lemmas.List.{length-map}
use Rattle.std.proofs.lemmas.List.Folds.{list_all-map}
use Rattle.std.specs.List.{cons_option, filter_map}
use Rattle.toml.specs.View.{items_view, view}
use Rattle.toml.specs.declared.value.Value.{Value}
use Rattle.tariff_rules.specs.Document.{list_of}

-- an array's entries are what its values stand for
pub list_of_items_view : (values : List Value) → list_of (items_view values) ≡ map view values
list_of_items_view [] = refl
list_of_items_view (value ∷ values) = ap (λ rest. view value ∷ rest) (list_of_items_view values)

-- what is picked from the images is what is picked from the items by their images
pub filter_map-map : {X Y Z : Type 0} (f : Y → Option Z) (g : X → Y) (xs : List X)
    → filter_map f (map g xs) ≡ filter_map (λ x. f (g x)) xs
filter_map-map f g [] = refl
filter_map-map f g (x ∷ xs) = ap (cons_option (f (g x))) (filter_map-map f g xs)

-- the lemmas on what a list of entries says
pub ruleset entry_lemmas = (length-map, list_all-map, filter_map-map, list_of_items_view)
