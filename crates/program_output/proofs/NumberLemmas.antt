-- No two numbers of a kind have the same meaning.
use Rattle.std.proofs.Common.{◌≡◌, ◌∙◌, ℕ, zero, suc, ◌-◌, ◌==◌, List, [], ◌∷◌, refl, sym, ap}
use Rattle.std.proofs.Common.{arith, Bool, true, false, not, ◌&&◌, if◌then◌else◌, Some, None}
use Rattle.std.proofs.Common.{slice_get, bytes_eq}
use Rattle.std.proofs.lemmas.Slice.Eq.{bytes_eq-Decides}
use Rattle.book_model.proofs.Std.{list_any, same_Some, none-some}
use Rattle.program_output.specs.Explanations.{MeaningsFixNumbers, NumbersAreOneToOne, texts_of}
use Rattle.program_output.specs.Meanings.{Texts, frame_texts, ledger_texts, tariff_texts}
use Rattle.program_output.specs.Meanings.{damage_texts}

-- these texts have that meaning
means : List ℕ → Texts → Bool
means meaning texts = bytes_eq meaning texts.0

-- no texts of the list mean what later ones do
are_distinct : List Texts → Bool
are_distinct [] = true
are_distinct (texts ∷ rest) = not (list_any (means texts.0) rest) && are_distinct rest

-- a meaning that stands in a list is found in it
is_found : (meaning : List ℕ) (list : List Texts) (place : ℕ) (texts : Texts)
    → slice_get list place ≡ Some texts → meaning ≡ texts.0 → list_any (means meaning) list ≡ true
unfolding means
is_found meaning [] place texts at same = absurd (none-some texts at)
is_found meaning (first ∷ rest) zero texts at same =
    let first_means =
    (bytes_eq-Decides meaning first.0).1
    (same ∙ ap (λ one. one.0) (sym (same_Some first texts at))) in
    grind (arith, first_means)
is_found meaning (first ∷ rest) (suc place) texts at same =
    grind (arith, is_found meaning rest place texts at same)

-- in a list of distinct meanings each one stands at one place
one_place : (list : List Texts) (place other : ℕ) (texts others : Texts)
    → are_distinct list ≡ true
    → slice_get list place ≡ Some texts → slice_get list other ≡ Some others
    → texts.0 ≡ others.0 → place ≡ other
unfolding are_distinct
one_place [] place other texts others distinct at other_at same = absurd (none-some texts at)
one_place (first ∷ rest) zero zero texts others distinct at other_at same = refl
one_place (first ∷ rest) zero (suc other) texts others distinct at other_at same =
    let found = is_found first.0 rest other others other_at
    (ap (λ one. one.0) (same_Some first texts at) ∙ same) in
    absurd (grind (arith, found, distinct))
one_place (first ∷ rest) (suc place) zero texts others distinct at other_at same =
    let found = is_found first.0 rest place texts at
    (ap (λ one. one.0) (same_Some first others other_at) ∙ sym same) in
    absurd (grind (arith, found, distinct))
one_place (first ∷ rest) (suc place) (suc other) texts others distinct at other_at same =
    let rest_distinct : are_distinct rest ≡ true = grind (arith, distinct) in
    ap suc (one_place rest place other texts others rest_distinct at other_at same)

-- texts of a number stand one place before it in the list
its_place : (number : ℕ) (list : List Texts) (texts : Texts) → texts_of number list ≡ Some texts
    → (number ≡ suc (number - 1)) × (slice_get list (number - 1) ≡ Some texts)
its_place zero list texts at = absurd (none-some texts at)
its_place (suc before) list texts at =
    let found = slice_get list (suc before - 1) in
    let positive : (suc before == 0) ≡ false = grind (arith) in
    (omega arith, ap (λ absent. if absent then None else found) (sym positive) ∙ at)

-- in such a list two numbers with the same meaning are the same
fix_numbers : (list : List Texts) → are_distinct list ≡ true → MeaningsFixNumbers list
fix_numbers list distinct number other meaning advice other_advice at other_at =
    let place = its_place number list (meaning, advice) at in
    let other_place = its_place other list (meaning, other_advice) other_at in
    let same =
    one_place list (number - 1) (other - 1) (meaning, advice) (meaning, other_advice)
    distinct place.1 other_place.1 refl in
    place.0 ∙ ap suc same ∙ sym other_place.0

-- the law of it
pub numbers_are_one_to_one : NumbersAreOneToOne
unfolding are_distinct means frame_texts ledger_texts tariff_texts damage_texts
numbers_are_one_to_one = record {
  frames = fix_numbers frame_texts refl;
  ledgers = fix_numbers ledger_texts refl;
  tariffs = fix_numbers tariff_texts refl;
  damages = fix_numbers damage_texts refl;
  counts = (refl, refl, refl, refl);
}
