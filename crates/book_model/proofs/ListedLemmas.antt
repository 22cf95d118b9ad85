-- What stands at a number of the list of rulings: the list is made of six parts, one after another.
use Rattle.std.proofs.Common.{◌≡◌, ◌∙◌, ◌+◌, ◌<◌, ℕ, zero, suc, List, [], ◌∷◌, ◌++◌, length, Some}
use Rattle.std.proofs.Common.{refl, ap, append_assoc, arith, ℤ, slice_get, option_map}
use Rattle.book_model.specs.Words.{Naming, Choice, Credit, Rulings, CloseSeen, adoption_seen}
use Rattle.book_model.specs.Words.{all_replaced_seen, choice_seen, choices_seen, closes_seen}
use Rattle.book_model.specs.Words.{credit_seen, credits_seen, rulings_listed, tariffs_seen}

-- an element of two lists, one after the other, is one of the first,
pub slice_get-left : {X : Type 0} (xs ys : List X) (k : ℕ) → k < length xs
    → slice_get (xs ++ ys) k ≡ slice_get xs k
slice_get-left [] ys k within = absurd (omega arith)
slice_get-left (x ∷ xs) ys zero within = refl
slice_get-left (x ∷ xs) ys (suc k) within = slice_get-left xs ys k (omega arith)

-- or, past all of those, one of the other
pub slice_get-right : {X : Type 0} (xs ys : List X) (k rest : ℕ) → k ≡ length xs + rest
    → slice_get (xs ++ ys) k ≡ slice_get ys rest
slice_get-right [] ys k rest is = let same : k ≡ rest = omega arith in ap (slice_get ys) same
slice_get-right (x ∷ xs) ys zero rest is = absurd (omega arith)
slice_get-right (x ∷ xs) ys (suc k) rest is = slice_get-right xs ys k rest (omega arith)

-- the six parts, each before all that come after it
pub in_turn : (naming : Naming) (rulings : Rulings)
    → rulings_listed naming rulings
    ≡ tariffs_seen rulings.tariffs ++ (closes_seen 1 rulings.closes
    ++ (choices_seen naming 1 rulings.choices ++ (adoption_seen rulings.adopted
    ++ (all_replaced_seen rulings.replaced ++ credits_seen 1 rulings.credits))))
in_turn naming rulings =
    let tariffs = tariffs_seen rulings.tariffs in
    let closes = closes_seen 1 rulings.closes in
    let choices = choices_seen naming 1 rulings.choices in
    let adoption = adoption_seen rulings.adopted in
    let replaced = all_replaced_seen rulings.replaced in
    let credits = credits_seen 1 rulings.credits in
    append_assoc (((tariffs ++ closes) ++ choices) ++ adoption) replaced credits
    ∙ append_assoc ((tariffs ++ closes) ++ choices) adoption (replaced ++ credits)
    ∙ append_assoc (tariffs ++ closes) choices (adoption ++ (replaced ++ credits))
    ∙ append_assoc tariffs closes (choices ++ (adoption ++ (replaced ++ credits)))

-- as many closes stand there as there are, each under its period,
pub closes_count : (period : ℕ) (closes : List ℤ)
    → length (closes_seen period closes) ≡ length closes
closes_count period [] = refl
closes_count period (day ∷ closes) = ap suc (closes_count (suc period) closes)

pub close_seen_at : (period : ℕ) (closes : List ℤ) (k : ℕ)
    → slice_get (closes_seen period closes) k
    ≡ option_map (CloseSeen (period + k)) (slice_get closes k)
close_seen_at period [] k = refl
close_seen_at period (day ∷ closes) zero =
    let same : period ≡ period + 0 = omega arith in
    ap (λ n. Some (CloseSeen n day)) same
close_seen_at period (day ∷ closes) (suc k) =
    let same : suc period + k ≡ period + suc k = omega arith in
    close_seen_at (suc period) closes k
    ∙ ap (λ n. option_map (CloseSeen n) (slice_get closes k)) same

-- and so do the choices, each under its number
pub choices_count : (naming : Naming) (number : ℕ) (choices : List Choice)
    → length (choices_seen naming number choices) ≡ length choices
choices_count naming number [] = refl
choices_count naming number (choice ∷ choices) =
    ap suc (choices_count naming (suc number) choices)

pub choice_seen_at : (naming : Naming) (number : ℕ) (choices : List Choice) (k : ℕ)
    → slice_get (choices_seen naming number choices) k
    ≡ option_map (choice_seen naming (number + k)) (slice_get choices k)
choice_seen_at naming number [] k = refl
choice_seen_at naming number (choice ∷ choices) zero =
    let same : number ≡ number + 0 = omega arith in
    ap (λ n. Some (choice_seen naming n choice)) same
choice_seen_at naming number (choice ∷ choices) (suc k) =
    let same : suc number + k ≡ number + suc k = omega arith in
    choice_seen_at naming (suc number) choices k
    ∙ ap (λ n. option_map (choice_seen naming n) (slice_get choices k)) same

-- and so do the credits
pub credits_count : (number : ℕ) (credits : List Credit)
    → length (credits_seen number credits) ≡ length credits
credits_count number [] = refl
credits_count number (credit ∷ credits) = ap suc (credits_count (suc number) credits)

pub credit_seen_at : (number : ℕ) (credits : List Credit) (k : ℕ)
    → slice_get (credits_seen number credits) k
    ≡ option_map (credit_seen (number + k)) (slice_get credits k)
credit_seen_at number [] k = refl
credit_seen_at number (credit ∷ credits) zero =
    let same : number ≡ number + 0 = omega arith in
    ap (λ n. Some (credit_seen n credit)) same
credit_seen_at number (credit ∷ credits) (suc k) =
    let same : suc number + k ≡ number + suc k = omega arith in
    credit_seen_at (suc number) credits k
    ∙ ap (λ n. option_map (credit_seen n) (slice_get credits k)) same
