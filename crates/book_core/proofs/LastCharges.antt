-- The last charge in a life before a period.
use Rattle.std.proofs.Common.{◌≡◌, ◌∙◌, ℕ, ◌+◌, ◌<◌, ◌&&◌, Bool, true, false, cond, List, [], ◌∷◌}
use Rattle.std.proofs.Common.{◌++◌, length, refl, sym, ap, append-nil, get_or, take, Option, Some}
use Rattle.std.proofs.Common.{None, if◌then◌else◌, filter, nat_lt, option_map}
use Rattle.book_model.proofs.Std.{filter-append, last_or, take_more}
use Rattle.book_model.specs.declared.trail.Turn.{Turn}
use Rattle.book_model.specs.Words.{charged_before, is_charge}

-- the last of a list with one more is that one
pub last_push : {X : Type 0} (other : Option X) (xs : List X) (x : X)
    → last_or other (xs ++ x ∷ []) ≡ Some x
last_push other [] x = refl
last_push other (first ∷ xs) x = last_push (Some first) xs x

charged_push : (number : ℕ) (life : List Turn) (turn : Turn)
    → charged_before number (life ++ turn ∷ [])
    ≡ if is_charge turn.deed && nat_lt turn.period number then Some turn.period
    else charged_before number life
charged_push number life turn =
    ap (λ turns. option_map (λ (turn : Turn). turn.period) (last_or None turns))
    (filter-append passes life (turn ∷ []))
    ∙ by (passes turn)
  where
    passes : Turn → Bool
    passes turn = is_charge turn.deed && nat_lt turn.period number

    by : (it : Bool)
        → option_map (λ (turn : Turn). turn.period)
        (last_or None (filter passes life ++ cond it (turn ∷ []) []))
        ≡ if it then Some turn.period else charged_before number life
    by true =
        ap (option_map (λ (turn : Turn). turn.period)) (last_push None (filter passes life) turn)
    by false =
        ap (λ turns. option_map (λ (turn : Turn). turn.period) (last_or None turns))
        (append-nil (filter passes life))

-- of the turns so far and one more
pub charged_more : (number : ℕ) (life : List Turn) (i : ℕ) (other : Turn) (last : Option ℕ)
    → i < length life → last ≡ charged_before number (take i life)
    → (if is_charge (get_or life i other).deed && nat_lt (get_or life i other).period number
    then Some (get_or life i other).period
    else last)
    ≡ charged_before number (take (i + 1) life)
charged_more number life i other last inside so_far =
    let turn = get_or life i other in
    ap (λ last. if is_charge turn.deed && nat_lt turn.period number then Some turn.period else last)
    so_far
    ∙ sym (ap (charged_before number) (take_more life i other inside)
    ∙ charged_push number (take i life) turn)
