use Rattle.std.proofs.Common.{◌≡◌, Bool, true, false, cond, List, ℕ, Option, Some, None, ap, sym}
use Rattle.std.proofs.Common.{refl, true≢false, ◌↔◌, IfSome, IsSome, IsTrue}

-- what is made of a text is there where it passes, and is then the text
passed : (text : List ℕ) (passes : Bool) (made : Option (List ℕ)) → (IsSome made ↔ IsTrue passes)
    → IfSome made (λ name. name ≡ text) → made ≡ cond passes (Some text) None
passed text true None is same = absurd (true≢false (sym (is.1 refl)))
passed text true (Some name) is same = ap Some same
passed text false None is same = refl
passed text false (Some name) is same = absurd (true≢false (sym (is.0 refl)))
