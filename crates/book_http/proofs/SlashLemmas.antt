-- Texts that a slash cuts in two.
use Rattle.std.proofs.Common.{◌≡◌, ◌≢◌, ℕ, suc, ◌<◌, Bool, true, false, cond, List, [], ◌∷◌, ◌++◌}
use Rattle.std.proofs.Common.{length, get_or, arith, lit<, Option, Some, None, refl, ap, ap₂, ◌∙◌}
use Rattle.std.proofs.Common.{Bor, MatchOption, ◌==◌}
use Rattle.std.proofs.lemmas.Str.Pattern.{IsSplitOnceResult, split_parts}
use Rattle.book_model.proofs.Std.{nat_tests}
use Rattle.book_reports.specs.BookTexts.{centre_named}
use Rattle.book_http.specs.Routes.{after_slash, before_slash, period, period_by, period_in}
use Rattle.book_http.specs.Routes.{period_of_all, period_of_centre}

-- no byte of a text is a slash
abbrev pub HasNoSlash : List ℕ → Type 0
HasNoSlash text = (i : ℕ) → i < length text → get_or text i 0 ≢ 47

-- without its first byte there is none either
later : (b : ℕ) (text : List ℕ) → HasNoSlash (b ∷ text) → HasNoSlash text
later b text none i within = none (suc i) (omega arith)

first_is_none : (b : ℕ) (text : List ℕ) → HasNoSlash (b ∷ text) → (b == 47) ≡ false
first_is_none b text none =
    let other : b ≢ 47 = none 0 (omega arith) in grind (arith, nat_tests)

-- the first slash cuts a text
pub cut : (text rest : List ℕ) → HasNoSlash text
    → (before_slash (text ++ 47 ∷ rest) ≡ text) × (after_slash (text ++ 47 ∷ rest) ≡ Some rest)
cut [] rest none = (refl, refl)
cut (b ∷ text) rest none =
    let other = first_is_none b text none in
    let parts = cut text rest (later b text none) in (
      ap (λ slash. cond slash [] (b ∷ before_slash (text ++ 47 ∷ rest))) other
          ∙ ap (λ front. b ∷ front) parts.0,
      ap (λ slash. cond slash (Some (text ++ 47 ∷ rest)) (after_slash (text ++ 47 ∷ rest))) other
          ∙ parts.1,
    )

-- a text without a slash is whole
pub uncut : (text : List ℕ) → HasNoSlash text
    → (before_slash text ≡ text) × (after_slash text ≡ None)
uncut [] none = (refl, refl)
uncut (b ∷ text) none =
    let other = first_is_none b text none in
    let parts = uncut text (later b text none) in (
      ap (λ slash. cond slash [] (b ∷ before_slash text)) other ∙ ap (λ front. b ∷ front) parts.0,
      ap (λ slash. cond slash (Some text) (after_slash text)) other ∙ parts.1,
    )

-- a text is what comes before its first slash, and the slash and what comes after it, if there is one
abbrev pub IsJoined : List ℕ → List ℕ → Option (List ℕ) → Type 0
IsJoined text front rest = MatchOption rest (front ≡ text) (λ rest. text ≡ front ++ 47 ∷ rest)

one_more : (b : ℕ) (text front : List ℕ) (rest : Option (List ℕ)) → IsJoined text front rest
    → IsJoined (b ∷ text) (b ∷ front) rest
one_more b text front None joined = ap (λ text. b ∷ text) joined
one_more b text front (Some rest) joined = ap (λ text. b ∷ text) joined

pub joined : (text : List ℕ) → IsJoined text (before_slash text) (after_slash text)
joined [] = refl
joined (b ∷ text) =
    by (b == 47) refl (one_more b text (before_slash text) (after_slash text) (joined text))
  where
    by : (slash : Bool) → (b == 47) ≡ slash
        → IsJoined (b ∷ text) (b ∷ before_slash text) (after_slash text)
        → IsJoined (b ∷ text) (cond slash [] (b ∷ before_slash text))
        (cond slash (Some text) (after_slash text))
    by true is later = let same : b ≡ 47 = grind (arith, nat_tests) in ap (λ b. b ∷ text) same
    by false is later = later

-- where `split_once` cuts a text at a slash
pub split_as : (text : List ℕ) (found : Option (Bor (List ℕ) × Bor (List ℕ)))
    → IsSplitOnceResult 47 text found
    → MatchOption found ((before_slash text ≡ text) × (after_slash text ≡ None))
    (λ parts. (before_slash text ≡ parts.0.now) × (after_slash text ≡ Some parts.1.now))
split_as text None split = uncut text (split_parts 47 text None split (lit< tt))
split_as text (Some parts) split =
    let is = split_parts 47 text (Some parts) split (lit< tt) in
    let halves = cut parts.0.now parts.1.now is.1 in
    (ap before_slash is.0 ∙ halves.0, ap after_slash is.0 ∙ halves.1)

-- the period that a text names which no slash cuts, or one does
pub named_whole : (text : List ℕ) → (before_slash text ≡ text) × (after_slash text ≡ None)
    → period_in text ≡ period_of_all (period text)
unfolding period_in
named_whole text is = ap₂ (λ number name. period_by (period number) name) is.0 is.1

pub named_cut : (text number name : List ℕ)
    → (before_slash text ≡ number) × (after_slash text ≡ Some name)
    → period_in text ≡ period_of_centre (period number) (centre_named name)
unfolding period_in
named_cut text number name is = ap₂ (λ number name. period_by (period number) name) is.0 is.1
