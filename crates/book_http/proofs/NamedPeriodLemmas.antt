-- A text names a period, and a centre if there is one, where it is their text, and nowhere else.
use Rattle.std.proofs.Common.{◌≡◌, ◌∙◌, ℕ, Bool, true, false, cond, List, [], ◌∷◌, ◌++◌, codes, refl}
use Rattle.std.proofs.Common.{Option, Some, None, IfSome, sym, ap, ap₂, append_assoc, append-nil}
use Rattle.std.specs.Prelude.{decimal}
use Rattle.smf_text.specs.Names.{IsName, is_name}
use Rattle.book_http.specs.Paths.{IsPathPeriod, period_text}
use Rattle.book_http.specs.Routes.{after_slash, before_slash, period, period_by, period_in}
use Rattle.book_http.specs.Routes.{period_of_all, period_of_centre}
use Rattle.book_http.proofs.PeriodLemmas.{decimal_has_no_slash, period_found, period_named}
use Rattle.book_http.proofs.SlashLemmas.{IsJoined, cut, joined, uncut}

-- what follows the number
abbrev pub after_number : Option (List ℕ) → List ℕ
after_number None = []
after_number (Some centre) = 47 ∷ centre

pub text_begins : (n : ℕ) (centre : Option (List ℕ))
    → period_text n centre ≡ decimal n ++ after_number centre
text_begins n None = sym (append-nil (decimal n))
text_begins n (Some centre) = append_assoc (decimal n) (codes "/") centre

-- ---- what is named has its text there

-- a text is that of a period, and of a centre if there is one
abbrev pub IsNamedBy : List ℕ → ℕ × Option (List ℕ) → Type 0
IsNamedBy text named =
    (text ≡ period_text named.0 named.1) × IsPathPeriod named.0 × IfSome named.1 IsName

-- a period of the whole office
all_named : (text front : List ℕ) (found : Option ℕ) → front ≡ text
    → IfSome found (λ n. (front ≡ decimal n) × IsPathPeriod n)
    → IfSome (period_of_all found) (IsNamedBy text)
all_named text front None whole named = tt
all_named text front (Some n) whole named = (sym whole ∙ named.0, named.1, tt)

-- of a centre
own_named : (text front name : List ℕ) (found : Option ℕ) (passes : Bool) → is_name name ≡ passes
    → text ≡ front ++ 47 ∷ name → IfSome found (λ n. (front ≡ decimal n) × IsPathPeriod n)
    → IfSome (period_of_centre found (cond passes (Some name) None)) (IsNamedBy text)
own_named text front name None passes is_one parts named = tt
own_named text front name (Some n) false is_one parts named = tt
own_named text front name (Some n) true is_one parts named = (
  parts ∙ ap (λ number. number ++ 47 ∷ name) named.0 ∙ sym (text_begins n (Some name)),
  named.1,
  is_one,
)

by_named : (text front : List ℕ) (name : Option (List ℕ)) → IsJoined text front name
    → IfSome (period_by (period front) name) (IsNamedBy text)
by_named text front None whole = all_named text front (period front) whole (period_named front)
by_named text front (Some name) parts =
    own_named text front name (period front) (is_name name) refl parts (period_named front)

pub text_names : (text : List ℕ) → IfSome (period_in text) (IsNamedBy text)
unfolding period_in
text_names text = by_named text (before_slash text) (after_slash text) (joined text)

-- ---- what has its text there is named

-- a number alone names a period
all_found : (n : ℕ) → IsPathPeriod n → period_in (decimal n) ≡ Some (n, None)
unfolding period_in
all_found n named =
    let whole = uncut (decimal n) (decimal_has_no_slash n named) in
    ap₂ (λ text name. period_by (period text) name) whole.0 whole.1
    ∙ ap period_of_all (period_found n named)

-- a number, a slash and a name one of a centre
own_found : (n : ℕ) (centre : List ℕ) → IsPathPeriod n → IsName centre
    → period_in (decimal n ++ 47 ∷ centre) ≡ Some (n, Some centre)
unfolding period_in
own_found n centre named is_one =
    let halves = cut (decimal n) centre (decimal_has_no_slash n named) in
    ap₂ (λ text name. period_by (period text) name) halves.0 halves.1
    ∙ ap₂ period_of_centre (period_found n named)
    (ap (λ passes. cond passes (Some centre) None) is_one)

pub text_named : (n : ℕ) (centre : Option (List ℕ)) → IsPathPeriod n → IfSome centre IsName
    → period_in (period_text n centre) ≡ Some (n, centre)
text_named n None named is_one = all_found n named
text_named n (Some centre) named is_one =
    ap period_in (text_begins n (Some centre)) ∙ own_found n centre named is_one
