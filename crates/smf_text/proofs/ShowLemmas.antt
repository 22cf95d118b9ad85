-- Blanks at the end of a field.
use Rattle.std.proofs.Common.{◌≡◌, ◌≢◌, ℕ, ◌+◌, ◌-◌, ◌<◌, ◌≤◌, Bool, false, nat_eq, get_or, List, [], ◌∷◌, ◌++◌, length, take, refl, ap, ◌∙◌, arith, inl, inr}
use Rattle.std.proofs.Math.Bool.{and-true, and-false}
use Rattle.std.proofs.lemmas.Bool.{cases_lt, ne_eqb}
use Rattle.std.proofs.lemmas.List.{take_more}
use Rattle.std.proofs.lemmas.List.Folds.{list_all-append}
use Rattle.std.specs.List.{list_all}
use Rattle.smf_text.specs.CodePage.{without_blanks}

-- whether a byte is a blank
abbrev pub is_blank : ℕ → Bool
is_blank byte = nat_eq byte 0x40

-- a blank at the end is dropped
without_blanks-blank : (bytes : List ℕ) → without_blanks (bytes ++ 0x40 ∷ []) ≡ without_blanks bytes
without_blanks-blank [] = refl
without_blanks-blank (byte ∷ rest) =
    let blanks = list_all-append is_blank rest (0x40 ∷ []) ∙ and-true (list_all is_blank rest) in
    rw (blanks, without_blanks-blank rest) refl

-- nothing is dropped before another byte
without_blanks-other : (bytes : List ℕ) (last : ℕ) → is_blank last ≡ false
    → without_blanks (bytes ++ last ∷ []) ≡ bytes ++ last ∷ []
without_blanks-other [] last other = rw other refl
without_blanks-other (byte ∷ rest) last other =
    let blanks : list_all is_blank (rest ++ last ∷ []) ≡ false =
    rw (list_all-append, other, and-false) refl in
    rw (blanks, and-false, without_blanks-other rest last other) refl

-- the last byte of a prefix
front-last : (bytes : List ℕ) (end : ℕ) → 0 < end → end ≤ length bytes
    → take end bytes ≡ take (end - 1) bytes ++ get_or bytes (end - 1) 0 ∷ []
front-last bytes end some within =
    let is : end ≡ end - 1 + 1 = omega arith in
    ap (λ n. take n bytes) is ∙ take_more bytes (end - 1) 0 (omega arith)

-- a prefix that ends in a blank shows no more without it
pub without_blanks-drops : (bytes : List ℕ) (end : ℕ) → 0 < end → end ≤ length bytes
    → get_or bytes (end - 1) 0 ≡ 0x40
    → without_blanks (take (end - 1) bytes) ≡ without_blanks (take end bytes)
without_blanks-drops bytes end some within blank =
    rw (front-last bytes end some within, blank, without_blanks-blank) refl

-- a prefix that is empty, or ends in another byte, has no blanks at its end
pub without_blanks-keeps : (bytes : List ℕ) (end : ℕ) → end ≤ length bytes
    → (0 < end → get_or bytes (end - 1) 0 ≢ 0x40) → without_blanks (take end bytes) ≡ take end bytes
without_blanks-keeps bytes end within other =
    elim (cases_lt 0 end) [
      | inl some ↦
          let is = front-last bytes end some within in
          rw is (without_blanks-other (take (end - 1) bytes) _ (ne_eqb _ _ (other some)))
      | inr none ↦ let is : end ≡ 0 = omega arith in rw is refl
    ]
