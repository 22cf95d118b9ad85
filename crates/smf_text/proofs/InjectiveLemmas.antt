-- Two fields of one length are never shown alike.
use Rattle.std.proofs.Common.{◌≡◌, ◌≢◌, ℕ, suc, ◌+◌, ◌-◌, ◌*◌, ◌<◌, ◌&&◌, Bool, true, false, if◌then◌else◌, nat_eq, nat_lt, get_or, List, [], ◌∷◌, ◌++◌, length, replicate, refl, sym, ap, ◌∙◌, arith, inl, inr, unwrap_or, length-append}
use Rattle.std.proofs.Math.Seq.{take-append_seam}
use Rattle.std.proofs.lemmas.Bool.{eqb-true, and_parts, cases_lt}
use Rattle.std.proofs.lemmas.List.{append_cancel_left, get_or_past}
use Rattle.std.specs.List.{All, list_all}
use Rattle.smf_text.specs.CodePage.{char_of, byte_of, show_byte, show_text}
use Rattle.smf_text.proofs.CodePageLemmas.{all_below, all_below_holds}
use Rattle.smf_text.proofs.ShowLemmas.{is_blank}

-- how many characters show a byte, by the first of them
shown_length : ℕ → ℕ
shown_length first = if nat_eq first 0x5C then 3 else 1

-- a half-byte by its digit
digit_value : ℕ → ℕ
digit_value digit = if nat_lt digit 58 then digit - 48 else digit - 55

-- the byte that some characters show
shown_byte : List ℕ → ℕ
shown_byte (character ∷ []) = unwrap_or (byte_of character) 0
shown_byte (_ ∷ high ∷ low ∷ []) = 16 * digit_value high + digit_value low
shown_byte _ = 0

-- a byte is read back from what shows it
is_read_back : ℕ → Bool
is_read_back byte =
    nat_eq (length (show_byte byte)) (shown_length (get_or (show_byte byte) 0 0))
    && nat_eq (shown_byte (show_byte byte)) byte

-- so is each byte
read_back_everywhere : all_below is_read_back 256 ≡ true
unfolding is_read_back shown_byte digit_value shown_length char_of byte_of
read_back_everywhere = refl

-- characters that show by their first how many they are
record IsUnit (text : List ℕ) : Type 0 where
  long : length text ≡ shown_length (get_or text 0 0)

-- what shows a byte is a unit, and shows no other
record ShowsByte (text : List ℕ) (byte : ℕ) : Type 0 where
  is_unit : IsUnit text
  back : shown_byte text ≡ byte

-- so each byte is shown
show_byte-shows : (byte : ℕ) → byte < 256 → ShowsByte (show_byte byte) byte
unfolding is_read_back
show_byte-shows byte h =
    let text = show_byte byte in
    let parts =
    and_parts
    (nat_eq (length text) (shown_length (get_or text 0 0))) (nat_eq (shown_byte text) byte)
    (all_below_holds is_read_back 256 byte read_back_everywhere h) in
    record { is_unit = record { long = eqb-true _ _ parts.0 }; back = eqb-true _ _ parts.1 }

-- a unit has a first character
unit_begins : (text : List ℕ) → IsUnit text → 0 < length text
unfolding shown_length
unit_begins text unit = go (nat_eq (get_or text 0 0) 0x5C) unit.long where
  go : (b : Bool) → length text ≡ (if b then 3 else 1) → 0 < length text
  go true e = omega arith
  go false e = omega arith

-- texts that are equal have equal prefixes of one length, and continue alike
same_fronts : (a b xs ys : List ℕ) → length a ≡ length b → a ++ xs ≡ b ++ ys → (a ≡ b) × (xs ≡ ys)
same_fronts a b xs ys long e =
    let front : a ≡ b = sym (take-append_seam a xs) ∙ rw (long, e) (take-append_seam b ys) in
    (front, append_cancel_left b xs ys (rw front at e))

-- a text has one unit at its start
same_units : (a b xs ys : List ℕ) → IsUnit a → IsUnit b → a ++ xs ≡ b ++ ys → (a ≡ b) × (xs ≡ ys)
same_units [] b xs ys u v e = absurd (omega (arith, unit_begins [] u))
same_units (x ∷ a) [] xs ys u v e = absurd (omega (arith, unit_begins [] v))
same_units (x ∷ a) (y ∷ b) xs ys u v e =
    let first : x ≡ y = cc in
    same_fronts (x ∷ a) (y ∷ b) xs ys (u.long ∙ ap shown_length first ∙ sym v.long) e

-- a text shows one byte at its start
same_bytes : (a b : ℕ) (xs ys : List ℕ) → a < 256 → b < 256 → show_byte a ++ xs ≡ show_byte b ++ ys
    → (a ≡ b) × (xs ≡ ys)
same_bytes a b xs ys h k e =
    let shows_a = show_byte-shows a h in
    let shows_b = show_byte-shows b k in
    let same = same_units (show_byte a) (show_byte b) xs ys shows_a.is_unit shows_b.is_unit e in
    (sym shows_a.back ∙ ap shown_byte same.0 ∙ shows_b.back, same.1)

-- a byte is shown by something
some_shown : (byte : ℕ) (xs : List ℕ) → byte < 256 → [] ≢ show_byte byte ++ xs
some_shown byte xs h e =
    let some = unit_begins (show_byte byte) (show_byte-shows byte h).is_unit in
    let long = ap length e in
    absurd (omega (arith, some, long, length-append (show_byte byte) xs))

-- blanks are shown by nothing
show_text-blanks : (bytes : List ℕ) → list_all is_blank bytes ≡ true → show_text bytes ≡ []
unfolding show_text
show_text-blanks [] blank = refl
show_text-blanks (byte ∷ rest) blank = rw blank refl

-- any other field is shown byte by byte
show_text-cons : (byte : ℕ) (rest : List ℕ) → list_all is_blank (byte ∷ rest) ≡ false
    → show_text (byte ∷ rest) ≡ show_byte byte ++ show_text rest
unfolding show_text
show_text-cons byte rest other = rw other refl

-- blanks of one number are one text
blanks_are : (bytes : List ℕ) → list_all is_blank bytes ≡ true
    → bytes ≡ replicate (length bytes) 0x40
blanks_are [] blank = refl
blanks_are (byte ∷ rest) blank =
    let parts = and_parts (is_blank byte) (list_all is_blank rest) blank in
    rw (← blanks_are rest parts.1, eqb-true byte 0x40 parts.0) refl

-- fields of one length that are shown alike are equal
pub show_text-injective : (xs ys : List ℕ) → length xs ≡ length ys → ((i : ℕ) → get_or xs i 0 < 256)
    → ((i : ℕ) → get_or ys i 0 < 256) → show_text xs ≡ show_text ys → xs ≡ ys
show_text-injective [] [] long a b e = refl
show_text-injective [] (y ∷ ys) long a b e = absurd (omega arith)
show_text-injective (x ∷ xs) [] long a b e = absurd (omega arith)
show_text-injective (x ∷ xs) (y ∷ ys) long a b e =
    let rest = show_text-injective xs ys (omega arith) (λ i. a (suc i)) (λ i. b (suc i)) in
    go (list_all is_blank (x ∷ xs)) (list_all is_blank (y ∷ ys)) refl refl rest where
      go : (p q : Bool) → list_all is_blank (x ∷ xs) ≡ p → list_all is_blank (y ∷ ys) ≡ q
          → (show_text xs ≡ show_text ys → xs ≡ ys) → (x ∷ xs) ≡ (y ∷ ys)
      go true true is_x is_y rest =
          blanks_are (x ∷ xs) is_x ∙ ap (λ n. replicate n 0x40) long
          ∙ sym (blanks_are (y ∷ ys) is_y)
      go true false is_x is_y rest =
          absurd (some_shown y (show_text ys) (b 0)
          (sym (show_text-blanks (x ∷ xs) is_x) ∙ e ∙ show_text-cons y ys is_y))
      go false true is_x is_y rest =
          absurd (some_shown x (show_text xs) (a 0)
          (sym (show_text-blanks (y ∷ ys) is_y) ∙ sym e ∙ show_text-cons x xs is_x))
      go false false is_x is_y rest =
          let same =
          same_bytes x y (show_text xs) (show_text ys) (a 0) (b 0)
          (sym (show_text-cons x xs is_x) ∙ e ∙ show_text-cons y ys is_y) in
          let tails = rest same.1 in
          rw (same.0, tails) refl

-- what holds of each byte of a text holds of the zeros after it
pub bytes_everywhere : (bytes : List ℕ) → All (λ byte. byte < 256) bytes → (i : ℕ)
    → get_or bytes i 0 < 256
bytes_everywhere bytes all i = elim (cases_lt i (length bytes)) [
  | inl within ↦ all i 0 within
  | inr behind ↦ rw (get_or_past bytes i 0 behind) (omega arith)
]
