-- Encoding writes one byte for each character.
use Rattle.std.proofs.Common.{◌≡◌, ℕ, suc, ◌+◌, ◌<◌, get_or, List, [], ◌∷◌, ◌++◌, length, map, take, drop, set, refl, sym, ap, ◌∙◌, arith, true, Option, None, Some, is_some, unwrap_or, append_assoc, add-one, length-take-le, drop-cons}
use Rattle.std.proofs.Math.Seq.{set-append_seam}
use Rattle.std.proofs.lemmas.Bool.{and_parts}
use Rattle.std.proofs.lemmas.List.{take_more, map-append, length-map}
use Rattle.smf_text.specs.CodePage.{char_of, byte_of}
use Rattle.smf_text.specs.Encoding.{is_in_page, page_bytes}
use Rattle.smf_text.proofs.CodePageLemmas.{char_of-byte_of}

-- the byte of the next character goes after those of the characters so far
pub page_bytes-more : (text before buffer : List ℕ) (i byte : ℕ) → i < length text
    → i < length before → Some byte ≡ byte_of (get_or text i 0)
    → buffer ≡ page_bytes (take i text) ++ drop i before
    → set buffer i byte ≡ page_bytes (take (i + 1) text) ++ drop (i + 1) before
page_bytes-more text before buffer i byte within room is e =
    let front = page_bytes (take i text) in
    let long : length front ≡ i = length-map _ _ ∙ length-take-le i text (omega arith) in
    let byte_is : unwrap_or (byte_of (get_or text i 0)) 0 ≡ byte =
    sym (ap (λ b. unwrap_or b 0) is) in
    let next : page_bytes (take (i + 1) text) ≡ front ++ byte ∷ [] =
    rw (take_more text i 0 within, map-append, byte_is) refl in
    let written =
    rw long at (set-append_seam front (get_or before i 0) (drop (suc i) before) byte) in
    rw (e, drop-cons before i 0 room, written, next, append_assoc, add-one) refl

-- the byte of a character of the page stands for it
char_of-byte : (character : ℕ) → character < 256 → is_some (byte_of character) ≡ true
    → char_of (unwrap_or (byte_of character) 0) ≡ Some character
char_of-byte character h some = go (byte_of character) refl some where
  go : (byte : Option ℕ) → byte_of character ≡ byte → is_some byte ≡ true
      → char_of (unwrap_or byte 0) ≡ Some character
  go None is some = cc
  go (Some byte) is some = char_of-byte_of character byte h is

-- the bytes of a text stand for its characters
pub map-char_of-page_bytes : (text : List ℕ) → is_in_page text ≡ true
    → ((i : ℕ) → get_or text i 0 < 256) → map char_of (page_bytes text) ≡ map Some text
map-char_of-page_bytes [] h bytes = refl
map-char_of-page_bytes (character ∷ rest) h bytes =
    let parts = and_parts (is_some (byte_of character)) (is_in_page rest) h in
    let behind = map-char_of-page_bytes rest parts.1 (λ i. bytes (suc i)) in
    rw (char_of-byte character (bytes 0) parts.0, behind) refl
