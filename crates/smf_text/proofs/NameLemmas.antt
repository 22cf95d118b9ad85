-- Names are ASCII, and how they are kept.
use Rattle.std.proofs.Common.{◌≡◌, ℕ, ◌<◌, List, ◌++◌, length, take, drop, replicate, true, refl, ap, arith}
use Rattle.std.proofs.Math.Seq.{take-append_seam}
use Rattle.std.proofs.lemmas.List.{drop-replicate}
use Rattle.std.proofs.lemmas.List.Sums.{AllPass-from_list_all}
use Rattle.std.proofs.lemmas.Str.{IsUtf8-from_ascii}
use Rattle.std.proofs.lemmas.Str.Ascii.{IsAscii-from_all}
use Rattle.std.proofs.lemmas.Bool.{and_parts}
use Rattle.std.proofs.lemmas.Bool.Decides.{nat_tests}
use Rattle.std.specs.Str.{IsUtf8}
use Rattle.smf_text.specs.Names.{IsName, IsPadded, is_name_character, longest_name, padded}

-- a character of a name is ASCII
name_character_is_ascii : (c : ℕ) → is_name_character c ≡ true → c < 128
name_character_is_ascii c h = grind (arith, nat_tests)

-- the bytes of a name are a text
pub name_is_utf8 : (text : List ℕ) → IsName text → IsUtf8 text
name_is_utf8 text h =
    let characters = AllPass-from_list_all is_name_character text (and_parts _ _ h).1 in
    IsUtf8-from_ascii text
    (IsAscii-from_all text (λ k d within. name_character_is_ascii _ (characters k d within)))

-- a text at the start of zeros is kept as a name is
pub padded_at_front : (text front letters : List ℕ) → IsName text → front ≡ text
    → letters ≡ replicate longest_name 0
    → IsPadded (front ++ drop (length text) letters) (length text)
padded_at_front text front letters h e zeros =
    let is : front ++ drop (length text) letters ≡ padded text =
    rw (e, zeros, drop-replicate) refl in
    let seam : take (length text) (padded text) ≡ text = take-append_seam text _ in
    rw is record { name = rw seam h; lasts = ap length seam; zeros = ap padded seam }
