-- The table in the code is the page's runs, by computation.
use Rattle.std.proofs.Common.{◌≡◌, ℕ, zero, suc, ◌<◌, ◌≢◌, ◌&&◌, ◌||◌, Bool, true, nat_eq, nat_lt, get_or, refl, ap, arith, Option, Some, None}
use Rattle.std.proofs.lemmas.Bool.{eqb-true, ne_eqb}
use Rattle.std.specs.List.{position}
use Rattle.std.specs.Option.{option_eq, option_map_or}
use Rattle.std.proofs.lemmas.Bool.Decides.{nat_tests, Decides-below_and}
use Rattle.smf_text.specs.declared.code_page.TheConstants.{PAGE}
use Rattle.smf_text.specs.CodePage.{char_of, char_in, byte_of, byte_in, runs}

-- a test that each number below n passes
abbrev pub all_below : (ℕ → Bool) → ℕ → Bool
all_below test zero = true
all_below test (suc n) = test n && all_below test n

-- a number below n passes it
pub all_below_holds : (test : ℕ → Bool) (n k : ℕ) → all_below test n ≡ true → k < n → test k ≡ true
all_below_holds test n k all h =
    (Decides-below_and test (λ j. test j ≡ true) (all_below test)
    (λ j. (λ passes. passes, λ passes. passes)) refl (λ m. refl) n).0 all k h

-- an entry of the table says so: an ASCII character, or 0 for none
abbrev is_entry : ℕ → Option ℕ → Bool
is_entry entry None = nat_eq entry 0
is_entry entry (Some character) =
    (nat_lt 0 character && nat_lt character 128) && nat_eq entry character

-- the table agrees with the runs at a byte
agrees : ℕ → Bool
agrees byte = is_entry (get_or PAGE byte 0) (char_in runs byte)

-- the table agrees with the runs at each byte
agrees_everywhere : all_below agrees 256 ≡ true
unfolding agrees
agrees_everywhere = refl

-- the table agrees with the page
pub page_entry : (byte : ℕ) → byte < 256 → is_entry (get_or PAGE byte 0) (char_of byte) ≡ true
unfolding agrees char_of
page_entry byte h = all_below_holds agrees 256 byte agrees_everywhere h

-- where the entry is 0 there is no character
pub no_entry : (entry : ℕ) (character : Option ℕ) → is_entry entry character ≡ true → entry ≡ 0
    → None ≡ character
no_entry entry None h zero_entry = refl
no_entry entry (Some character) h zero_entry = absurd (grind (arith, nat_tests))

-- any other entry is the character
pub some_entry : (entry : ℕ) (character : Option ℕ) → is_entry entry character ≡ true → entry ≢ 0
    → Some entry ≡ character
some_entry entry None h other = absurd (grind (arith, nat_tests))
some_entry entry (Some character) h other =
    let is : entry ≡ character = grind (arith, nat_tests) in ap Some is

-- and is ASCII
pub entry_is_ascii : (entry : ℕ) (character : Option ℕ) → is_entry entry character ≡ true
    → entry < 128
entry_is_ascii entry None h = grind (arith, nat_tests)
entry_is_ascii entry (Some character) h = grind (arith, nat_tests)

-- options of numbers that compare equal are equal
equal_options : (a b : Option ℕ) → option_eq nat_eq a b ≡ true → a ≡ b
equal_options None None h = refl
equal_options None (Some y) h = cc
equal_options (Some x) None h = cc
equal_options (Some x) (Some y) h = ap Some (eqb-true x y h)

-- the first entry with a character is where the runs have it
finds : ℕ → Bool
finds character =
    nat_eq character 0
    || option_eq nat_eq (position (λ other. nat_eq other character) PAGE) (byte_in runs character)

-- so it is for each character but 0, which has no place
finds_everywhere : all_below finds 256 ≡ true
unfolding finds
finds_everywhere = refl

-- the place of a character's entry is its byte
pub position-PAGE : (character : ℕ) → character < 256 → character ≢ 0
    → position (λ other. nat_eq other character) PAGE ≡ byte_of character
unfolding finds byte_of
position-PAGE character h other =
    let found = all_below_holds finds 256 character finds_everywhere h in
    equal_options _ _ (rw (ne_eqb character 0 other) at found)

-- the character 0 has no byte
pub byte_of-zero : (character : ℕ) → character ≡ 0 → None ≡ byte_of character
unfolding byte_of
byte_of-zero character is = rw is refl

-- the byte of a character stands for it
returns_to : ℕ → Bool
returns_to character =
    option_map_or
    (λ byte. option_eq nat_eq (char_in runs byte) (Some character)) (byte_in runs character) true

-- so it is for each character
returns_everywhere : all_below returns_to 256 ≡ true
unfolding returns_to
returns_everywhere = refl

-- the byte of a character stands for it
pub char_of-byte_of : (character byte : ℕ) → character < 256 → byte_of character ≡ Some byte
    → char_of byte ≡ Some character
unfolding returns_to char_of byte_of
char_of-byte_of character byte h is =
    equal_options _ _ (rw is at (all_below_holds returns_to 256 character returns_everywhere h))
