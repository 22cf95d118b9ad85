-- Code page 037, for the 95 printable characters of ASCII.
use Rattle.std.specs.Prelude.{ℕ, ◌+◌, ◌-◌, ◌==◌, ◌&&◌, ◌/◌, ◌%◌, nat_le, nat_lt, if◌then◌else◌, Bool, List, [], ◌∷◌, ◌++◌, length, codes, slice_index, Option, Some, None, unwrap_or}
use Rattle.std.specs.List.{flat_map, list_all, position_from}
use Rattle.std.specs.Option.{option_map, option_or}

-- the runs of the page: a first byte, and the characters that it and the bytes after it stand for
abbrev pub runs : List (ℕ × List ℕ)
runs =
    (0x40, codes " ") ∷
    (0x4B, codes ".<(+|") ∷
    (0x50, codes "&") ∷
    (0x5A, codes "!$*);") ∷
    (0x60, codes "-/") ∷
    (0x6B, codes ",%_>?") ∷
    (0x79, codes "`") ∷
    (0x7A, codes ":#@'=\"") ∷
    (0x81, codes "abcdefghi") ∷
    (0x91, codes "jklmnopqr") ∷
    (0xA1, codes "~") ∷
    (0xA2, codes "stuvwxyz") ∷
    (0xB0, codes "^") ∷
    (0xBA, codes "[") ∷
    (0xBB, codes "]") ∷
    (0xC0, codes "{") ∷
    (0xC1, codes "ABCDEFGHI") ∷
    (0xD0, codes "}") ∷
    (0xD1, codes "JKLMNOPQR") ∷
    (0xE0, codes "\\") ∷
    (0xE2, codes "STUVWXYZ") ∷
    (0xF0, codes "0123456789") ∷ []

-- the byte lies in the run
abbrev pub is_in_run : ℕ × List ℕ → ℕ → Bool
is_in_run run byte = nat_le run.0 byte && nat_lt byte (run.0 + length run.1)

-- the character of a byte by the first of some runs that it lies in
abbrev pub char_in : List (ℕ × List ℕ) → ℕ → Option ℕ
char_in [] byte = None
char_in (run ∷ rest) byte =
    if is_in_run run byte then Some (slice_index run.1 (byte - run.0)) else char_in rest byte

-- the character that a byte stands for
unfoldable pub char_of : ℕ → Option ℕ
char_of byte = char_in runs byte

-- the byte that stands for a character by the first of some runs that has it
abbrev pub byte_in : List (ℕ × List ℕ) → ℕ → Option ℕ
byte_in [] character = None
byte_in (run ∷ rest) character =
    option_or (position_from (λ other. other == character) run.0 run.1) (byte_in rest character)

-- the byte that stands for a character
unfoldable pub byte_of : ℕ → Option ℕ
byte_of character = byte_in runs character

-- the byte of the blank
abbrev pub blank : ℕ
blank = 0x40

-- the byte of the backslash
abbrev pub backslash : ℕ
backslash = 0xE0

-- the hexadecimal digit of a half-byte, in capitals
abbrev pub hexadecimal_digit : ℕ → ℕ
hexadecimal_digit half = slice_index (codes "0123456789ABCDEF") half

-- a backslash and the two digits of a byte
abbrev pub hexadecimal : ℕ → List ℕ
hexadecimal byte =
    codes "\\" ++ hexadecimal_digit (byte / 16) ∷ hexadecimal_digit (byte % 16) ∷ []

-- a byte as it is shown: in hexadecimal the backslash and what has no character, else its character
abbrev pub show_byte : ℕ → List ℕ
show_byte byte =
    if byte == backslash then hexadecimal byte
    else unwrap_or (option_map (λ character. character ∷ []) (char_of byte)) (hexadecimal byte)

-- the bytes up to where nothing but blanks follows
abbrev pub without_blanks : List ℕ → List ℕ
without_blanks [] = []
without_blanks (byte ∷ rest) =
    if list_all (λ other. other == blank) (byte ∷ rest) then [] else byte ∷ without_blanks rest

-- bytes as they are shown
unfoldable pub show_text : List ℕ → List ℕ
show_text bytes = flat_map show_byte (without_blanks bytes)
