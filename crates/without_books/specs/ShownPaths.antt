-- Paths and other bytes as a terminal shows them: none of them makes it do anything else.
use Rattle.std.specs.Prelude.{ℕ, ◌==◌, ◌||◌, nat_lt, if◌then◌else◌, Bool, List, [], ◌∷◌, codes, flat_map}
use Rattle.std.specs.List.{list_any}

-- a control byte of ASCII: a terminal does not show it, but obeys it
abbrev pub is_control : ℕ → Bool
is_control b = nat_lt b 32 || b == 127

-- a byte in ASCII alone: any other is a question mark, and so is a control byte
abbrev pub plain_byte : ℕ → List ℕ
plain_byte b = if is_control b then codes "?" else if nat_lt b 128 then b ∷ [] else codes "?"

unfoldable pub plain_bytes : List ℕ → List ℕ
plain_bytes bytes = flat_map plain_byte bytes

-- a path with control bytes is shown so, and any other as it is
abbrev pub shown_path : List ℕ → List ℕ
shown_path path = if list_any is_control path then plain_bytes path else path
