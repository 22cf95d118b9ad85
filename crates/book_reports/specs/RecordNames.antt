-- The name of a record, as a text spells it.
use Rattle.std.specs.Prelude.{ℕ, List, Option}
use Rattle.std.specs.Result.{result_ok}
use Rattle.hex.specs.Hex.{decode_sized}

-- how many bytes a name has
abbrev pub name_length : ℕ
name_length = 32

-- the name that a text spells: two hexadecimal digits for each byte, of either case, and nothing
-- else
abbrev pub name_in : List ℕ → Option (List ℕ)
name_in text = result_ok (decode_sized text name_length)
