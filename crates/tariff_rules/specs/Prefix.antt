-- What a record's field has to begin with.
use Rattle.std.specs.Prelude.{ℕ, ◌==◌, ◌&&◌, not, Bool, nat_le, if◌then◌else◌}
use Rattle.std.specs.Prelude.{List, length, Option, Some, None}
use Rattle.smf_text.specs.Encoding.{is_in_page, page_bytes}

-- one or more characters of code page 037 (the 95 printable ones of ASCII), up to a limit
abbrev pub is_prefix_text : ℕ → List ℕ → Bool
is_prefix_text most text = not (length text == 0) && nat_le (length text) most && is_in_page text

-- the bytes of such a text
abbrev pub prefix_of : ℕ → List ℕ → Option (List ℕ)
prefix_of most text = if is_prefix_text most text then Some (page_bytes text) else None
