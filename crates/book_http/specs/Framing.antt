-- Where the body of a request ends, by the fields of its head (RFC 9112, section 6).
use Rattle.std.specs.Prelude.{ℕ, Bool, if◌then◌else◌, List, [], ◌∷◌, map, filter, bytes_eq, codes}
use Rattle.std.specs.Prelude.{Option, Some, None}
use Rattle.std.specs.Char.{to_ascii_lowercase}
use Rattle.std.specs.List.{list_any}
use Rattle.httparse.specs.Grammar.{RequestHead}
use Rattle.httparse.specs.Spans.{name_and_value}
use Rattle.book_http.specs.declared.framing.Framing.{Framing}
use Rattle.book_http.specs.declared.framing.Framing.TheVariants.{Unframed, Framed, Faulty}
use Rattle.book_http.specs.Numbers.{decimal_value}

-- the name is this one, in any case
abbrev pub is_field_named : List ℕ → List ℕ → Bool
is_field_named wanted name = bytes_eq (map to_ascii_lowercase name) (map to_ascii_lowercase wanted)

-- the values of the fields of a name, in order; a field is its name and its value
abbrev pub field_values : List ℕ → List (List ℕ × List ℕ) → List (List ℕ)
field_values wanted fields =
    map (λ field. field.1) (filter (λ field. is_field_named wanted field.0) fields)

-- a length is a number of 1 to 19 digits
abbrev pub framing_if : Option ℕ → Framing
framing_if (Some length) = Framed length
framing_if None = Faulty

abbrev pub framing_by : List ℕ → Framing
framing_by length = framing_if (decimal_value 19 length)

-- no length, one, or more than one: the last is a fault, also where they agree
abbrev pub framing_by_all : List (List ℕ) → Framing
framing_by_all [] = Unframed
framing_by_all (length ∷ []) = framing_by length
framing_by_all (length ∷ other ∷ rest) = Faulty

-- what a further length makes of it
abbrev pub with_length : Framing → List ℕ → Framing
with_length Unframed length = framing_by length
with_length (Framed before) length = Faulty
with_length Faulty length = Faulty

-- what a further field makes of it
abbrev pub with_field : Framing → List ℕ × List ℕ → Framing
with_field before field =
    if is_field_named (codes "content-length") field.0 then with_length before field.1 else before

-- what the lengths say
unfoldable pub declared : List (List ℕ × List ℕ) → Framing
declared fields = framing_by_all (field_values (codes "content-length") fields)

-- a field has this name
unfoldable pub has_field : List ℕ → List (List ℕ × List ℕ) → Bool
has_field wanted fields = list_any (λ field. is_field_named wanted field.0) fields

-- a field gives a transfer encoding
abbrev pub is_encoded : List (List ℕ × List ℕ) → Bool
is_encoded fields = has_field (codes "transfer-encoding") fields

-- a length is not used where the body comes in a transfer encoding
abbrev pub unless_encoded : Bool → Framing → Framing
unless_encoded encoded Unframed = Unframed
unless_encoded encoded (Framed length) = if encoded then Unframed else Framed length
unless_encoded encoded Faulty = Faulty

abbrev pub framing_of : List (List ℕ × List ℕ) → Framing
framing_of fields = unless_encoded (is_encoded fields) (declared fields)

-- what a head says of its body's length
abbrev pub framing : RequestHead → Framing
framing h = framing_of (map name_and_value h.fields)
