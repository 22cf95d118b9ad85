-- What one more field makes of what the fields before it say.
use Rattle.std.proofs.Common.{◌≡◌, ℕ, ◌+◌, ◌<◌, Bool, true, false, ◌||◌, Option, Some, None, List}
use Rattle.std.proofs.Common.{[], ◌∷◌, ◌++◌, length, map, take, get_or, codes, refl, ap, ◌∙◌}
use Rattle.std.proofs.Common.{append-nil, if◌then◌else◌}
use Rattle.book_model.proofs.Std.{map-append, take_more, filter-append, list_any-append}
use Rattle.book_model.proofs.Std.{list_any_at, list_any}
use Rattle.book_http.specs.declared.framing.Framing.TheVariants.{Faulty}
use Rattle.book_http.specs.Framing.{is_field_named, field_values, framing_if, framing_by_all}
use Rattle.book_http.specs.Framing.{with_length, with_field, declared}
use Rattle.book_http.specs.Numbers.{decimal_value}
use Rattle.book_http.proofs.Words.{header_bytes, HeaderSpan}

-- what holds where a list of fields has none
abbrev pub no_field : HeaderSpan
no_field = record { name = record { start = 0; end = 0 }; value = record { start = 0; end = 0 } }

-- the values among one more field
values_more : (wanted : List ℕ) (fields : List (List ℕ × List ℕ)) (field : List ℕ × List ℕ)
    → field_values wanted (fields ++ field ∷ [])
    ≡ field_values wanted fields ++ field_values wanted (field ∷ [])
values_more wanted fields field = rw (filter-append, map-append) refl

-- one length read makes two, whatever it says
two_lengths : (said : Option ℕ) (length : List ℕ) → Faulty ≡ with_length (framing_if said) length
two_lengths None length = refl
two_lengths (Some decimal_value) length = refl

-- a further length
framing_more : (lengths : List (List ℕ)) (length : List ℕ)
    → framing_by_all (lengths ++ length ∷ []) ≡ with_length (framing_by_all lengths) length
framing_more [] length = refl
framing_more (first ∷ []) length = two_lengths (decimal_value 19 first) length
framing_more (first ∷ other ∷ rest) length = refl

-- a further field, which is called so or not
framing_with : (called : Bool) (lengths : List (List ℕ)) (field : List ℕ × List ℕ)
    → framing_by_all (lengths ++ map (λ field. field.1) (if called then field ∷ [] else []))
    ≡ (if called then with_length (framing_by_all lengths) field.1 else framing_by_all lengths)
framing_with true lengths field = framing_more lengths field.1
framing_with false lengths field = ap framing_by_all (append-nil lengths)

-- what one more field makes of what is said of the length
pub declared_more : (bytes : List ℕ) (fields : List HeaderSpan) (at : ℕ) → at < length fields
    → declared (map (header_bytes bytes) (take (at + 1) fields))
    ≡ with_field (declared (map (header_bytes bytes) (take at fields)))
    (header_bytes bytes (get_or fields at no_field))
unfolding declared
declared_more bytes fields at within =
    let before = map (header_bytes bytes) (take at fields) in
    let field = header_bytes bytes (get_or fields at no_field) in
    let wanted = codes "content-length" in
    rw (take_more fields at no_field within, map-append)
    (ap framing_by_all (values_more wanted before field)
    ∙ framing_with (is_field_named wanted field.0) (field_values wanted before) field)

-- no field passes a test where the first of them do not, nor the next one
pub none_more : (test : List ℕ × List ℕ → Bool) (bytes : List ℕ) (fields : List HeaderSpan) (at : ℕ)
    → at < length fields → list_any test (map (header_bytes bytes) (take at fields)) ≡ false
    → test (header_bytes bytes (get_or fields at no_field)) ≡ false
    → list_any test (map (header_bytes bytes) (take (at + 1) fields)) ≡ false
none_more test bytes fields at within before other =
    rw (take_more fields at no_field within, map-append, list_any-append, before, other) refl

-- a test of the images is one of the elements
list_any-map : {X Y : Type 0} (test : Y → Bool) (f : X → Y) (xs : List X)
    → list_any test (map f xs) ≡ list_any (λ x. test (f x)) xs
list_any-map test f [] = refl
list_any-map test f (x ∷ xs) = ap (λ rest. test (f x) || rest) (list_any-map test f xs)

-- one field that passes is enough
pub any_at : (test : List ℕ × List ℕ → Bool) (bytes : List ℕ) (fields : List HeaderSpan) (at : ℕ)
    → at < length fields → test (header_bytes bytes (get_or fields at no_field)) ≡ true
    → list_any test (map (header_bytes bytes) fields) ≡ true
any_at test bytes fields at within same =
    rw (list_any-map test (header_bytes bytes) fields)
    (list_any_at (λ field. test (header_bytes bytes field)) fields at no_field within same)
