-- The fields that a walk finds are those that the text begins with.
use Rattle.std.proofs.Common.{◌≡◌, ℕ, zero, suc, ◌≤◌, nat_lt, List, [], ◌∷◌, ◌++◌, length, take}
use Rattle.std.proofs.Common.{drop, cond, Bool, true, false, is_some, Option, Some, None}
use Rattle.std.proofs.Common.{option_map, refl, sym, ap, ◌∙◌, append_assoc, arith, length-append}
use Rattle.std.proofs.Math.Seq.{take-append_seam, drop-append_seam}
use Rattle.std.proofs.lemmas.Bool.{ltb-false, le-ltb}
use Rattle.std.proofs.lemmas.List.{take-append-drop, length-take-le}
use Rattle.std.proofs.lemmas.Option.{same_Some}
use Rattle.smf_type30.specs.Layout.{accounting}
use Rattle.smf_type30.specs.Section.{count_of}
use Rattle.smf_type30.specs.Accounts.{fields_text, AreAccounts, IsAccount, fields_in, accounts_of}
use Rattle.smf_type30.specs.Accounts.{account_of}

-- a number of fields, with which a text begins
record Begins (count : ℕ) (text : List ℕ) (fields : List (List ℕ)) : Type 0 where
  number : length fields ≡ count
  rest : List ℕ
  begins : text ≡ fields_text fields ++ rest

-- what a walk that continues found: a field that lies inside the text, and others after it
record GoesOn (len : ℕ) (text : List ℕ) (others : Option (List (List ℕ)))
    (fields : List (List ℕ)) : Type 0 where
  inside : nat_lt (length text) len ≡ false
  behind : List (List ℕ)
  found : others ≡ Some behind
  all : fields ≡ take len text ∷ behind

-- a walk that finds fields continues at each
goes_on : (short : Bool) (len : ℕ) (text : List ℕ) (others : Option (List (List ℕ)))
    (fields : List (List ℕ)) → nat_lt (length text) len ≡ short
    → cond short None (option_map (λ list. take len text ∷ list) others) ≡ Some fields
    → GoesOn len text others fields
goes_on true len text others fields is e = cc
goes_on false len text None fields is e = cc
goes_on false len text (Some behind) fields is e =
    record { inside = is; behind = behind; found = refl; all = sym (same_Some _ _ e) }

-- a text begins with one more field where, after it, it begins with the others
one_more : (len : ℕ) (text : List ℕ) (behind : List (List ℕ)) (rest : List ℕ) → len ≤ length text
    → drop len text ≡ fields_text behind ++ rest
    → len ∷ text ≡ fields_text (take len text ∷ behind) ++ rest
one_more len text behind rest within e =
    let field = take len text in
    let whole = sym (take-append-drop len text) ∙ ap (λ tail. field ++ tail) e in
    let tail = whole ∙ sym (append_assoc field (fields_text behind) rest) in
    rw (length-take-le len text within) (ap (λ list. len ∷ list) tail)

-- the text begins with the fields that a walk finds
begins : (count : ℕ) (text : List ℕ) (fields : List (List ℕ)) → fields_in count text ≡ Some fields
    → Begins count text fields
begins zero text fields e =
    let none = same_Some [] fields e in
    record { number = rw (← none); rest = text; begins = rw (← none) }
begins (suc count) [] fields e = cc
begins (suc count) (len ∷ text) fields e =
    let on = goes_on _ len text _ fields refl e in
    let later = begins count (drop len text) on.behind on.found in
    let within = ltb-false _ _ on.inside in
    let more = one_more len text on.behind later.rest within later.begins in
    record {
      number = ap length on.all ∙ ap suc later.number;
      rest = later.rest;
      begins = more ∙ ap (λ list. fields_text list ++ later.rest) (sym on.all);
    }

-- a walk finds the fields with which a text begins
found : (fields : List (List ℕ)) (rest : List ℕ)
    → fields_in (length fields) (fields_text fields ++ rest) ≡ Some fields
found [] rest = refl
found (field ∷ fields) rest =
    let behind = fields_text fields ++ rest in
    let all = append_assoc field (fields_text fields) rest in
    let inside : length field ≤ length (field ++ behind) = rw length-append (omega arith) in
    let fits = le-ltb (length (field ++ behind)) (length field) inside in
    rw (all, fits, take-append_seam field behind, drop-append_seam field behind, found fields rest)

-- accounting fields that are found are those of the record
accounts_are : (bytes : List ℕ) (fields : List (List ℕ)) → accounts_of bytes ≡ Some fields
    → AreAccounts bytes fields
unfolding accounts_of
accounts_are bytes fields e =
    let front = begins (count_of bytes accounting) _ fields e in
    record { number = front.number; rest = front.rest; text = front.begins }

-- and those of the record are found
pub accounts_found : (bytes : List ℕ) (fields : List (List ℕ)) → AreAccounts bytes fields
    → accounts_of bytes ≡ Some fields
unfolding accounts_of
accounts_found bytes fields are =
    rw (← are.number, are.text) (found fields are.rest)

-- the n-th of fields that were found
nth_found : (bytes : List ℕ) (n : ℕ) (found : Option (List (List ℕ))) → accounts_of bytes ≡ found
    → is_some found ≡ true → IsAccount bytes n (account_of bytes n)
unfolding account_of
nth_found bytes n None e there = cc
nth_found bytes n (Some fields) e there =
    record { fields = fields; are = accounts_are bytes fields e; nth = rw e }

-- where a record has accounting fields, what is found as field n is that field
pub is_account : (bytes : List ℕ) (n : ℕ) → is_some (accounts_of bytes) ≡ true
    → IsAccount bytes n (account_of bytes n)
is_account bytes n there = nth_found bytes n (accounts_of bytes) refl there
