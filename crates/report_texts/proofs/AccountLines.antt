-- A walk over accounting fields, and the lines that it writes.
use Rattle.std.proofs.Common.{◌≡◌, ◌∙◌, ℕ, suc, ◌+◌, ◌-◌, ◌<◌, List, ◌∷◌, ◌++◌, Option, None, Some}
use Rattle.std.proofs.Common.{append_assoc, ap, arith, is_some, refl, sym, true, option_map}
use Rattle.smf_type30.specs.AccountWalk.{BeginsWith}
use Rattle.smf_type30.specs.Accounts.{fields_in}
use Rattle.report_texts.specs.UsageLines.{account_line, account_lines}

-- After some of a number of fields the rest has the others; and what was written, with the lines of
-- the others behind it, is all that is to be written.
pub record IsAt (count at : ℕ) (text rest old out : List ℕ) : Type 0 where
  pub there : is_some (fields_in (count - at) rest) ≡ true
  pub lines : out ++ account_lines (fields_in (count - at) rest)
      ≡ old ++ account_lines (fields_in count text)

-- one more field
with_one : (field out : List ℕ) (others : Option (List (List ℕ)))
    → is_some (option_map (λ fields. field ∷ fields) others) ≡ true
    → (is_some others ≡ true) × ((out ++ account_line field) ++ account_lines others
    ≡ out ++ account_lines (option_map (λ fields. field ∷ fields) others))
with_one field out None there = cc
with_one field out (Some fields) there =
    (refl, append_assoc out (account_line field) (account_lines (Some fields)))

-- the others, where some are left
abbrev left : ℕ → ℕ → ℕ
left count at = count - (at + 1)

one_left : (count at : ℕ) → at < count → count - at ≡ suc (left count at)
one_left count at more = omega arith

-- a field is read, and its line written
pub reads_on : (count at : ℕ) (text rest after field old out : List ℕ) → at < count
    → IsAt count at text rest old out → BeginsWith rest field after
    → IsAt count (at + 1) text after old (out ++ account_line field)
reads_on count at text rest after field old out more is begins =
    let found : fields_in (count - at) rest
    ≡ option_map (λ fields. field ∷ fields) (fields_in (left count at) after) =
    ap (λ n. fields_in n rest) (one_left count at more) ∙ begins (left count at) in
    let next = with_one field out (fields_in (left count at) after) (sym (ap is_some found) ∙ is.there) in
    record {
      there = next.0;
      lines = next.1 ∙ sym (ap (λ fields. out ++ account_lines fields) found) ∙ is.lines;
    }
