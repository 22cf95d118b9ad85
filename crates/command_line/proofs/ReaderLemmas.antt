-- What the readers of clap's matches give.
use Rattle.std.proofs.Common.{◌≡◌, ◌∙◌, ◌<◌, ◌^◌, ◌||◌, ℕ, Bool, true, false, cond, List, [], ◌∷◌}
use Rattle.std.proofs.Common.{map, Option, Some, None, Result, Ok, Err, refl, sym, ap, subst, Bor}
use Rattle.std.proofs.Common.{find, option_map, IfSome, IsSome, IsSomeAnd, is_some, pos, bytes_eq}
use Rattle.std.specs.Str.Parse.{ExplainsUnsignedError, HasUnsignedDigitsIfOk, IsNumeral, ParsesBool}
use Rattle.std.specs.Str.Parse.{ParsesUnsigned, digits_value, without_leading_plus}
use Rattle.std.specs.declared.num.ParseIntError.{ParseIntError}
use Rattle.clap.specs.Lexer.{without_minus}
use Rattle.clap.specs.Matches.{ReadsOne}
use Rattle.clap.specs.Values.{bool_text}
use Rattle.clap.specs.Walk.{rows_of}
use Rattle.clap.specs.declared.parser.matches.Found.{Found}
use Rattle.clap.proofs.CallerReads.{signed_reads}
use Rattle.command_line.specs.Given.{HasNumber, HasRate, NoneIs}
use Rattle.command_line.specs.Requests.{IsFlag, IsLeftOut, IsNumber, IsText, Writes}
use Rattle.command_line.proofs.RowLemmas.{none_some, true_false}
use Rattle.command_line.proofs.Shared.{list_any, bytes_eq-Decides, one_text, Row, Text, first_of}
use Rattle.command_line.proofs.Shared.{one_of, one_text-rows}

-- ---- a text

pub read_text : (rows : List Row) (name : Text) (o : Option (Bor Text))
    → option_map (λ s. s.now) o ≡ first_of name rows → IfSome o (IsText rows name)
read_text rows name None is = tt
read_text rows name (Some s) is = sym is

pub has_text : (rows : List Row) (name : Text) (o : Option (Bor Text))
    → option_map (λ s. s.now) o ≡ first_of name rows → IsSome (first_of name rows) → IsSome o
has_text rows name None is some = absurd (true_false (sym some ∙ ap is_some (sym is)))
has_text rows name (Some s) is some = refl

pub none_read : (rows : List Row) (name : Text) (o : Option (Bor Text))
    → option_map (λ s. s.now) o ≡ first_of name rows → o ≡ None → IsLeftOut rows name
none_read rows name None is none = sym is
none_read rows name (Some s) is none = absurd (none_some s (sym none))

-- where no text is read, none was given
pub left_out : (rows : List Row) (name : Text)
    → (IsSome (first_of name rows) → IsSome {T = Bor Text} None) → IsLeftOut rows name
left_out rows name some = go (first_of name rows) some
  where
    go : (found : Option Text) → (IsSome found → IsSome {T = Bor Text} None) → found ≡ None
    go None some = refl
    go (Some text) some = absurd (true_false (sym (some refl)))

-- ---- a number

module _ {E : Type 0} (G : Text → Result ℕ E → Type 0) (k : ℕ)
    (only : (t : Text) (x : Result ℕ E) → G t x → ParsesUnsigned k 10 t x) where
  read_some : (t : Text) (r : Option ℕ) → ReadsOne G t r → IfSome r (λ n. Writes t n)
  read_some t None reads = tt
  read_some t (Some n) reads =
      let parsed = only t (Ok n) reads in
      (parsed.0.0, parsed.1)

  read_at : (o : Option Text) (r : Option ℕ) → (o ≡ None → r ≡ None)
      → ((t : Text) → o ≡ Some t → ReadsOne G t r) → IfSome r (λ n. IsSomeAnd o (λ t. Writes t n))
  read_at None r none reads =
      subst (λ (r : Option ℕ). IfSome r (λ n. IsSomeAnd None (λ t. Writes t n))) (sym (none refl)) tt
  read_at (Some t) r none reads = read_some t r (reads t refl)

  pub read_number : (rows : List Row) (name : Text) (o : Option Text) (r : Option ℕ)
      → o ≡ one_of name rows → (o ≡ None → r ≡ None)
      → ((t : Text) → o ≡ Some t → ReadsOne G t r) → IfSome r (IsNumber rows name)
  read_number rows name o r is none reads =
      subst (λ (o : Option Text). IfSome r (λ n. IsSomeAnd o (λ t. Writes t n))) is
      (read_at o r none reads)

  pub has_number : (rows : List Row) (name : Text) (o : Option Text) (r : Option ℕ)
      (most : ℕ) → o ≡ one_of name rows → ((t : Text) → o ≡ Some t → ReadsOne G t r)
      → most < 2 ^ k → HasNumber rows name (pos most) → IsSome r
  has_number rows name o r most is reads fits has =
      let given = signed_reads E G k has.1 most has.0 r (reads (without_minus has.0) (is ∙ has.2)) only
      fits has.3 in
      ap is_some given.1

  numeral_read : (t : Text) (r : Option ℕ) → ReadsOne G t r
      → IsNumeral 10 (without_leading_plus t)
      → digits_value 10
      (without_leading_plus t) < 2 ^ k → IsSome r
  numeral_read t (Some n) reads numeral small = refl
  numeral_read t None reads numeral small = absurd (only t (Err reads.0) reads.1 (numeral, small))

  pub has_rate : (rows : List Row) (name : Text) (o : Option Text) (r : Option ℕ) → k ≡ 64
      → o ≡ one_of name rows → ((t : Text) → o ≡ Some t → ReadsOne G t r) → HasRate rows name
      → IsSome r
  has_rate rows name o r bits is reads has =
      numeral_read has.0 r (reads has.0 (is ∙ has.1)) has.2
      (subst (λ (k : ℕ). digits_value 10
      (without_leading_plus has.0) < 2 ^ k) (sym bits) has.3)

-- what std says of a text that is read as a number of so many bits
abbrev pub ReadsUnsigned : ℕ → Text → Result ℕ ParseIntError → Type 0
ReadsUnsigned k text r =
    ParsesUnsigned k 10 text r × ExplainsUnsignedError 10 text r × HasUnsignedDigitsIfOk text r

-- a number that is found, up to one that has so many bits
pub number_found : (k most : ℕ) (found : Found) (name : Text) (r : Option ℕ)
    → (one_text found name ≡ None → r ≡ None)
    → ((t : Text) → one_text found name ≡ Some t → ReadsOne (ReadsUnsigned k) t r) → most < 2 ^ k
    → IfSome r (IsNumber (rows_of found) name)
    × (HasNumber (rows_of found) name (pos most) → IsSome r)
number_found k most found name r none reads fits = (
  read_number (ReadsUnsigned k) k (λ t x gives. gives.0) (rows_of found) name (one_text found name) r
      (one_text-rows found name) none reads,
  has_number (ReadsUnsigned k) k (λ t x gives. gives.0) (rows_of found) name (one_text found name) r
      most (one_text-rows found name) reads fits,
)

-- ---- a flag

module _ (E : Type 0) where
  abbrev pub ReadsFlag : Text → Option Bool → Type 0
  ReadsFlag t r = ReadsOne {E = E} ParsesBool t r

  flag_some : (t : Text) (r : Option Bool) → ReadsFlag t r
      → IfSome r (λ flag. Some t ≡ Some (bool_text flag))
  flag_some t None reads = tt
  flag_some t (Some true) reads = ap Some reads
  flag_some t (Some false) reads = ap Some reads

  flag_at : (o : Option Text) (r : Option Bool) → (o ≡ None → r ≡ None)
      → ((t : Text) → o ≡ Some t → ReadsFlag t r) → IfSome r (λ flag. o ≡ Some (bool_text flag))
  flag_at None r none reads =
      subst (λ (r : Option Bool). IfSome r (λ flag. None ≡ Some (bool_text flag))) (sym (none refl))
      tt
  flag_at (Some t) r none reads = flag_some t r (reads t refl)

  pub read_flag : (rows : List Row) (name : Text) (o : Option Text) (r : Option Bool)
      → o ≡ one_of name rows → (o ≡ None → r ≡ None) → ((t : Text) → o ≡ Some t → ReadsFlag t r)
      → IfSome r (IsFlag rows name)
  read_flag rows name o r is none reads =
      subst (λ (o : Option Text). IfSome r (λ flag. o ≡ Some (bool_text flag))) is
      (flag_at o r none reads)

  flag_read : (flag : Bool) (r : Option Bool) → ReadsFlag (bool_text flag) r → IsSome r
  flag_read flag (Some b) reads = refl
  flag_read true None reads = absurd (reads.1.0 refl)
  flag_read false None reads = absurd (reads.1.1 refl)

  pub has_flag : (rows : List Row) (name : Text) (o : Option Text) (r : Option Bool)
      → o ≡ one_of name rows → ((t : Text) → o ≡ Some t → ReadsFlag t r)
      → ((flag : Bool) × IsFlag rows name flag) → IsSome r
  has_flag rows name o r is reads has = flag_read has.0 r (reads (bool_text has.0) (is ∙ has.1))

-- ---- one of several texts

pub not_among : (texts : List Text) (text : Text) → NoneIs texts text
    → list_any (λ one. bytes_eq one text) texts ≡ true → ⊥
not_among [] text none is = true_false (sym is)
not_among (one ∷ more) text none is =
    go (bytes_eq one text) refl is (λ later. not_among more text none.1 later)
  where
    go : (b : Bool) → bytes_eq one text ≡ b
        → (b || list_any (λ other. bytes_eq other text) more) ≡ true
        → (list_any (λ other. bytes_eq other text) more ≡ true → ⊥) → ⊥
    go true same here later = none.0 (sym ((bytes_eq-Decides one text).0 same))
    go false same here later = later here

-- of the texts that may be given, where it has the value of one of them
pub not_given : (texts : List Text) (o : Option Text) (text : Text) → o ≡ Some text
    → NoneIs texts text → IsSomeAnd o (λ t. list_any (λ one. bytes_eq one t) texts ≡ true) → ⊥
not_given texts o text is none among =
    not_among texts text none
    (subst (λ o. IsSomeAnd o (λ t. list_any (λ one. bytes_eq one t) texts ≡ true)) is among)

module _ {X : Type 0} (P : Text × X → Type 0) where
  pub not_named : (table : List (Text × X)) (name : Text) → NoneIs (map (λ c. c.0) table) name
      → IsSomeAnd (find (λ c. bytes_eq c.0 name) table) P → ⊥
  not_named [] name none found = found
  not_named (c ∷ more) name none found =
      go (bytes_eq c.0 name) refl found (λ later. not_named more name none.1 later)
    where
      go : (b : Bool) → bytes_eq c.0 name ≡ b
          → IsSomeAnd (cond b (Some c) (find (λ d. bytes_eq d.0 name) more)) P
          → (IsSomeAnd (find (λ d. bytes_eq d.0 name) more) P → ⊥) → ⊥
      go true same here later = none.0 (sym ((bytes_eq-Decides c.0 name).0 same))
      go false same here later = later here
