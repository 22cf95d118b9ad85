-- Rows of an argument that hold a value that passed.
use Rattle.std.proofs.Common.{◌≡◌, ◌∙◌, ◌&&◌, ◌||◌, ◌⊎◌, inl, inr, ℕ, Bool, true, false, cond, List}
use Rattle.std.proofs.Common.{[], ◌∷◌, ◌++◌, length, Some, None, refl, sym, ap, subst, find}
use Rattle.std.proofs.Common.{bytes_eq, ◌+◌, codes, not, min}
use Rattle.clap.specs.Facts.{parser_of_value}
use Rattle.clap.specs.Faults.{repeat_fault, set_fault, use_fault, values_fault}
use Rattle.clap.specs.Kinds.{range_kinds, value_kinds, values_kinds}
use Rattle.clap.specs.Matches.{count_text}
use Rattle.clap.specs.Values.{refused_kind}
use Rattle.clap.specs.Walk.{at_row, count_of, more_values, new_count, used_as, values_or_missing}
use Rattle.clap.specs.Walk.{with_count, with_values, without}
use Rattle.clap.specs.declared.builder.action.ArgAction.{ArgAction}
use Rattle.clap.specs.declared.builder.action.ArgAction.TheVariants.{Set, Append, SetTrue, SetFalse}
use Rattle.clap.specs.declared.builder.action.ArgAction.TheVariants.{Count}
use Rattle.clap.specs.declared.builder.value_parser.Reading.{Reading}
use Rattle.clap.specs.declared.builder.value_parser.ValueParser.{ValueParser}
use Rattle.clap.specs.declared.error.kind.ErrorKind.{ErrorKind}
use Rattle.clap.specs.declared.parser.matches.ValueSource.{ValueSource}
use Rattle.clap.specs.declared.parser.matches.ValueSource.TheVariants.{CommandLine}
use Rattle.command_line.proofs.Shared.{list_any, same_Some, bytes_eq-Decides, Kinds, or_else}
use Rattle.command_line.proofs.Shared.{accepts, Row, Rule, Text, reading_by, distinct}
use Rattle.clap.specs.declared.error.kind.ErrorKind.TheVariants as kind

-- ---- kinds of faults

pub no_kinds : (k : ErrorKind) (ks : Kinds) → k ∷ ks ≡ [] → ⊥
no_kinds k ks e = cc

pub neither : (a b : Kinds) → or_else a b ≡ [] → (a ≡ []) × (b ≡ [])
neither [] b e = (refl, e)
neither (k ∷ ks) b e = absurd (no_kinds k ks e)

pub none_some : {A : Type 0} (x : A) → None ≡ Some x → ⊥
none_some x e = cc

pub true_false : true ≡ false → ⊥
true_false e = cc

pub or_parts : (a b : Bool) → (a || b) ≡ false → (a ≡ false) × (b ≡ false)
or_parts true b e = absurd (true_false e)
or_parts false b e = (refl, e)

-- ---- rows that fit

-- the first of the values passed the argument's parser, and they are read as it says
abbrev pub Fits : Rule → Reading → List Text → Type 0
Fits t how [] = ⊥
Fits t how (v ∷ vs) =
    (accepts t.ignore_case (parser_of_value t.parser) v ≡ true) × (how ≡ reading_by t)

-- so do those of each row of the argument
abbrev pub AllFit : Rule → List Row → Type 0
AllFit t [] = Unit {0}
AllFit t (r ∷ rs) = (bytes_eq r.id t.id ≡ true → Fits t r.reading r.values) × AllFit t rs

more_fit : (t : Rule) (how : Reading) (xs ys : List Text) → Fits t how xs → Fits t how (xs ++ ys)
more_fit t how [] ys fit = absurd fit
more_fit t how (v ∷ vs) ys fit = fit

append_fits : (t : Rule) (xs ys : List Row) → AllFit t xs → AllFit t ys → AllFit t (xs ++ ys)
append_fits t [] ys first last = last
append_fits t (r ∷ rs) ys first last = (first.0, append_fits t rs ys first.1 last)

at_row_fits : (t : Rule) (id : Text) (change : Row → List Row) (missing rows : List Row)
    → ((r : Row) → (bytes_eq r.id t.id ≡ true → Fits t r.reading r.values) → AllFit t (change r))
    → AllFit t missing → AllFit t rows → AllFit t (at_row id change missing rows)
at_row_fits t id change missing [] changed new fits = new
at_row_fits t id change missing (r ∷ rs) changed new fits =
    go (bytes_eq r.id id) (at_row_fits t id change missing rs changed new fits.1)
  where
    go : (b : Bool) → AllFit t (at_row id change missing rs)
        → AllFit t (cond b (change r ++ rs) (r ∷ at_row id change missing rs))
    go true rest = append_fits t (change r) rs (changed r fits.0) fits.1
    go false rest = (fits.0, rest)

without_fits : (t : Rule) (id : Text) (rows : List Row) → AllFit t rows → AllFit t (without id rows)
without_fits t id rows fits = at_row_fits t id (λ _. []) [] rows (λ r had. tt) tt fits

pub with_values_fits : (t : Rule) (id : Text) (how : Reading) (s : ValueSource) (values : List Text)
    (rows : List Row) → (bytes_eq id t.id ≡ true → Fits t how values) → AllFit t rows
    → AllFit t (with_values id how s values rows)
with_values_fits t id how s values rows fit fits =
    at_row_fits t id (more_values s values)
    (record { id = id; values = values; count = None; source = Some s; reading = how } ∷ []) rows
    (λ r had. ((λ own. more_fit t r.reading r.values values (had own)), tt)) (fit, tt) fits

with_count_fits : (t : Rule) (id : Text) (how : Reading) (s : ValueSource) (n : ℕ) (rows : List Row)
    → (bytes_eq id t.id ≡ true → ⊥) → AllFit t rows → AllFit t (with_count id how s n rows)
with_count_fits t id how s n rows other fits =
    at_row_fits t id (new_count s n)
    (record {
      id = id;
      values = count_text n ∷ [];
      count = Some n;
      source = Some s;
      reading = how;
    } ∷ []) rows
    (λ r had. ((λ own. more_fit t r.reading r.values (count_text n ∷ []) (had own)), tt))
    ((λ own. absurd (other own)), tt) fits

pub used_as_fits : (t : Rule) (action : ArgAction) (id : Text) (how : Reading) (values : List Text)
    (rows : List Row) → (bytes_eq id t.id ≡ true → Fits t how values) → AllFit t rows
    → AllFit t (used_as action id how values rows)
used_as_fits t Set id how values rows fit fits = with_values_fits t id how CommandLine values
    (without id rows) fit (without_fits t id rows fits)
used_as_fits t SetTrue id how values rows fit fits = with_values_fits t id how CommandLine values
    (without id rows) fit (without_fits t id rows fits)
used_as_fits t SetFalse id how values rows fit fits = with_values_fits t id how CommandLine values
    (without id rows) fit (without_fits t id rows fits)
used_as_fits t Append id how values rows fit fits =
    with_values_fits t id how CommandLine values rows fit fits
used_as_fits t Count id how [] rows fit fits = with_count_fits t id how CommandLine
    (min (count_of id rows + 1) 255) (without id rows) fit (without_fits t id rows fits)
used_as_fits t Count id how (v ∷ vs) rows fit fits = with_values_fits t id how CommandLine (v ∷ vs)
    (without id rows) fit (without_fits t id rows fits)
used_as_fits t other id how values rows fit fits = fits

-- ---- values that passed

value_passed : (ignore_case : Bool) (p : ValueParser) (text : Text)
    → value_kinds ignore_case p text ≡ [] → accepts ignore_case p text ≡ true
value_passed ignore_case p text none = go (accepts ignore_case p text) none
  where
    go : (b : Bool) → cond b [] (refused_kind p ∷ []) ≡ [] → b ≡ true
    go true e = refl
    go false e = absurd (no_kinds (refused_kind p) [] e)

pub first_passed : (t : Rule) (v : Text) (vs : List Text) → values_fault t (v ∷ vs) ≡ []
    → accepts t.ignore_case (parser_of_value t.parser) v ≡ true
first_passed t v vs none =
    value_passed t.ignore_case (parser_of_value t.parser) v
    (neither (value_kinds t.ignore_case (parser_of_value t.parser) v)
    (values_kinds t.ignore_case (parser_of_value t.parser) vs) none).0

-- an argument's value passes where a use of it has no fault
abbrev pub Takes : Bool → Rule → Type 0
Takes again t = (values : List Text) (rows : List Row) → use_fault again t values rows ≡ []
    → Fits t (reading_by t) (values_or_missing t values)

set_fits : (again : Bool) (t : Rule) (v : Text) (vs : List Text) (rows : List Row)
    → set_fault again t (v ∷ vs) rows ≡ [] → Fits t (reading_by t) (v ∷ vs)
set_fits again t v vs rows none = (
  first_passed t v vs (neither (repeat_fault again t.id rows) (values_fault t (v ∷ vs)) none).1,
  refl,
)

-- an argument that takes one value
abbrev pub valued : Rule → Rule
valued r = record r {
  action = Some Set;
  range = Some (record { start_inclusive = 1; end_inclusive = 1 });
}

pub valued_takes : (again : Bool) (r : Rule) → Takes again (valued r)
valued_takes again r [] rows none = absurd (no_kinds kind.InvalidValue [] none)
valued_takes again r (v ∷ vs) rows none = set_fits again (valued r) v vs rows
    (neither (range_kinds 1 1 (length (v ∷ vs))) (set_fault again (valued r) (v ∷ vs) rows) none).1

-- a flag
abbrev pub flagged : Rule → Rule
flagged r = record r {
  action = Some SetTrue;
  range = Some (record { start_inclusive = 0; end_inclusive = 0 });
  missing = codes "true" ∷ [];
}

pub flagged_takes : (again : Bool) (r : Rule) → Takes again (flagged r)
flagged_takes again r [] rows none = set_fits again (flagged r) (codes "true") [] rows
    (neither (range_kinds 0 0 0) (set_fault again (flagged r) (codes "true" ∷ []) rows) none).1
flagged_takes again r (v ∷ vs) rows none = set_fits again (flagged r) v vs rows
    (neither (range_kinds 0 0 (length (v ∷ vs))) (set_fault again (flagged r) (v ∷ vs) rows) none).1

-- ---- an argument among others

abbrev pub In : Rule → List Rule → Type 0
In t [] = ⊥
In t (a ∷ rest) = (a ≡ t) ⊎ In t rest

-- an argument with its id is itself
abbrev pub OwnIn : Rule → List Rule → Type 0
OwnIn t [] = Unit {0}
OwnIn t (a ∷ rest) = (bytes_eq a.id t.id ≡ true → a ≡ t) × OwnIn t rest

both : (a b : Bool) → (not a && b) ≡ true → (a ≡ false) × (b ≡ true)
both true b e = absurd (true_false (sym e))
both false b e = (refl, e)

apart : (t : Rule) (rules : List Rule) → list_any (λ b. bytes_eq b.id t.id) rules ≡ false
    → OwnIn t rules
apart t [] none = tt
apart t (a ∷ rest) none =
    let parts = or_parts (bytes_eq a.id t.id) (list_any (λ b. bytes_eq b.id t.id) rest) none in
    ((λ same. absurd (true_false (sym same ∙ parts.0))), apart t rest parts.1)

pub passed_over : (p : Rule → Bool) (t : Rule) (rules : List Rule) → list_any p rules ≡ false → In t rules
    → p t ≡ false
passed_over p t [] none is = absurd is
passed_over p t (a ∷ rest) none (inl is) =
    ap p (sym is) ∙ (or_parts (p a) (list_any p rest) none).0
passed_over p t (a ∷ rest) none (inr later) =
    passed_over p t rest (or_parts (p a) (list_any p rest) none).1 later

pub own_in : (t : Rule) (rules : List Rule) → distinct rules ≡ true → In t rules → OwnIn t rules
own_in t [] own is = tt
own_in t (a ∷ rest) own (inl is) =
    let parts = both (list_any (λ b. bytes_eq b.id a.id) rest) (distinct rest) own in (
      (λ same. is),
      apart t rest
          (subst (λ (c : Rule). list_any (λ b. bytes_eq b.id c.id) rest ≡ false) is parts.0),
    )
own_in t (a ∷ rest) own (inr later) =
    let parts = both (list_any (λ b. bytes_eq b.id a.id) rest) (distinct rest) own in
    let other : bytes_eq t.id a.id ≡ false =
    passed_over (λ b. bytes_eq b.id a.id) t rest parts.0 later in (
      (λ same.
          let again : bytes_eq t.id a.id ≡ true =
          (bytes_eq-Decides t.id a.id).1 (sym ((bytes_eq-Decides a.id t.id).0 same)) in
          absurd (true_false (sym again ∙ other))),
      own_in t rest parts.1 later,
    )

pub own_found : (t : Rule) (rules : List Rule) (p : Rule → Bool) (a : Rule) → OwnIn t rules
    → find p rules ≡ Some a → bytes_eq a.id t.id ≡ true → a ≡ t
own_found t [] p a own found same = absurd (none_some a found)
own_found t (b ∷ rest) p a own found same =
    go (p b) found (λ later. own_found t rest p a own.1 later same)
  where
    go : (x : Bool) → cond x (Some b) (find p rest) ≡ Some a → (find p rest ≡ Some a → a ≡ t) → a ≡ t
    go true here later =
        let is : b ≡ a = same_Some b a here in
        sym is ∙ own.0 (subst (λ (c : Rule). bytes_eq c.id t.id ≡ true) (sym is) same)
    go false here later = later here
