-- A level without a fault: each argument that is required, or has a default, has its value.
use Rattle.std.proofs.Common.{◌≡◌, ◌&&◌, ◌||◌, inl, inr, Bool, true, false, cond, List, [], ◌∷◌}
use Rattle.std.proofs.Common.{◌++◌, length, Some, None, refl, sym, ap, subst, arith, find, fold}
use Rattle.std.proofs.Common.{option_map, bytes_eq, not, option_and_then, slice_get, ne_eqb}
use Rattle.std.proofs.lemmas.Bool.{not-false}
use Rattle.clap.specs.Facts.{explicit_source, parser_of_value}
use Rattle.clap.specs.Faults.{check_fault, default_fault, defaults_fault, given_default_fault}
use Rattle.clap.specs.Faults.{settle_fault, values_fault, walk_fault}
use Rattle.clap.specs.Kinds.{check_kinds, request_kinds}
use Rattle.clap.specs.Takes.{is_given}
use Rattle.clap.specs.Values.{read_as}
use Rattle.clap.specs.Walk.{action_of, at_row, default_rows, finished, has_row, is_empty}
use Rattle.clap.specs.Walk.{more_values, row_text, settled, walk, walk_from, with_default}
use Rattle.clap.specs.Walk.{with_values}
use Rattle.clap.specs.declared.builder.value_parser.Reading.{Reading}
use Rattle.clap.specs.declared.parser.matches.ValueSource.{ValueSource}
use Rattle.clap.specs.declared.parser.matches.ValueSource.TheVariants.{DefaultValue}
use Rattle.command_line.proofs.RowLemmas.{AllFit, Fits, In, OwnIn, Takes, first_passed, neither}
use Rattle.command_line.proofs.RowLemmas.{no_kinds, passed_over, true_false, with_values_fits}
use Rattle.command_line.proofs.WalkedRows.{settled_fits, walk_fits}
use Rattle.command_line.proofs.Shared.{list_any, option_map_or, bytes_eq-Decides, level_fault}
use Rattle.command_line.proofs.Shared.{Kinds, or_else, Shape, accepts, Names, Row, Rule, Text}
use Rattle.command_line.proofs.Shared.{first_of, nothing_held, one_of, reading_by, rows_after}
use Rattle.clap.specs.declared.error.kind.ErrorKind.TheVariants as kind

-- ---- defaults

not_empty : (v : Text) (vs : List Text) → is_empty (v ∷ vs) ≡ false
not_empty v vs = ne_eqb (length (v ∷ vs)) 0 (λ e. omega arith)

default_fits : (t a : Rule) (rows : List Row) → (bytes_eq a.id t.id ≡ true → a ≡ t)
    → default_fault rows a ≡ [] → AllFit t rows → AllFit t (with_default rows a)
default_fits t a rows own none fits = go (has_row a.id rows) a.defaults none
  where
    go : (b : Bool) (values : List Text)
        → cond (b || is_empty values) [] (given_default_fault a values) ≡ []
        → AllFit t (cond b rows (default_rows a.id (reading_by a) values rows))
    go true values none = fits
    go false [] none = fits
    go false (v ∷ vs) none =
        with_values_fits t a.id (reading_by a) DefaultValue (v ∷ vs) rows
        (λ same.
        let is : a ≡ t = own same in
        let given : given_default_fault a (v ∷ vs) ≡ [] =
        subst (λ b. cond b [] (given_default_fault a (v ∷ vs)) ≡ []) (not_empty v vs) none in (
          subst (λ (b : Rule). accepts b.ignore_case (parser_of_value b.parser) v ≡ true) is
              (first_passed a v vs (neither (request_kinds (action_of a)) (values_fault a (v ∷ vs))
              given).1),
          ap (λ (b : Rule). reading_by b) is,
        ))
        fits

defaults_fits : (t : Rule) (rules : List Rule) (rows : List Row) → OwnIn t rules
    → defaults_fault rows rules ≡ [] → AllFit t rows → AllFit t (fold with_default rows rules)
unfolding defaults_fault
defaults_fits t [] rows own none fits = fits
defaults_fits t (a ∷ rest) rows own none fits =
    let parts = neither (default_fault rows a) (defaults_fault (with_default rows a) rest) none in
    defaults_fits t rest (with_default rows a) own.1 parts.1
    (default_fits t a rows own.0 parts.0 fits)

-- ---- which rows there are

or_left : (a b : Bool) → a ≡ true → (a || b) ≡ true
or_left true b e = refl
or_left false b e = absurd (true_false (sym e))

or_right : (a b : Bool) → b ≡ true → (a || b) ≡ true
or_right true b e = refl
or_right false b e = e

or_more : (a b c : Bool) → (b ≡ true → c ≡ true) → (a || b) ≡ true → (a || c) ≡ true
or_more true b c more e = refl
or_more false b c more e = more e

more_has : (id other : Text) (s : ValueSource) (values : List Text) (missing rows : List Row)
    → has_row id rows ≡ true → has_row id (at_row other (more_values s values) missing rows) ≡ true
more_has id other s values missing [] has = absurd (true_false (sym has))
more_has id other s values missing (r ∷ rs) has =
    go (bytes_eq r.id other) (λ had. more_has id other s values missing rs had)
  where
    go : (b : Bool)
        → (has_row id rs ≡ true → has_row id (at_row other (more_values s values) missing rs) ≡ true)
        → has_row id (cond b (more_values s values r ++ rs)
        (r ∷ at_row other (more_values s values) missing rs)) ≡ true
    go true later = has
    go false later = or_more (bytes_eq r.id id) (has_row id rs)
        (has_row id (at_row other (more_values s values) missing rs)) later has

new_has : (id : Text) (how : Reading) (s : ValueSource) (values : List Text) (rows : List Row)
    → has_row id (with_values id how s values rows) ≡ true
new_has id how s values [] = or_left (bytes_eq id id) false ((bytes_eq-Decides id id).1 refl)
new_has id how s values (r ∷ rs) = go (bytes_eq r.id id) refl (new_has id how s values rs)
  where
    go : (b : Bool) → bytes_eq r.id id ≡ b → has_row id (with_values id how s values rs) ≡ true
        → has_row id (cond b (more_values s values r ++ rs) (r ∷ with_values id how s values rs))
        ≡ true
    go true is later = or_left (bytes_eq r.id id) (has_row id rs) is
    go false is later = or_right (bytes_eq r.id id) (has_row id (with_values id how s values rs)) later

default_keeps : (id : Text) (a : Rule) (rows : List Row) → has_row id rows ≡ true
    → has_row id (with_default rows a) ≡ true
default_keeps id a rows has = go (has_row a.id rows) a.defaults
  where
    go : (b : Bool) (values : List Text)
        → has_row id (cond b rows (default_rows a.id (reading_by a) values rows)) ≡ true
    go true values = has
    go false [] = has
    go false (v ∷ vs) = more_has id a.id DefaultValue (v ∷ vs)
        (record {
          id = a.id;
          values = v ∷ vs;
          count = None;
          source = Some DefaultValue;
          reading = reading_by a;
        } ∷ []) rows has

defaults_keep : (id : Text) (rules : List Rule) (rows : List Row) → has_row id rows ≡ true
    → has_row id (fold with_default rows rules) ≡ true
defaults_keep id [] rows has = has
defaults_keep id (a ∷ rest) rows has =
    defaults_keep id rest (with_default rows a) (default_keeps id a rows has)

-- an argument with a default gets a row
abbrev pub HasDefault : Rule → Type 0
HasDefault t = (rows : List Row) → has_row t.id (with_default rows t) ≡ true

-- an argument with a default
abbrev pub defaulted : Text → List Text → Rule → Rule
defaulted v vs r = record r { defaults = v ∷ vs }

pub defaulted_has : (v : Text) (vs : List Text) (r : Rule) → HasDefault (defaulted v vs r)
defaulted_has v vs r rows = go (has_row r.id rows) refl
  where
    go : (b : Bool) → has_row r.id rows ≡ b
        → has_row r.id (cond b rows (with_values r.id (reading_by r) DefaultValue (v ∷ vs) rows))
        ≡ true
    go true is = is
    go false is = new_has r.id (reading_by r) DefaultValue (v ∷ vs) rows

defaults_have : (t : Rule) (rules : List Rule) (rows : List Row) → HasDefault t → In t rules
    → has_row t.id (fold with_default rows rules) ≡ true
defaults_have t [] rows default is = absurd is
defaults_have t (a ∷ rest) rows default (inl is) =
    defaults_keep t.id rest (with_default rows a)
    (subst (λ (b : Rule). has_row t.id (with_default rows b) ≡ true) (sym is) (default rows))
defaults_have t (a ∷ rest) rows default (inr later) =
    defaults_have t rest (with_default rows a) default later

given_has : (id : Text) (rows : List Row) → is_given id rows ≡ true → has_row id rows ≡ true
given_has id [] given = absurd (true_false (sym given))
given_has id (r ∷ rs) given = go (bytes_eq r.id id) given (λ later. given_has id rs later)
  where
    go : (b : Bool)
        → option_map_or (λ (x : Row). explicit_source x.source)
        (cond b (Some r) (find (λ x. bytes_eq x.id id) rs)) false ≡ true
        → (is_given id rs ≡ true → has_row id rs ≡ true) → (b || has_row id rs) ≡ true
    go true here later = refl
    go false here later = later here

-- ---- the end of a level

pub checks_passed : (a b c : Bool) → check_kinds a b c ≡ []
    → (a ≡ false) × (b ≡ false) × (c ≡ false)
checks_passed true b c e = absurd (no_kinds kind.DisplayHelpOnMissingArgumentOrSubcommand [] e)
checks_passed false true c e = absurd (no_kinds kind.MissingSubcommand [] e)
checks_passed false false true e = absurd (no_kinds kind.MissingRequiredArgument [] e)
checks_passed false false false e = (refl, refl, refl)

-- the steps of a level that has no fault
pub record NoFault (s : Shape) (names : Names) (words : List Text) (has_subcommand : Bool)
    (below : Kinds) : Type 0 where
  pub walks : walk_fault s names (walk_from nothing_held) words ≡ []
  pub beneath : below ≡ []
  pub settles : settle_fault s.rules s.args_override_self
      (walk s.rules names nothing_held words).held ≡ []
  pub fills : defaults_fault
      (settled s.rules (walk s.rules names nothing_held words).held).rows s.rules ≡ []
  pub checks : check_fault s (rows_after s.rules names words) has_subcommand ≡ []

pub no_fault : (s : Shape) (names : Names) (words : List Text) (has_subcommand : Bool) (below : Kinds)
    → level_fault s names nothing_held words has_subcommand below ≡ []
    → NoFault s names words has_subcommand below
no_fault s names words has_subcommand below none =
    let end = (walk s.rules names nothing_held words).held in
    let last = check_fault s (finished s.rules end) has_subcommand in
    let fills = defaults_fault (settled s.rules end).rows s.rules in
    let settles = settle_fault s.rules s.args_override_self end in
    let a = neither (walk_fault s names (walk_from nothing_held) words)
    (or_else below (or_else settles (or_else fills last))) none in
    let b = neither below (or_else settles (or_else fills last)) a.1 in
    let c = neither settles (or_else fills last) b.1 in
    let d = neither fills last c.1 in
    record { walks = a.0; beneath = b.0; settles = c.0; fills = d.0; checks = d.1 }

pub rows_fit : (s : Shape) (t : Rule) (words : List Text) → OwnIn t s.rules
    → Takes s.args_override_self t → NoFault s [] words false []
    → AllFit t (rows_after s.rules [] words)
rows_fit s t words own takes none =
    let end = (walk s.rules [] nothing_held words).held in
    defaults_fits t s.rules (settled s.rules end).rows own none.fills
    (settled_fits s t own takes end.pending end.rows none.settles
    (walk_fits s t own takes [] words (walk_from nothing_held) none.walks tt))

pub default_row : (s : Shape) (t : Rule) (words : List Text) → HasDefault t → In t s.rules
    → has_row t.id (rows_after s.rules [] words) ≡ true
default_row s t words default is =
    defaults_have t s.rules (settled s.rules (walk s.rules [] nothing_held words).held).rows default is

-- an argument that is required
abbrev pub required : Rule → Rule
required r = record r { required = true }

required_checked : (negates any : Bool) → (not (negates && false) && any) ≡ false → any ≡ false
required_checked true any e = e
required_checked false any e = e

pub required_row : (s : Shape) (r : Rule) (words : List Text) → NoFault s [] words false []
    → In (required r) s.rules → has_row r.id (rows_after s.rules [] words) ≡ true
required_row s r words none is =
    let rows = rows_after s.rules [] words in
    let wants = list_any (λ (a : Rule). a.required && not (is_given a.id rows)) s.rules in
    let checks = checks_passed _ _ (not (s.subcommand_negates_reqs && false) && wants) none.checks in
    given_has r.id rows (not-false (is_given r.id rows)
    (passed_over (λ a. a.required && not (is_given a.id rows)) (required r) s.rules
    (required_checked s.subcommand_negates_reqs wants checks.2) is))

-- ---- the value of an argument

-- the argument has a value that passed
abbrev pub HasValueOf : Rule → List Row → Type 0
HasValueOf t rows = (v : Text) × (first_of t.id rows ≡ Some v)
    × (one_of t.id rows ≡ Some (read_as (reading_by t) v))
    × (accepts t.ignore_case (parser_of_value t.parser) v ≡ true)

value_at : (t : Rule) (how : Reading) (values : List Text) → Fits t how values
    → (v : Text) × (slice_get values 0 ≡ Some v)
    × (option_map (read_as how) (slice_get values 0) ≡ Some (read_as (reading_by t) v))
    × (accepts t.ignore_case (parser_of_value t.parser) v ≡ true)
value_at t how [] fit = absurd fit
value_at t how (v ∷ vs) fit = (v, refl, ap (λ h. Some (read_as h v)) fit.1, fit.0)

pub row_value : (t : Rule) (rows : List Row) → AllFit t rows → has_row t.id rows ≡ true
    → HasValueOf t rows
row_value t [] fits has = absurd (true_false (sym has))
row_value t (r ∷ rs) fits has =
    go (bytes_eq r.id t.id) refl has (λ later. row_value t rs fits.1 later)
  where
    go : (b : Bool) → bytes_eq r.id t.id ≡ b → (b || has_row t.id rs) ≡ true
        → (has_row t.id rs ≡ true → HasValueOf t rs)
        → (v : Text)
        × (option_and_then (λ (x : Row). slice_get x.values 0)
        (cond b (Some r) (find (λ (x : Row). bytes_eq x.id t.id) rs)) ≡ Some v)
        × (option_and_then row_text (cond b (Some r) (find (λ (x : Row). bytes_eq x.id t.id) rs))
        ≡ Some (read_as (reading_by t) v))
        × (accepts t.ignore_case (parser_of_value t.parser) v ≡ true)
    go true is here later = value_at t r.reading r.values (fits.0 is)
    go false is here later = later here
