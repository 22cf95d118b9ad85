-- A loop over the entries of an array, up to the first that is no rule.
use Rattle.std.proofs.Common.{◌≡◌, ℕ, ◌+◌, ◌<◌, ◌≤◌, true, false, cond, List, length, drop}
use Rattle.std.proofs.Common.{get_or, map, Option, Some, None, Result, ◌∙◌, ap}
use Rattle.std.proofs.lemmas.List.{at_drop_all, at_drop_more}
use Rattle.std.specs.List.{position_from}
use Rattle.toml.specs.Data.{Data}
use Rattle.toml.specs.View.{view}
use Rattle.toml.specs.declared.value.Value.{Value}
use Rattle.tariff_rules.specs.Entry.{is_refused}
use Rattle.tariff_rules.specs.declared.fault.TariffFault.{TariffFault}

-- the first of these entries that is no rule, where i entries come before them
abbrev pub first_after : {A : Type 0}
    → (Data → Result A TariffFault) → ℕ → List Value → Option ℕ
first_after read i values = position_from (is_refused read) (i + 1) (map view values)

-- the first from the i-th on
abbrev pub refused_from : {A : Type 0}
    → (Data → Result A TariffFault) → List Value → ℕ → Option ℕ
refused_from read values i = first_after read i (drop i values)

-- it is the i-th, or the first of those after it
refused_from-step : {A : Type 0} (read : Data → Result A TariffFault) (values : List Value) (i : ℕ)
    (d : Value) → i < length values
    → refused_from read values i
    ≡ cond (is_refused read (view (get_or values i d))) (Some (i + 1))
    (refused_from read values (i + 1))
refused_from-step read values i d within = at_drop_more (first_after read i) values i d within

-- an entry that is no rule is the first
pub refused_here : {A : Type 0} (read : Data → Result A TariffFault) (values : List Value) (i : ℕ)
    (d : Value) → i < length values → is_refused read (view (get_or values i d)) ≡ true
    → refused_from read values i ≡ Some (i + 1)
refused_here read values i d within is =
    refused_from-step read values i d within
    ∙ ap (λ r. cond r (Some (i + 1)) (refused_from read values (i + 1))) is

-- after a rule the next entries are looked at
pub refused_later : {A : Type 0} (read : Data → Result A TariffFault) (values : List Value) (i : ℕ)
    (d : Value) → i < length values → is_refused read (view (get_or values i d)) ≡ false
    → refused_from read values i ≡ refused_from read values (i + 1)
refused_later read values i d within is =
    refused_from-step read values i d within
    ∙ ap (λ r. cond r (Some (i + 1)) (refused_from read values (i + 1))) is

-- after the last entry none is refused
pub none_refused : {A : Type 0} (read : Data → Result A TariffFault) (values : List Value) (i : ℕ)
    → length values ≤ i → refused_from read values i ≡ None
none_refused read values i all = at_drop_all (first_after read i) values i all
