-- A loop over the entries of an array: what was found, and then what the others say.
use Rattle.std.proofs.Common.{◌≡◌, ℕ, ◌+◌, ◌<◌, add-one, List, [], ◌∷◌, ◌++◌, append_assoc}
use Rattle.std.proofs.Common.{append-nil, length, drop, drop-cons, get_or, map, Result, Ok, Err}
use Rattle.std.proofs.Common.{refl, sym, ap}
use Rattle.toml.specs.Data.{Data}
use Rattle.toml.specs.View.{view}
use Rattle.toml.specs.declared.value.Value.{Value}
use Rattle.tariff_rules.specs.Document.{◌>>=◌, read_each}
use Rattle.tariff_rules.specs.declared.fault.TariffFault.{TariffFault}

-- what was found, and then the others
abbrev pub behind : {A : Type 0}
    → List A → Result (List A) TariffFault → Result (List A) TariffFault
behind found others = others >>= (λ rest. Ok (found ++ rest))

-- what the entries from the i-th on say
abbrev pub from_entry : {A : Type 0}
    → (Data → Result A TariffFault) → List Value → ℕ → Result (List A) TariffFault
from_entry read values i = read_each read (map view (drop i values))

-- one more may be found before the others, or begin them
behind-push : {A : Type 0} (found : List A) (a : A) (others : Result (List A) TariffFault)
    → behind found (others >>= (λ rest. Ok (a ∷ rest))) ≡ behind (found ++ a ∷ []) others
behind-push found a (Ok rest) = ap (λ l. Ok l) (sym (append_assoc found (a ∷ []) rest))
behind-push found a (Err fault) = refl

-- the i-th entry, and then the next ones
from_entry-step : {A : Type 0} (read : Data → Result A TariffFault) (values : List Value) (i : ℕ)
    (d : Value) → i < length values
    → from_entry read values i
    ≡ read (view (get_or values i d)) >>= (λ a.
    from_entry read values (i + 1) >>= (λ rest. Ok (a ∷ rest)))
unfolding read_each
from_entry-step read values i d h = rw (add-one, drop-cons values i d) refl

-- an entry that is read joins what was found
pub entry_joins : {A : Type 0} (read : Data → Result A TariffFault) (values : List Value) (i : ℕ)
    (d : Value) (found : List A) (a : A)
    → i < length values → read (view (get_or values i d)) ≡ Ok a
    → behind found (from_entry read values i)
    ≡ behind (found ++ a ∷ []) (from_entry read values (i + 1))
entry_joins read values i d found a within is =
    rw (from_entry-step read values i d within, is)
    (behind-push found a (from_entry read values (i + 1)))

-- a fault of an entry is the fault of all
pub entry_fails : {A : Type 0} (read : Data → Result A TariffFault) (values : List Value) (i : ℕ)
    (d : Value) (found : List A) (fault : TariffFault)
    → i < length values → read (view (get_or values i d)) ≡ Err fault
    → behind found (from_entry read values i) ≡ Err fault
entry_fails read values i d found fault within is =
    rw (from_entry-step read values i d within, is) refl

-- after the last entry all is found
pub all_found : {A : Type 0} (read : Data → Result A TariffFault) (values : List Value) (i : ℕ)
    (found : List A)
    → drop i values ≡ [] → behind found (from_entry read values i) ≡ Ok found
unfolding read_each
all_found read values i found none = rw (none, append-nil) refl
