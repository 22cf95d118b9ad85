-- The entry of a tariff file at which reading met the fault that it is refused with.
use Rattle.std.specs.Prelude.{◌≡◌, ℕ, ◌-◌, Bool, nat_lt, is_err, if◌then◌else◌, List, length}
use Rattle.std.specs.Prelude.{slice_get, Option, Some, None, Result, Err}
use Rattle.std.specs.List.{position_from}
use Rattle.std.specs.Option.{option_and_then, option_map}
use Rattle.std.specs.Result.{result_err}
use Rattle.toml.specs.Data.{Data, Members}
use Rattle.tariff_rules.specs.CentreEntry.{centre_rule_in}
use Rattle.tariff_rules.specs.Document.{entries_in, value_at}
use Rattle.tariff_rules.specs.Limits.{most_centres, most_shifts}
use Rattle.tariff_rules.specs.ShiftEntry.{shift_rule_in}
use Rattle.tariff_rules.specs.TariffFile.{document_in, head_of, shifts_at, terms_in}
use Rattle.tariff_rules.specs.declared.fault.TariffFault.{TariffFault}
use Rattle.tariff_rules.specs.declared.key.Key.{Key}
use Rattle.tariff_rules.specs.declared.key.Key.TheVariants as key
use Rattle.tariff_rules.specs.declared.tariff.entry.Entry.{Entry}
use Rattle.tariff_rules.specs.declared.tariff.entry.Entry.TheVariants.{Shift, Centre}

-- a value is no rule
abbrev pub is_refused : {A : Type 0} → (Data → Result A TariffFault) → Data → Bool
is_refused read value = is_err (read value)

-- the first entry that is no rule, counted from 1
abbrev pub first_refused : {A : Type 0}
    → (Data → Result A TariffFault) → List Data → Option ℕ
first_refused read entries = position_from (is_refused read) 1 entries

-- the same, where they are not too many to be read
abbrev pub refused_among : {A : Type 0}
    → ℕ → (Data → Result A TariffFault) → List Data → Option ℕ
refused_among most read entries =
    if nat_lt most (length entries) then None else first_refused read entries

-- the same of the array at a key, if there is one
unfoldable pub refused_at : {A : Type 0}
    → Members → Key → ℕ → (Data → Result A TariffFault) → Option ℕ
refused_at table key most read =
    option_and_then (refused_among most read) (option_and_then entries_in (value_at table key))

-- the first entry of the shifts that is no shift
abbrev pub refused_shift : Members → Option Entry
refused_shift document =
    option_map Shift (refused_at document key.Shift most_shifts shift_rule_in)

-- the first entry of the centres that is no centre rule
abbrev pub refused_centre : Members → Option Entry
refused_centre document =
    option_map Centre (refused_at document key.Centre most_centres centre_rule_in)

-- the entry at fault: none where what comes before the shifts has the fault; else the first that is
-- no shift, and where the shifts have no fault the first that is no centre rule
unfoldable pub entry_of : Members → Option Entry
entry_of document =
    if is_err (head_of document) then None
    else if is_err (shifts_at document) then refused_shift document
    else refused_centre document

-- the entry at fault of a text, where it is a document that is not too long
abbrev pub entry_in : List ℕ → Option Entry
entry_in text = option_and_then entry_of (document_in text)

-- the fault that a value has, if it is no rule
abbrev pub refusal : {A : Type 0} → (Data → Result A TariffFault) → Data → Option TariffFault
refusal read value = result_err (read value)

-- the n-th entry of the array at a key, counted from 1
abbrev pub entry_at : Members → Key → ℕ → Option Data
entry_at document key n =
    option_and_then (λ entries. slice_get entries (n - 1))
    (option_and_then entries_in (value_at document key))

-- the fault of an entry
abbrev pub fault_of : Members → Entry → Option TariffFault
fault_of document (Shift n) =
    option_and_then (refusal shift_rule_in) (entry_at document key.Shift n)
fault_of document (Centre n) =
    option_and_then (refusal centre_rule_in) (entry_at document key.Centre n)

-- So a text is refused with the fault of that entry.
pub record HasItsFault (text : List ℕ) (entry : Entry) : Type 0 where
  pub fault : TariffFault
  pub refused : terms_in text ≡ Err fault
  pub own : option_and_then (λ document. fault_of document entry) (document_in text) ≡ Some fault
