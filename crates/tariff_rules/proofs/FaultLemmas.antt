-- The entry at fault of a text has the fault that the text is refused with.
use Rattle.std.proofs.Common.{◌≡◌, ℕ, ◌+◌, ◌-◌, ◌≤◌, suc, Bool, true, false, cond, nat_lt, is_err}
use Rattle.std.proofs.Common.{if◌then◌else◌, List, [], ◌∷◌, length, slice_get, Option, Some, None}
use Rattle.std.proofs.Common.{Result, Ok, Err, IfSome, refl, sym, ap, ◌∙◌, arith}
use Rattle.std.specs.List.{position_from}
use Rattle.std.specs.Option.{ok_or, option_and_then, option_map}
use Rattle.toml.specs.Data.{Data, Members}
use Rattle.toml.specs.Parse.{parse_document}
use Rattle.tariff_rules.specs.CentreEntry.{centre_rule_in}
use Rattle.tariff_rules.specs.Document.{◌>>=◌, entries_in, read_each, rules_at, rules_in, value_at}
use Rattle.tariff_rules.specs.Entry.{entry_at, entry_in, entry_of, fault_of, first_refused}
use Rattle.tariff_rules.specs.Entry.{HasItsFault, is_refused, refusal, refused_among, refused_at}
use Rattle.tariff_rules.specs.Entry.{refused_centre, refused_shift}
use Rattle.tariff_rules.specs.Limits.{most_centres, most_shifts, most_text}
use Rattle.tariff_rules.specs.ShiftEntry.{shift_rule_in}
use Rattle.tariff_rules.specs.TariffFile.{head_of, shifts_at, terms_of, terms_of_document}
use Rattle.tariff_rules.specs.Terms.{CentreRule, ShiftRule}
use Rattle.tariff_rules.specs.declared.fault.TariffFault.{TariffFault}
use Rattle.tariff_rules.specs.declared.fault.TariffFault.TheVariants.{Range, TooMany}
use Rattle.tariff_rules.specs.declared.key.Key.{Key}
use Rattle.tariff_rules.specs.declared.key.Key.TheVariants as key
use Rattle.tariff_rules.specs.declared.tariff.entry.Entry.{Entry}
use Rattle.tariff_rules.specs.declared.tariff.entry.Entry.TheVariants.{Shift, Centre}
use Rattle.tariff_rules.specs.declared.tariff.file.Head.{Head}

-- entries of which the n-th, counted from i, is the first that is no rule
pub record FailsFrom {A : Type 0} (read : Data → Result A TariffFault) (entries : List Data) (i n : ℕ)
    : Type 0 where
  pub fault : TariffFault
  pub from : i ≤ n
  pub all : read_each read entries ≡ Err fault
  pub own : option_and_then (refusal read) (slice_get entries (n - i)) ≡ Some fault

-- it is the first of them, or one of the others
fails_from-step : {A : Type 0} (read : Data → Result A TariffFault) (value : Data)
    (rest : List Data) (i n : ℕ) (first : Result A TariffFault) → read value ≡ first
    → cond (is_err first) (Some i) (position_from (is_refused read) (i + 1) rest) ≡ Some n
    → (position_from (is_refused read) (i + 1) rest ≡ Some n → FailsFrom read rest (i + 1) n)
    → FailsFrom read (value ∷ rest) i n
unfolding read_each
fails_from-step read value rest i n (Err why) reads is later =
    let same : i ≡ n = cc in
    let none : n - i ≡ 0 = omega arith in
    record {
      fault = why;
      from = omega arith;
      all = rw reads refl;
      own = rw (none, reads) refl;
    }
fails_from-step read value rest i n (Ok rule) reads is later =
    let others = later is in
    let next : n - i ≡ suc (n - (i + 1)) = omega (arith, others.from) in
    record {
      fault = others.fault;
      from = omega (arith, others.from);
      all = rw (reads, others.all) refl;
      own = rw next others.own;
    }

fails_from : {A : Type 0} (read : Data → Result A TariffFault) (entries : List Data) (i n : ℕ)
    → position_from (is_refused read) i entries ≡ Some n → FailsFrom read entries i n
fails_from read [] i n is = absurd (cc)
fails_from read (value ∷ rest) i n is =
    fails_from-step read value rest i n (read value) refl is (fails_from read rest (i + 1) n)

-- where they are not too many
fails_among : {A : Type 0} (read : Data → Result A TariffFault) (entries : List Data) (n : ℕ)
    (many : Bool) → (if many then None else first_refused read entries) ≡ Some n
    → (fault : TariffFault)
    × ((if many then Err TooMany else read_each read entries) ≡ Err fault)
    × (option_and_then (refusal read) (slice_get entries (n - 1)) ≡ Some fault)
fails_among read entries n true is = absurd (cc)
fails_among read entries n false is =
    let found = fails_from read entries 1 n is in
    (found.fault, found.all, found.own)

-- where they are an array
fails_listed : {A : Type 0} (key : Key) (most : ℕ) (read : Data → Result A TariffFault) (n : ℕ)
    (listed : Option (List Data)) → option_and_then (refused_among most read) listed ≡ Some n
    → (fault : TariffFault)
    × ((ok_or listed (Range key) >>= (λ entries.
    if nat_lt most (length entries) then Err TooMany else read_each read entries)) ≡ Err fault)
    × (option_and_then (refusal read)
    (option_and_then (λ entries. slice_get entries (n - 1)) listed) ≡ Some fault)
fails_listed key most read n None is = absurd (cc)
fails_listed key most read n (Some entries) is =
    fails_among read entries n (nat_lt most (length entries)) is

-- where there is something at the key
fails_in : {A : Type 0} (key : Key) (most : ℕ) (read : Data → Result A TariffFault) (n : ℕ)
    (found : Option Data)
    → option_and_then (refused_among most read) (option_and_then entries_in found) ≡ Some n
    → (fault : TariffFault) × (rules_in key most read found ≡ Err fault)
    × (option_and_then (refusal read)
    (option_and_then (λ entries. slice_get entries (n - 1)) (option_and_then entries_in found))
    ≡ Some fault)
fails_in key most read n None is = absurd (cc)
fails_in key most read n (Some value) is = fails_listed key most read n (entries_in value) is

-- an array of which the n-th entry is the first that is no rule
pub record FailsAt {A : Type 0} (document : Members) (key : Key) (most : ℕ)
    (read : Data → Result A TariffFault) (n : ℕ) : Type 0 where
  pub fault : TariffFault
  pub all : rules_at document key most read ≡ Err fault
  pub own : option_and_then (refusal read) (entry_at document key n) ≡ Some fault

fails_at : {A : Type 0} (document : Members) (key : Key) (most : ℕ)
    (read : Data → Result A TariffFault) (n : ℕ) → refused_at document key most read ≡ Some n
    → FailsAt document key most read n
unfolding refused_at rules_at
fails_at document key most read n is =
    let found = fails_in key most read n (value_at document key) is in
    record { fault = found.0; all = found.1; own = found.2 }

-- an entry is made of its place
placed : (make : ℕ → Entry) (found : Option ℕ) (entry : Entry) → option_map make found ≡ Some entry
    → (n : ℕ) × (found ≡ Some n) × (entry ≡ make n)
placed make None entry is = absurd (cc)
placed make (Some n) entry is = (n, refl, cc)

-- a shift is at fault, whatever comes after the shifts
shift_fails : {B : Type 0} (document : Members) (entry : Entry)
    (next : List ShiftRule → Result B TariffFault) → refused_shift document ≡ Some entry
    → (fault : TariffFault) × ((shifts_at document >>= next) ≡ Err fault)
    × (fault_of document entry ≡ Some fault)
unfolding shifts_at
shift_fails document entry next is =
    let place = placed Shift (refused_at document key.Shift most_shifts shift_rule_in) entry is in
    let found = fails_at document key.Shift most_shifts shift_rule_in place.0 place.1 in
    (found.fault, rw found.all refl, ap (fault_of document) place.2 ∙ found.own)

-- a centre is at fault
centre_fails : {B : Type 0} (document : Members) (entry : Entry)
    (next : List CentreRule → Result B TariffFault) → refused_centre document ≡ Some entry
    → (fault : TariffFault)
    × ((rules_at document key.Centre most_centres centre_rule_in >>= next) ≡ Err fault)
    × (fault_of document entry ≡ Some fault)
centre_fails document entry next is =
    let place =
    placed Centre (refused_at document key.Centre most_centres centre_rule_in) entry is in
    let found = fails_at document key.Centre most_centres centre_rule_in place.0 place.1 in
    (found.fault, rw found.all refl, ap (fault_of document) place.2 ∙ found.own)

-- by what the shifts say
lists_fail : {B : Type 0} (document : Members) (entry : Entry)
    (make : List ShiftRule → List CentreRule → Result B TariffFault)
    (shifts : Result (List ShiftRule) TariffFault) → shifts_at document ≡ shifts
    → (if is_err shifts then refused_shift document else refused_centre document) ≡ Some entry
    → (fault : TariffFault)
    × ((shifts_at document >>= (λ rules.
    rules_at document key.Centre most_centres centre_rule_in >>= make rules)) ≡ Err fault)
    × (fault_of document entry ≡ Some fault)
lists_fail document entry make (Err why) said is = shift_fails document entry _ is
lists_fail document entry make (Ok rules) said is =
    let found = centre_fails document entry (make rules) is in
    (found.0, rw said found.1, found.2)

-- by what comes before them
head_fails : {B : Type 0} (document : Members) (entry : Entry)
    (make : Head → List ShiftRule → List CentreRule → Result B TariffFault)
    (head : Result Head TariffFault)
    → (if is_err head then None
    else if is_err (shifts_at document) then refused_shift document
    else refused_centre document) ≡ Some entry
    → (fault : TariffFault)
    × ((head >>= (λ begun. shifts_at document >>= (λ rules.
    rules_at document key.Centre most_centres centre_rule_in >>= make begun rules))) ≡ Err fault)
    × (fault_of document entry ≡ Some fault)
head_fails document entry make (Err why) is = absurd (cc)
head_fails document entry make (Ok begun) is =
    lists_fail document entry (make begun) (shifts_at document) refl is

-- of a document
document_fails : (document : Members) (entry : Entry) → entry_of document ≡ Some entry
    → (fault : TariffFault) × (terms_of document ≡ Err fault)
    × (fault_of document entry ≡ Some fault)
unfolding entry_of terms_of
document_fails document entry is = head_fails document entry _ (head_of document) is

-- where the text is one
found_fails : (entry : Entry) (found : Option Members)
    → option_and_then entry_of found ≡ Some entry
    → (fault : TariffFault) × (terms_of_document found ≡ Err fault)
    × (option_and_then (λ document. fault_of document entry) found ≡ Some fault)
found_fails entry None is = absurd (cc)
found_fails entry (Some document) is = document_fails document entry is

-- where it is not too long
short_fails : (text : List ℕ) (entry : Entry) (long : Bool)
    → option_and_then entry_of (if long then None else parse_document text) ≡ Some entry
    → (fault : TariffFault)
    × ((if long then Err TooMany else terms_of_document (parse_document text)) ≡ Err fault)
    × (option_and_then (λ document. fault_of document entry)
    (if long then None else parse_document text) ≡ Some fault)
short_fails text entry true is = absurd (cc)
short_fails text entry false is = found_fails entry (parse_document text) is

-- of a text
text_fails : (text : List ℕ) (entry : Entry) → entry_in text ≡ Some entry → HasItsFault text entry
text_fails text entry is =
    let found = short_fails text entry (nat_lt most_text (length text)) is in
    record { fault = found.0; refused = found.1; own = found.2 }

-- if there is an entry at fault
pub has_its_fault : (text : List ℕ) (found : Option Entry) → found ≡ entry_in text
    → IfSome found (HasItsFault text)
has_its_fault text None is = tt
has_its_fault text (Some entry) is = text_fails text entry (sym is)
