-- What the class of a usage record shows of it: it passes every test of the ladders.
use Rattle.std.proofs.Common.{◌≡◌, ◌≢◌, ◌≤◌, ◌<◌, ◌==◌, ◌⊎◌, inl, inr, ℕ, List, length, nat_lt}
use Rattle.std.proofs.Common.{Bool, true, false, not, ◌||◌, cond, Option, Some, None, is_none}
use Rattle.std.proofs.Common.{if◌then◌else◌, is_some, is_err, IsTrue, refl, sym, ap, ◌∙◌, arith}
use Rattle.std.proofs.Common.{subst}
use Rattle.std.proofs.lemmas.Bool.{ltb-true, ltb-false, eqb-true, eqb-false, not-false, or_cases}
use Rattle.std.proofs.lemmas.Bool.{and_from, and_parts, not_from_false, not_from_true, not-true}
use Rattle.std.proofs.lemmas.Bool.{cond-false, le-ltb, ne_eqb}
use Rattle.std.specs.Option.{option_or}
use Rattle.std.specs.Prelude.{IsSome, ◌↔◌}
use Rattle.smf_text.specs.PackedDate.{packed_day_of}
use Rattle.smf_frames.specs.Header.{header_len, header_of}
use Rattle.smf_frames.specs.declared.header.Header.{Header}
use Rattle.smf_type30.specs.Layout.{dump_header, dump_trailer, data_lost, work, step_end, job_end}
use Rattle.smf_type30.specs.Layout.{subtype_end, triplets_end, hundredths_per_day, identification}
use Rattle.smf_type30.specs.Layout.{processor, io_activity, completion}
use Rattle.smf_type30.specs.declared.record_class.Class.{Class}
use Rattle.smf_type30.specs.declared.record_class.Class.TheVariants.{DumpHeader, DumpTrailer, DataLost}
use Rattle.smf_type30.specs.declared.record_class.Class.TheVariants.{Other, Continuation, Usage, Damaged}
use Rattle.smf_type30.specs.declared.damage.Damage.{Damage}
use Rattle.smf_type30.specs.declared.damage.Damage.TheVariants.{Short, Accounting}
use Rattle.smf_type30.specs.Accounts.{HasNoAccounts}
use Rattle.smf_type30.specs.Section.{fits, count_of}
use Rattle.smf_type30.specs.Usage.{subtype_of, accounts_of}
use Rattle.smf_type30.specs.Class.{class_of, damage_of, usage_unless, type_of, header_damage}
use Rattle.smf_type30.specs.Class.{section_damage, class_of_work, IsUsage, measures_work}
use Rattle.smf_type30.proofs.AccountLemmas.{accounts_found}

-- the date, the time and each section are as they should be
pub record Undamaged (bytes : List ℕ) : Type 0 where
  pub date : is_err (packed_day_of (header_of bytes).date) ≡ false
  pub time : (header_of bytes).time < hundredths_per_day
  pub identified : count_of bytes identification ≢ 0
  pub identification : fits bytes identification ≡ true
  pub processor : fits bytes processor ≡ true
  pub io_activity : fits bytes io_activity ≡ true
  pub completion : fits bytes completion ≡ true
  pub accounts : is_some (accounts_of bytes) ≡ true

-- the record has the triplets, is one of work, and its class is that of its damage
pub record WorkFacts (bytes : List ℕ) (class : Class) : Type 0 where
  pub long : triplets_end ≤ length bytes
  pub subtype : (subtype_of bytes ≡ step_end) ⊎ (subtype_of bytes ≡ job_end)
  pub processing : count_of bytes processor ≢ 0
  pub work : measures_work bytes ≡ true
  pub judged : usage_unless (damage_of bytes) ≡ class

-- where the first test of a ladder would have given another answer, it failed, and the tests below
-- gave the answer
record Passed {A : Type 0} (test : Bool) (others answer : A) : Type 0 where
  failed : test ≡ false
  below : others ≡ answer

-- to pass a test
passed : {A : Type 0} (test : Bool) (here others answer : A) → (here ≡ answer → ⊥)
    → cond test here others ≡ answer → Passed test others answer
passed true here others answer other e = absurd (other e)
passed false here others answer other e = record { failed = refl; below = e }

-- where all else would have been another answer, the last test of a ladder held
record Held {A : Type 0} (test : Bool) (here answer : A) : Type 0 where
  holds : test ≡ true
  gives : here ≡ answer

-- to hold the last test
held : {A : Type 0} (test : Bool) (here others answer : A) → (others ≡ answer → ⊥)
    → cond test here others ≡ answer → Held test here answer
held true here others answer other e = record { holds = refl; gives = e }
held false here others answer other e = absurd (other e)

-- what is not none is some
is_some-there : {A : Type 0} (o : Option A) → is_none o ≡ false → is_some o ≡ true
is_some-there None e = cc
is_some-there (Some x) e = refl

-- where neither of two is there, the one is not there
neither_first : {A : Type 0} (first second : Option A) → option_or first second ≡ None
    → first ≡ None
neither_first None second e = refl
neither_first (Some x) second e = cc

-- nor is the other
neither_second : {A : Type 0} (first second : Option A) → option_or first second ≡ None
    → second ≡ None
neither_second None second e = e
neither_second (Some x) second e = cc

-- the ladders of damages
undamaged : (bytes : List ℕ) → damage_of bytes ≡ None → Undamaged bytes
unfolding damage_of header_damage section_damage
undamaged bytes none =
    let header = header_of bytes in
    let whole = neither_first (header_damage header) (section_damage bytes) none in
    let fitting = neither_second (header_damage header) (section_damage bytes) none in
    let date = passed (is_err (packed_day_of header.date)) _ _ _ (λ e. cc) whole in
    let time = passed (not (nat_lt header.time hundredths_per_day)) _ _ _ (λ e. cc) date.below in
    let there = passed (count_of bytes identification == 0) _ _ _ (λ e. cc) fitting in
    let identified = passed (not (fits bytes identification)) _ _ _ (λ e. cc) there.below in
    let processed = passed (not (fits bytes processor)) _ _ _ (λ e. cc) identified.below in
    let transferred = passed (not (fits bytes io_activity)) _ _ _ (λ e. cc) processed.below in
    let completed = passed (not (fits bytes completion)) _ _ _ (λ e. cc) transferred.below in
    let accounts = passed (is_none (accounts_of bytes)) _ _ _ (λ e. cc) completed.below in
    record {
      date = date.failed;
      time = ltb-true _ _ (not-false _ time.failed);
      identified = eqb-false _ _ there.failed;
      identification = not-false _ identified.failed;
      processor = not-false _ processed.failed;
      io_activity = not-false _ transferred.failed;
      completion = not-false _ completed.failed;
      accounts = is_some-there _ accounts.failed;
    }

-- only what has no damage is a usage record
no_damage : (damage : Option Damage) → usage_unless damage ≡ Usage → damage ≡ None
no_damage None e = refl
no_damage (Some damage) e = cc

-- what the test of the subtype means
step_or_job : (bytes : List ℕ)
    → (subtype_of bytes == step_end || subtype_of bytes == job_end) ≡ true
    → (subtype_of bytes ≡ step_end) ⊎ (subtype_of bytes ≡ job_end)
step_or_job bytes e = elim (or_cases _ _ e) [
  | inl step ↦ inl (eqb-true _ _ step)
  | inr job ↦ inr (eqb-true _ _ job)
]

-- classes that the ladder of classes gives at its end alone
abbrev AtEnd : Class → Type 0
AtEnd Usage = Unit {0}
AtEnd (Damaged Accounting) = Unit {0}
AtEnd earlier = ⊥

-- the ladder of classes, where it gets to its end
work_facts : (bytes : List ℕ) (class : Class) → AtEnd class → class_of bytes ≡ class
    → WorkFacts bytes class
unfolding class_of class_of_work measures_work
work_facts bytes class at_end is =
    let differs = λ (other : Class) (e : other ≡ class). subst AtEnd (sym e) at_end in
    let short = differs (Damaged Short) in
    let header = passed (nat_lt (length bytes) header_len) _ _ _ short is in
    let opens = passed (type_of bytes == dump_header) _ _ _ (differs DumpHeader) header.below in
    let ends = passed (type_of bytes == dump_trailer) _ _ _ (differs DumpTrailer) opens.below in
    let lost = passed (type_of bytes == data_lost) _ _ _ (differs DataLost) ends.below in
    let type = held (type_of bytes == work) _ _ _ (differs Other) lost.below in
    let long_header = passed (nat_lt (length bytes) subtype_end) _ _ _ short type.gives in
    let charged = subtype_of bytes == step_end || subtype_of bytes == job_end in
    let subtype = passed (not charged) _ _ _ (differs Other) long_header.below in
    let long = passed (nat_lt (length bytes) triplets_end) _ _ _ short subtype.below in
    let measured = passed (count_of bytes processor == 0) _ _ _ (differs Continuation) long.below in
    let work_ends = and_from _ _ type.holds (not-false _ subtype.failed) in
    record {
      long = ltb-false _ _ long.failed;
      subtype = step_or_job bytes (not-false _ subtype.failed);
      processing = eqb-false _ _ measured.failed;
      work = and_from _ _ work_ends (not_from_false _ measured.failed);
      judged = measured.below;
    }

-- the class of a record that has a header, by its type
abbrev pub class_by : ℕ → List ℕ → Class
class_by kind bytes =
    if kind == dump_header then DumpHeader
    else if kind == dump_trailer then DumpTrailer
    else if kind == data_lost then DataLost
    else if kind == work then class_of_work bytes
    else Other

pub class_of-by : (bytes : List ℕ) (kind : ℕ) → header_len ≤ length bytes
    → (header_of bytes).kind ≡ kind → class_of bytes ≡ class_by kind bytes
unfolding class_of
class_of-by bytes kind long is =
    cond-false (nat_lt (length bytes) header_len) _ _ (le-ltb _ _ long)
    ∙ ap (λ kind. class_by kind bytes) is

-- that is the class, where a header was read
pub class_told : (bytes : List ℕ) (header : Header) (kind : ℕ)
    → (IsSome (Some header) ↔ (header_len ≤ length bytes)) → header ≡ header_of bytes
    → header.kind ≡ kind → class_by kind bytes ≡ class_of bytes
class_told bytes header kind long is is_kind =
    let same = sym (ap (λ (header : Header). header.kind) is) ∙ is_kind in
    sym (class_of-by bytes kind (long.0 refl) same)

-- what it shows of a usage record
usage_facts : (bytes : List ℕ) → IsUsage bytes → WorkFacts bytes Usage
usage_facts bytes usage = work_facts bytes Usage tt usage

-- a record of the class Usage has no damage
pub usage_undamaged : (bytes : List ℕ) → IsUsage bytes → damage_of bytes ≡ None
usage_undamaged bytes usage = no_damage _ (usage_facts bytes usage).judged

-- and a record that measures work and has none is of that class
pub undamaged_usage : (bytes : List ℕ) → IsTrue (measures_work bytes)
    → triplets_end ≤ length bytes → damage_of bytes ≡ None → IsUsage bytes
unfolding class_of_work measures_work
undamaged_usage bytes measured long none =
    let parts = and_parts _ _ measured in
    let ends = and_parts _ _ parts.0 in
    let kind = eqb-true (type_of bytes) work ends.0 in
    class_of-by bytes work (omega arith) kind
    ∙ cond-false (nat_lt (length bytes) subtype_end) _ _ (le-ltb _ _ (omega arith))
    ∙ cond-false (not (subtype_of bytes == step_end || subtype_of bytes == job_end)) _ _
    (not_from_true _ ends.1)
    ∙ cond-false (nat_lt (length bytes) triplets_end) _ _ (le-ltb _ _ long)
    ∙ cond-false (count_of bytes processor == 0) _ _ (not-true _ parts.1)
    ∙ ap usage_unless none

-- no header has the damage of accounting fields
not_of_header : (header : Header) → header_damage header ≡ Some Accounting → ⊥
unfolding header_damage
not_of_header header e =
    let date = passed (is_err (packed_day_of header.date)) _ _ _ (λ e. cc) e in
    let time = passed (not (nat_lt header.time hundredths_per_day)) _ _ _ (λ e. cc) date.below in
    let none = time.below in
    cc

-- of two damages that of accounting fields is the other where it is not the one
other : (first second : Option Damage) → (first ≡ Some Accounting → ⊥)
    → option_or first second ≡ Some Accounting → second ≡ Some Accounting
other None second not_first e = e
other (Some damage) second not_first e = absurd (not_first e)

-- the ladder of the sections' damages, where it ends at the accounting fields
accounts_missing : (bytes : List ℕ) → section_damage bytes ≡ Some Accounting
    → is_none (accounts_of bytes) ≡ true
unfolding section_damage
accounts_missing bytes e =
    let there = passed (count_of bytes identification == 0) _ _ _ (λ e. cc) e in
    let identified = passed (not (fits bytes identification)) _ _ _ (λ e. cc) there.below in
    let processed = passed (not (fits bytes processor)) _ _ _ (λ e. cc) identified.below in
    let transferred = passed (not (fits bytes io_activity)) _ _ _ (λ e. cc) processed.below in
    let completed = passed (not (fits bytes completion)) _ _ _ (λ e. cc) transferred.below in
    (held (is_none (accounts_of bytes)) _ _ _ (λ e. cc) completed.below).holds

-- what is damaged has that damage
of_damage : (found : Option Damage) (damage : Damage) → usage_unless found ≡ Damaged damage
    → found ≡ Some damage
of_damage None damage e = cc
of_damage (Some other) damage e = cc

-- a record with that damage has no accounting fields
pub no_accounts : (bytes : List ℕ) → class_of bytes ≡ Damaged Accounting
    → HasNoAccounts bytes
unfolding damage_of
no_accounts bytes e fields are =
    let damage = of_damage _ _ (work_facts bytes (Damaged Accounting) tt e).judged in
    let sections = other _ (section_damage bytes) (not_of_header (header_of bytes)) damage in
    let missing = accounts_missing bytes sections in
    let found = accounts_found bytes fields are in
    let some : is_none (accounts_of bytes) ≡ false = ap is_none found in
    cc

-- a usage record can be read
pub usage_measures_work : (bytes : List ℕ) → IsUsage bytes → measures_work bytes ≡ true
usage_measures_work bytes usage = (usage_facts bytes usage).work

-- the facts one by one, for the calls on a usage record
pub usage_long : (bytes : List ℕ) → IsUsage bytes → triplets_end ≤ length bytes
usage_long bytes usage = (usage_facts bytes usage).long

pub usage_subtype : (bytes : List ℕ) → IsUsage bytes
    → (subtype_of bytes ≡ step_end) ⊎ (subtype_of bytes ≡ job_end)
usage_subtype bytes usage = (usage_facts bytes usage).subtype

pub usage_processing : (bytes : List ℕ) → IsUsage bytes → count_of bytes processor ≢ 0
usage_processing bytes usage = (usage_facts bytes usage).processing

-- its parts are as they should be
usage_parts : (bytes : List ℕ) → IsUsage bytes → Undamaged bytes
usage_parts bytes usage = undamaged bytes (usage_undamaged bytes usage)

pub usage_date : (bytes : List ℕ) → IsUsage bytes
    → is_err (packed_day_of (header_of bytes).date) ≡ false
usage_date bytes usage = (usage_parts bytes usage).date

pub usage_time : (bytes : List ℕ) → IsUsage bytes → (header_of bytes).time < hundredths_per_day
usage_time bytes usage = (usage_parts bytes usage).time

pub usage_identified : (bytes : List ℕ) → IsUsage bytes → count_of bytes identification ≢ 0
usage_identified bytes usage = (usage_parts bytes usage).identified

pub usage_identification : (bytes : List ℕ) → IsUsage bytes → fits bytes identification ≡ true
usage_identification bytes usage = (usage_parts bytes usage).identification

pub usage_processor : (bytes : List ℕ) → IsUsage bytes → fits bytes processor ≡ true
usage_processor bytes usage = (usage_parts bytes usage).processor

pub usage_io_activity : (bytes : List ℕ) → IsUsage bytes → fits bytes io_activity ≡ true
usage_io_activity bytes usage = (usage_parts bytes usage).io_activity

pub usage_completion : (bytes : List ℕ) → IsUsage bytes → fits bytes completion ≡ true
usage_completion bytes usage = (usage_parts bytes usage).completion

pub usage_accounts : (bytes : List ℕ) → IsUsage bytes → is_some (accounts_of bytes) ≡ true
usage_accounts bytes usage = (usage_parts bytes usage).accounts

-- all of them
pub ruleset usage = (
  usage_long,
  usage_subtype,
  usage_processing,
  usage_date,
  usage_time,
  usage_identified,
  usage_identification,
  usage_processor,
  usage_io_activity,
  usage_completion,
  usage_accounts,
)

-- what reading asks of them
pub ruleset reading = (usage_long, usage_undamaged, undamaged_usage)

-- and what testing and reading at once asks of them
pub ruleset testing = (usage_long, usage_measures_work, usage_undamaged, undamaged_usage)

-- where a section is there, what it says is known
pub present : {A : Type 0} (count : ℕ) (absent told : A) → count ≢ 0
    → told ≡ cond (count == 0) absent told
present count absent told there = sym (cond-false _ absent told (ne_eqb count 0 there))
