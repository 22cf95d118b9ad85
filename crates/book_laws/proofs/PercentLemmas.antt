-- The shifts of a tariff: one of them prices each record, and none has two percents.
use Rattle.std.proofs.Common.{◌≡◌, ◌∙◌, ◌<◌, ℕ, zero, suc, Bool, true, false, true≢false, cond, not, ◌||◌, ◌&&◌}
use Rattle.std.proofs.Common.{List, [], ◌∷◌, Option, Some, None, Ok, Err, refl, sym, ap}
use Rattle.std.proofs.Common.{map, find, Contains, length, nat_lt, is_eq, arith, ◌==◌, get_or}
use Rattle.std.proofs.lemmas.Bool.{eqb-true}
use Rattle.std.proofs.lemmas.Slice.Eq.{bytes_eq-Decides}
use Rattle.std.specs.Str.{bytes_eq}
use Rattle.toml.specs.Data.{Members}
use Rattle.toml.specs.Parse.{parse_document}
use Rattle.tariff_rules.specs.CentreEntry.{centre_rule_in}
use Rattle.tariff_rules.specs.Document.{◌>>=◌, rules_at}
use Rattle.tariff_rules.specs.Limits.{most_centres, most_shifts, most_text}
use Rattle.tariff_rules.specs.Price.{base_shift, has_moment, minute_of, shift_at, shift_by}
use Rattle.tariff_rules.specs.ShiftConflict.{conflicts_with, disagrees_with, has_conflict}
use Rattle.tariff_rules.specs.ShiftEntry.{shift_rule_in}
use Rattle.tariff_rules.specs.TariffFile.{agreed, head_of, shifts_at, terms_in, terms_of}
use Rattle.tariff_rules.specs.TariffFile.{terms_of_document}
use Rattle.tariff_rules.specs.Terms.{ShiftRule, Terms}
use Rattle.tariff_rules.specs.declared.fault.TariffFault.TheVariants.{ShiftConflict, TooMany}
use Rattle.tariff_rules.specs.declared.key.Key.TheVariants as key
use Rattle.tariff_rules.specs.declared.shift.Shift.{Shift}
use Rattle.smf_text.specs.Day.{weekday_of}
use Rattle.book_model.proofs.Std.{eq_by_cmp, list_any, list_any_at, tells_apart, tied_itself}
use Rattle.book_model.proofs.Lemmas.{any_tied-members}
use Rattle.book_model.specs.Words.{by_shift, shifts_of}
use Rattle.book_reports.proofs.ShiftLemmas.{by_shift_exact, by_shift_total}
use Rattle.book_laws.specs.CheckLaws.{OnePercentAShift, ShiftsPrice}

-- a shift is the same as itself
is_itself : (shift : Shift) → eq_by_cmp by_shift shift shift ≡ true
is_itself shift = ap is_eq (tied_itself by_shift_total shift)

-- what is the same as some of a list is in it, and back
tied_there : (shifts : List Shift) (one : Shift) → list_any (eq_by_cmp by_shift one) shifts ≡ true
    → Contains shifts one
tied_there [] one some = absurd (true≢false (sym some))
tied_there (first ∷ shifts) one some =
    elim (eq_by_cmp by_shift one first) as (λ b. eq_by_cmp by_shift one first ≡ b
    → (b || list_any (eq_by_cmp by_shift one) shifts) ≡ true → Contains (first ∷ shifts) one) [
      | true ↦ λ tied some. (0, omega arith, sym (tells_apart by_shift_exact one first tied))
      | false ↦ λ other some.
          let rest = tied_there shifts one some in
          (suc rest.0, omega arith, rest.2)
    ] refl some

there_tied : (shifts : List Shift) (one : Shift) → Contains shifts one
    → list_any (eq_by_cmp by_shift one) shifts ≡ true
there_tied shifts one among =
    list_any_at (eq_by_cmp by_shift one) shifts among.0 one among.1
    (ap (eq_by_cmp by_shift one) among.2 ∙ is_itself one)

-- the shifts that are listed are BASE and those of the rules
abbrev shift_of : ShiftRule → Shift
shift_of rule = rule.shift

abbrev all_shifts : List ShiftRule → List Shift
all_shifts rules = base_shift ∷ map shift_of rules

listed : (terms : Terms) (one : Shift) → Contains (all_shifts terms.shifts) one
    → Contains (shifts_of terms) one
listed terms one among =
    tied_there (shifts_of terms) one
    (any_tied-members by_shift_total (all_shifts terms.shifts) one
    ∙ there_tied (all_shifts terms.shifts) one among)

unlisted : (terms : Terms) (one : Shift) → Contains (shifts_of terms) one
    → Contains (all_shifts terms.shifts) one
unlisted terms one among =
    tied_there (all_shifts terms.shifts) one
    (sym (any_tied-members by_shift_total (all_shifts terms.shifts) one)
    ∙ there_tied (shifts_of terms) one among)

-- the shift of the first rule that passes is one of them
found_there : (p : ShiftRule → Bool) (rules : List ShiftRule)
    → Contains (all_shifts rules) (shift_by (find p rules))
found_there p [] = (0, omega arith, refl)
found_there p (rule ∷ rules) =
    elim (p rule) as (λ b. Contains (all_shifts (rule ∷ rules))
    (shift_by (cond b (Some rule) (find p rules)))) [
      | true ↦ (1, omega arith, refl)
      | false ↦ one_more (found_there p rules)
    ]
  where
    one_more : Contains (all_shifts rules) (shift_by (find p rules))
        → Contains (all_shifts (rule ∷ rules)) (shift_by (find p rules))
    one_more among = by among.0 among.1 among.2
      where
        by : (k : ℕ) → k < length (all_shifts rules)
            → get_or (all_shifts rules) k (shift_by (find p rules)) ≡ shift_by (find p rules)
            → Contains (all_shifts (rule ∷ rules)) (shift_by (find p rules))
        by zero within is = (0, omega arith, is)
        by (suc k) within is = (suc (suc k), omega arith, is)

-- the law
pub shifts_price : ShiftsPrice
shifts_price terms day time =
    listed terms (shift_at terms.shifts day time)
    (found_there (has_moment (weekday_of day) (minute_of time)) terms.shifts)

-- ---- one percent

-- rules that were read agree
they_agree : (rules shifts : List ShiftRule) → agreed rules ≡ Ok shifts → has_conflict shifts ≡ false
they_agree rules shifts is = by (has_conflict rules) refl is
  where
    by : (b : Bool) → has_conflict rules ≡ b
        → cond b (Err ShiftConflict) (Ok rules) ≡ Ok shifts → has_conflict shifts ≡ false
    by true some is = cc is
    by false none is =
        let same : rules ≡ shifts = cc in
        ap has_conflict (sym same) ∙ none

-- so do those of a document,
shifts_agree : (document : Members) (shifts : List ShiftRule) → shifts_at document ≡ Ok shifts
    → has_conflict shifts ≡ false
unfolding shifts_at
shifts_agree document shifts is =
    elim (rules_at document key.Shift most_shifts shift_rule_in)
    as (λ read. (read >>= agreed) ≡ Ok shifts → has_conflict shifts ≡ false) [
      | Ok rules ↦ λ is. they_agree rules shifts is
      | Err fault ↦ λ is. cc is
    ] is

document_agrees : (document : Members) (terms : Terms) → terms_of document ≡ Ok terms
    → has_conflict terms.shifts ≡ false
unfolding terms_of
document_agrees document terms is =
    elim (head_of document) as (λ read.
    (read >>= λ head. shifts_at document >>= λ shifts.
    rules_at document key.Centre most_centres centre_rule_in >>= λ centres.
    Ok (record {
      effective = head.effective;
      step = head.step;
      job = head.job;
      shifts = shifts;
      centres = centres;
    })) ≡ Ok terms → has_conflict terms.shifts ≡ false) [
      | Ok head ↦ λ is.
          elim (shifts_at document) as (λ read. shifts_at document ≡ read
          → (read >>= λ shifts.
          rules_at document key.Centre most_centres centre_rule_in >>= λ centres.
          Ok (record {
            effective = head.effective;
            step = head.step;
            job = head.job;
            shifts = shifts;
            centres = centres;
          })) ≡ Ok terms → has_conflict terms.shifts ≡ false) [
            | Ok shifts ↦ λ found is.
                elim (rules_at document key.Centre most_centres centre_rule_in) as (λ read.
                (read >>= λ centres. Ok (record {
                  effective = head.effective;
                  step = head.step;
                  job = head.job;
                  shifts = shifts;
                  centres = centres;
                })) ≡ Ok terms → has_conflict terms.shifts ≡ false) [
                  | Ok centres ↦ λ is.
                      let same : shifts ≡ terms.shifts = cc in
                      ap has_conflict (sym same) ∙ shifts_agree document shifts found
                  | Err fault ↦ λ is. cc is
                ] is
            | Err fault ↦ λ found is. cc is
          ] refl is
      | Err fault ↦ λ is. cc is
    ] is

terms_agree : (text : List ℕ) (terms : Terms) → terms_in text ≡ Ok terms
    → has_conflict terms.shifts ≡ false
terms_agree text terms is = by (nat_lt most_text (length text)) (parse_document text) is
  where
    by : (long : Bool) (document : Option Members)
        → cond long (Err TooMany) (terms_of_document document) ≡ Ok terms → has_conflict terms.shifts ≡ false
    by true document is = cc is
    by false None is = cc is
    by false (Some document) is = document_agrees document terms is

-- where none passes, each fails
each_fails : {X : Type 0} (p : X → Bool) (xs : List X) (x : X) → list_any p xs ≡ false → Contains xs x
    → p x ≡ false
each_fails p xs x none among =
    elim (p x) as (λ b. p x ≡ b → b ≡ false) [
      | true ↦ λ passes.
          absurd (true≢false (sym (list_any_at p xs among.0 x among.1 (ap p among.2 ∙ passes)) ∙ none))
      | false ↦ λ fails. refl
    ] refl

-- shifts of one name that do not disagree have one percent
same_percent : (one other : Shift) → disagrees_with one other ≡ false → one.name ≡ other.name
    → one.percent ≡ other.percent
same_percent one other agree same =
    let named : bytes_eq one.name other.name ≡ true =
    (bytes_eq-Decides one.name other.name).1 same in
    eqb-true one.percent other.percent
    (not_both (bytes_eq one.name other.name) (one.percent == other.percent) named agree)
  where
    not_both : (named equal : Bool) → named ≡ true → (named && not equal) ≡ false → equal ≡ true
    not_both true true is none = refl
    not_both true false is none = absurd (true≢false none)
    not_both false equal is none = absurd (true≢false (sym is))

-- of two tests that both fail
first_fails : (a b : Bool) → (a || b) ≡ false → a ≡ false
first_fails false b none = refl
first_fails true b none = none

second_fails : (a b : Bool) → (a || b) ≡ false → b ≡ false
second_fails false b none = none
second_fails true b none = absurd (true≢false none)

-- a rule whose shift this is
record IsOfRule (rules : List ShiftRule) (shift : Shift) : Type 0 where
  rule : ShiftRule
  among : Contains rules rule
  its : rule.shift ≡ shift

of_rule : (rules : List ShiftRule) (shift : Shift) (k : ℕ) → k < length (map shift_of rules)
    → get_or (map shift_of rules) k shift ≡ shift → IsOfRule rules shift
of_rule [] shift k within is = absurd (omega arith)
of_rule (rule ∷ rules) shift zero within is =
    record { rule = rule; among = (0, omega arith, refl); its = is }
of_rule (rule ∷ rules) shift (suc k) within is =
    let rest = of_rule rules shift k (omega arith) is in
    let place = rest.among in
    record { rule = rest.rule; among = (suc place.0, omega arith, place.2); its = rest.its }

-- a shift of the list is BASE, or of a rule
of_base_or_rule : {P : Type 0} (rules : List ShiftRule) (shift : Shift)
    → Contains (all_shifts rules) shift → (base_shift ≡ shift → P) → (IsOfRule rules shift → P) → P
of_base_or_rule {P} rules shift among base rule = by among.0 among.1 among.2
  where
    by : (k : ℕ) → k < length (all_shifts rules) → get_or (all_shifts rules) k shift ≡ shift → P
    by zero within is = base is
    by (suc k) within is = rule (of_rule rules shift k (omega arith) is)

module _ (rules : List ShiftRule) (agree : has_conflict rules ≡ false) where
  -- a rule's shift agrees with BASE, and with that of each rule
  with_base : (rule : ShiftRule) → Contains rules rule
      → disagrees_with rule.shift base_shift ≡ false
  with_base rule among =
      first_fails (disagrees_with rule.shift base_shift)
      (list_any (λ (other : ShiftRule). disagrees_with rule.shift other.shift) rules)
      (each_fails (λ (one : ShiftRule). conflicts_with rules one.shift) rules rule agree among)

  with_rule : (rule other : ShiftRule) → Contains rules rule → Contains rules other
      → disagrees_with rule.shift other.shift ≡ false
  with_rule rule other among others =
      each_fails (λ (other : ShiftRule). disagrees_with rule.shift other.shift) rules other
      (second_fails (disagrees_with rule.shift base_shift)
      (list_any (λ (other : ShiftRule). disagrees_with rule.shift other.shift) rules)
      (each_fails (λ (one : ShiftRule). conflicts_with rules one.shift) rules rule agree among)) others

  base_percent_is : (shift : Shift) → IsOfRule rules shift → base_shift.name ≡ shift.name
      → shift.percent ≡ base_shift.percent
  base_percent_is shift its same =
      ap (λ (shift : Shift). shift.percent) (sym its.its)
      ∙ same_percent its.rule.shift base_shift (with_base its.rule its.among)
      (ap (λ (shift : Shift). shift.name) its.its ∙ sym same)

  rule_percent_is : (one other : Shift) → IsOfRule rules one → IsOfRule rules other
      → one.name ≡ other.name → one.percent ≡ other.percent
  rule_percent_is one other its others same =
      ap (λ (shift : Shift). shift.percent) (sym its.its)
      ∙ same_percent its.rule.shift others.rule.shift
      (with_rule its.rule others.rule its.among others.among)
      (ap (λ (shift : Shift). shift.name) its.its ∙ same
      ∙ sym (ap (λ (shift : Shift). shift.name) others.its))
      ∙ ap (λ (shift : Shift). shift.percent) others.its

-- the law
pub one_percent_a_shift : OnePercentAShift
one_percent_a_shift text terms one other said first second same =
    let agree = terms_agree text terms said in
    of_base_or_rule terms.shifts one (unlisted terms one first)
    (λ base. of_base_or_rule terms.shifts other (unlisted terms other second)
    (λ again. ap (λ (shift : Shift). shift.percent) (sym base ∙ again))
    (λ others. ap (λ (shift : Shift). shift.percent) (sym base)
    ∙ sym (base_percent_is terms.shifts agree other others
    (ap (λ (shift : Shift). shift.name) base ∙ same))))
    (λ its. of_base_or_rule terms.shifts other (unlisted terms other second)
    (λ base. base_percent_is terms.shifts agree one its
    (ap (λ (shift : Shift). shift.name) base ∙ sym same)
    ∙ ap (λ (shift : Shift). shift.percent) base)
    (λ others. rule_percent_is terms.shifts agree one other its others same))
