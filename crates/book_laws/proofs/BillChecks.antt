-- Each row of a bill checks by a tariff that stands on the bill: by day by the tariff in force on its
-- day, and by shift by the one that begins on its day.
use Rattle.std.proofs.Common.{◌≡◌, ◌∙◌, ℕ, ℤ, Bool, true, false, true≢false, cond, not, ◌||◌, List, []}
use Rattle.std.proofs.Common.{◌∷◌, Option, Some, None, Ok, refl, sym, ap, subst, map, filter, is_some}
use Rattle.std.proofs.Common.{option_map, All, Contains, nat_lt, length, get_or, if◌then◌else◌}
use Rattle.std.proofs.Common.{◌==◌, is_eq}
use Rattle.std.proofs.lemmas.Bool.{eqb-true}
use Rattle.std.proofs.lemmas.List.Elements.{All-contains_itself}
use Rattle.std.proofs.lemmas.List.Sorted.{Contains-permutation}
use Rattle.std.specs.FinMap as fin
use Rattle.smf_frames.specs.Header.{header_len}
use Rattle.smf_type30.specs.Class.{IsUsage, class_of, class_of_work, type_of}
use Rattle.smf_type30.specs.Layout.{data_lost, dump_header, dump_trailer, job_end, step_end, subtype_end}
use Rattle.smf_type30.specs.Layout.{work}
use Rattle.smf_type30.specs.Usage.{ended_step_of}
use Rattle.tariff_rules.specs.Price.{amount_of, rates_for, shift_at}
use Rattle.tariff_rules.specs.Terms.{RatesOf}
use Rattle.tariff_rules.specs.declared.shift.Shift.{Shift}
use Rattle.book_model.proofs.Std.{All-cons, All-filter, All-head, All-map, All-nil}
use Rattle.book_model.proofs.Std.{All-tail, All-weaker, eq_by_cmp, list_any, list_any_at}
use Rattle.book_model.proofs.Std.{same_Some, tells_apart, tied_itself}
use Rattle.book_model.specs.declared.bill.BilledTariff.{BilledTariff}
use Rattle.book_model.specs.declared.detail.Detail.{Detail}
use Rattle.book_model.specs.Words.{AreHeld, Book, Naming, Period, Priced, Terms, are_rising, bill_of}
use Rattle.book_model.specs.Words.{by_key, charged_at, day_of, detail_by, detail_of, details_asked}
use Rattle.book_model.specs.Words.{details_of, has, in_force, is_step, key_of, keys_of, members}
use Rattle.book_model.specs.Words.{period_of, price_by, row_at, rows_of, same_bytes, same_key}
use Rattle.book_model.specs.Words.{shifts_of, subtype_of, terms_in, time_of, work_rows}
use Rattle.book_model.proofs.DetailLemmas.{read_once}
use Rattle.book_model.proofs.GivenLemmas.{contains_given}
use Rattle.book_model.proofs.Lemmas.{any_tied-members, by_key_exact, by_key_total, same_key_ties}
use Rattle.table_model.proofs.HeldPeriods.{all_held}
use Rattle.table_model.specs.Readable.{IsReadable, IsTexted}
use Rattle.bill_texts.specs.ShiftSums.{by_tariff, dated_since, places_of, since, sums_at}
use Rattle.book_laws.specs.CheckLaws.{BeginsOn, BilledRowsCheck, ChecksByTariff, IsInForceOn}
use Rattle.book_laws.specs.CheckLaws.{IsPricedBy, RowsCheckBy}
use Rattle.book_laws.proofs.BillLemmas.{of_period}
use Rattle.book_laws.proofs.BilledTariffs.{IsBilledOn, billed_on}
use Rattle.book_laws.proofs.CheckLemmas.{rows_check}
use Rattle.book_laws.proofs.InForceLemmas.{in_force_has, same_effective}
use Rattle.book_laws.proofs.PercentLemmas.{one_percent_a_shift, shifts_price}
use Rattle.book_laws.proofs.ReadLemmas.{named}
use Rattle.book_laws.proofs.ShiftRows.{row_moved, same_places}
use Rattle.book_laws.proofs.Words.{ChargeRow, RowKey}

-- ---- steps and jobs

-- a test that would have given another answer failed
passed : {A : Type 0} (test : Bool) (here others answer : A) → (here ≡ answer → ⊥)
    → cond test here others ≡ answer → (test ≡ false) × (others ≡ answer)
passed true here others answer other is = absurd (other is)
passed false here others answer other is = (refl, is)

-- a test without which there would have been another answer held
held_test : {A : Type 0} (test : Bool) (here others answer : A) → (others ≡ answer → ⊥)
    → cond test here others ≡ answer → here ≡ answer
held_test true here others answer other is = is
held_test false here others answer other is = absurd (other is)

not_false : (b : Bool) → not b ≡ false → b ≡ true
not_false true is = refl
not_false false is = absurd (true≢false is)

-- a record that can be charged ends a step or a job
ends_work : (bytes : List ℕ) → IsUsage bytes
    → (subtype_of bytes == step_end || subtype_of bytes == job_end) ≡ true
unfolding class_of class_of_work
ends_work bytes usage =
    let long = passed (nat_lt (length bytes) header_len) _ _ _ (λ e. cc) usage in
    let opens = passed (type_of bytes == dump_header) _ _ _ (λ e. cc) long.1 in
    let ends = passed (type_of bytes == dump_trailer) _ _ _ (λ e. cc) opens.1 in
    let lost = passed (type_of bytes == data_lost) _ _ _ (λ e. cc) ends.1 in
    let worked = held_test (type_of bytes == work) _ _ _ (λ e. cc) lost.1 in
    let header = passed (nat_lt (length bytes) subtype_end) _ _ _ (λ e. cc) worked in
    let kind = passed (not (subtype_of bytes == step_end || subtype_of bytes == job_end)) _ _ _
    (λ e. cc) header.1 in
    not_false _ kind.0

-- of one of both that is a step, and of one that is none
is_first : (step job : Bool) (n : ℕ) → (step || job) ≡ true
    → is_some (if job then None else Some n) ≡ true → step ≡ true
is_first true job n either some = refl
is_first false true n either some = absurd (true≢false (sym some))
is_first false false n either some = absurd (true≢false (sym either))

is_second : (job : Bool) (n : ℕ) → not (is_some (if job then None else Some n)) ≡ true → job ≡ true
is_second true n none = refl
is_second false n none = absurd (true≢false (sym none))

-- the rates of a step are those of steps, and the rates of a job those of jobs
step_rates : (terms : Terms) (bytes : List ℕ) → IsUsage bytes
    → is_some (ended_step_of bytes) ≡ true → rates_for terms (subtype_of bytes) ≡ terms.step
unfolding ended_step_of
step_rates terms bytes usage ended =
    ap (rates_for terms)
    (eqb-true _ _ (is_first (subtype_of bytes == step_end) (subtype_of bytes == job_end) _
    (ends_work bytes usage) ended))

job_rates : (terms : Terms) (bytes : List ℕ) → IsUsage bytes
    → not (is_some (ended_step_of bytes)) ≡ true → rates_for terms (subtype_of bytes) ≡ terms.job
unfolding ended_step_of
job_rates terms bytes usage ended =
    ap (rates_for terms) (eqb-true _ _ (is_second (subtype_of bytes == job_end) _ ended))

-- terms that a text says
abbrev IsSaid : Terms → Type 0
IsSaid terms = (text : List ℕ) × (terms_in text ≡ Ok terms)

-- ---- prices

-- what stands behind the price of a detail
record HasPrice (rates_in : Terms → RatesOf) (book : Book) (tariffs : List BilledTariff)
    (detail : Detail) : Type 0 where
  terms : Terms
  rules : in_force detail.priced.day book.rulings.tariffs ≡ Some terms
  billed : IsBilledOn detail.priced.day tariffs terms
  said : IsSaid terms
  shift : Shift
  its : Contains (shifts_of terms) shift
  name : shift.name ≡ detail.priced.shift
  amount : IsPricedBy (rates_in terms) shift.percent detail.priced

module _ (rates_in : Terms → RatesOf) (book : Book) (tariffs : List BilledTariff) (day_in : ℤ → ℤ)
    (IsOf : ℤ → Terms → Type 0)
    (of_its : (detail : Detail) (its : HasPrice rates_in book tariffs detail)
    → IsOf (day_in detail.priced.day) its.terms)
    (same_terms : (one other : Detail) (its : HasPrice rates_in book tariffs one)
    (others : HasPrice rates_in book tariffs other)
    → day_in other.priced.day ≡ day_in one.priced.day → others.terms ≡ its.terms) where
  abbrev Priceds : Detail → Type 0
  Priceds = HasPrice rates_in book tariffs

  -- a price as if it were dated otherwise
  abbrev moved : Detail → Priced
  moved detail = record detail.priced { day = day_in detail.priced.day }

  abbrev ps : List Detail → List Priced
  ps details = map moved details

  abbrev ChecksHere : ChargeRow → Type 0
  ChecksHere = ChecksByTariff IsOf rates_in tariffs

  -- details of one place have one price
  alike : (one : Detail) (its : Priceds one) (other : Detail) → Priceds other
      → key_of (moved other) ≡ key_of (moved one)
      → IsPricedBy (rates_in its.terms) its.shift.percent (moved other)
  alike one its other others same =
      let day : day_in other.priced.day ≡ day_in one.priced.day = ap (λ (key : RowKey). key.day) same in
      let shift : other.priced.shift ≡ one.priced.shift = ap (λ (key : RowKey). key.shift) same in
      let terms : others.terms ≡ its.terms = same_terms one other its others day in
      let percent : others.shift.percent ≡ its.shift.percent =
      one_percent_a_shift its.said.0 its.terms others.shift its.shift its.said.1
      (subst (λ (terms : Terms). Contains (shifts_of terms) others.shift) terms others.its) its.its
      (others.name ∙ shift ∙ sym its.name) in
      others.amount
      ∙ (λ i. amount_of (rates_in (terms i)) (percent i) other.priced.cpu other.priced.excp)

  -- so all that is charged at the place has it
  all_alike : (one : Detail) (its : Priceds one) (details : List Detail) → All Priceds details
      → All (IsPricedBy (rates_in its.terms) its.shift.percent)
      (charged_at (ps details) (key_of (moved one)))
  all_alike one its [] all = All-nil (IsPricedBy (rates_in its.terms) its.shift.percent)
  all_alike one its (detail ∷ details) all =
      let P : Priced → Type 0 = IsPricedBy (rates_in its.terms) its.shift.percent in
      let key : RowKey = key_of (moved one) in
      let rest : All P (charged_at (ps details) key) =
      all_alike one its details (All-tail Priceds detail details all) in
      elim (same_key (key_of (moved detail)) key) as (λ b. same_key (key_of (moved detail)) key ≡ b
      → All P (cond b (moved detail ∷ charged_at (ps details) key) (charged_at (ps details) key))) [
        | true ↦ λ there.
            All-cons P (moved detail) (charged_at (ps details) key)
            (alike one its detail (All-head Priceds detail details all)
            (tells_apart by_key_exact (key_of (moved detail)) key
            (sym (same_key_ties (key_of (moved detail)) key) ∙ there))) rest
        | false ↦ λ elsewhere. rest
      ] refl

  -- so the row of a detail's place checks
  row_checks : (one : Detail) → Priceds one → (details : List Detail) → All Priceds details
      → ChecksHere (row_at (ps details) (key_of (moved one)))
  row_checks one its details all = record {
    terms = its.terms;
    its = of_its one its;
    stands = its.billed.among;
    percent = its.shift.percent;
    shift = subst
        (λ name. Contains (shifts_of its.terms) (record { name = name; percent = its.shift.percent }))
        its.name its.its;
    checks = rows_check (rates_in its.terms) its.shift.percent (ps details) (key_of (moved one))
        (all_alike one its details all);
  }

  -- a place that some detail has
  record IsOne (key : RowKey) : Type 0 where
    one : Detail
    its : Priceds one
    there : key_of (moved one) ≡ key

  found_at : (key : RowKey) (details : List Detail) → All Priceds details
      → list_any (eq_by_cmp by_key key) (map key_of (ps details)) ≡ true → IsOne key
  found_at key [] all among = absurd (true≢false (sym among))
  found_at key (detail ∷ details) all among =
      elim (eq_by_cmp by_key key (key_of (moved detail)))
      as (λ b. eq_by_cmp by_key key (key_of (moved detail)) ≡ b
      → (b || list_any (eq_by_cmp by_key key) (map key_of (ps details))) ≡ true → IsOne key) [
        | true ↦ λ tied among. record {
          one = detail;
          its = All-head Priceds detail details all;
          there = sym (tells_apart by_key_exact key (key_of (moved detail)) tied);
        }
        | false ↦ λ other among.
            found_at key details (All-tail Priceds detail details all) among
      ] refl among

  -- so does the row of any place of a detail,
  checks_at : (details : List Detail) → All Priceds details → (key : RowKey)
      → list_any (eq_by_cmp by_key key) (map key_of (ps details)) ≡ true
      → ChecksHere (row_at (ps details) key)
  checks_at details all key among =
      let found = found_at key details all among in
      subst (λ key. ChecksHere (row_at (ps details) key)) found.there
      (row_checks found.one found.its details all)

  -- and of all places
  all_check : (details : List Detail) → All Priceds details
      → All ChecksHere (rows_of (ps details))
  all_check details all =
      let keys : List RowKey = keys_of (ps details) in
      All-map (ChecksHere) (row_at (ps details)) keys
      (λ k key within.
      let own : RowKey = get_or keys k key in
      let itself : eq_by_cmp by_key own own ≡ true = ap is_eq (tied_itself by_key_total own) in
      let among = list_any_at (eq_by_cmp by_key own) keys k key within itself in
      checks_at details all own
      (sym (any_tied-members by_key_total (map key_of (ps details)) own) ∙ among))

-- ---- by tariff

module _ (rates_in : Terms → RatesOf) (book : Book) (tariffs : List BilledTariff)
    (rising : are_rising book.rulings.tariffs ≡ true) where
  -- prices of tariffs that begin on one day are by one tariff
  one_tariff : (one other : Detail) (its : HasPrice rates_in book tariffs one)
      (others : HasPrice rates_in book tariffs other)
      → since tariffs other.priced.day ≡ since tariffs one.priced.day → others.terms ≡ its.terms
  one_tariff one other its others same =
      same_effective book.rulings.tariffs other.priced.day one.priced.day others.terms its.terms
      rising others.rules its.rules (sym others.billed.begun ∙ same ∙ its.billed.begun)

  -- so all rows by tariff check
  shifts_check : (details : List Detail) → All (HasPrice rates_in book tariffs) details
      → All (ChecksByTariff BeginsOn rates_in tariffs) (by_tariff tariffs (work_rows details))
  shifts_check details all =
      let dated : List ChargeRow = map (dated_since tariffs) (work_rows details) in
      let places : List RowKey = places_of dated in
      let Here : ChargeRow → Type 0 = ChecksByTariff BeginsOn rates_in tariffs in
      All-map Here (sums_at dated) places
      (λ k place within.
      let own : RowKey = get_or places k place in
      let itself : eq_by_cmp by_key own own ≡ true = ap is_eq (tied_itself by_key_total own) in
      let among = list_any_at (eq_by_cmp by_key own) places k place within itself in
      subst Here (sym (row_moved tariffs details own))
      (checks_at rates_in book tariffs (since tariffs) BeginsOn (λ detail its. its.billed.begun)
      one_tariff details all own (same_places tariffs details own ∙ among)))

-- ---- the bill

module _ (naming : Naming) (book : Book) (number : ℕ) (period : Period) (centre : Option (List ℕ))
    (whole : IsReadable naming book) (is : period_of book number ≡ Some period) where
  abbrev tariffs_on : List BilledTariff
  tariffs_on = (bill_of naming book number centre period).tariffs

  -- what is counted is held
  counted_held : (bytes : List ℕ) → has period.counted bytes ≡ true → has book.held bytes ≡ true
  counted_held =
      (of_period (AreHeld book.held) naming book whole.sound (all_held naming book whole.sound) number
      period is).counted

  module _ (rates_in : Terms → RatesOf) (kind : Detail → Bool)
      (rates : (terms : Terms) (bytes : List ℕ) → IsUsage bytes
      → kind (detail_by naming bytes (price_by terms bytes)) ≡ true
      → rates_for terms (subtype_of bytes) ≡ rates_in terms) where
    -- a record of the kind is priced by the rates of the kind
    of_bytes : (bytes : List ℕ) → has period.counted bytes ≡ true → (found : Option Terms)
        → in_force (day_of bytes) book.rulings.tariffs ≡ found → (detail : Detail)
        → option_map (detail_by naming bytes) (option_map (λ (terms : Terms). price_by terms bytes) found)
        ≡ Some detail
        → kind detail ≡ true → HasPrice rates_in book tariffs_on detail
    of_bytes bytes counted None ruled detail none own = cc none
    of_bytes bytes counted (Some terms) ruled detail some own =
        let made : detail_by naming bytes (price_by terms bytes) ≡ detail = same_Some _ _ some in
        let usage : IsUsage bytes = (whole.usage bytes (counted_held bytes counted)).usage in
        let shift : Shift = shift_at terms.shifts (day_of bytes) (time_of bytes) in
        let priced = price_by terms bytes in
        subst (HasPrice rates_in book tariffs_on) made (record {
          terms = terms;
          rules = ruled;
          billed = billed_on naming book number period bytes terms whole is counted ruled;
          said = in_force_has IsSaid (day_of bytes) book.rulings.tariffs terms texts ruled;
          shift = shift;
          its = shifts_price terms (day_of bytes) (time_of bytes);
          name = refl;
          amount = ap (λ rates. amount_of rates shift.percent priced.cpu priced.excp)
              (rates terms bytes usage (ap kind made ∙ own));
        })
      where
        texts : All (λ tariff. IsSaid tariff.terms) book.rulings.tariffs
        texts =
            All-weaker IsTexted (λ tariff. IsSaid tariff.terms) (λ tariff texted. (texted.text, texted.said))
            book.rulings.tariffs whole.texts

    of_detail : (detail : Detail) → Contains (details_of naming book.rulings period) detail
        → kind detail ≡ true → HasPrice rates_in book tariffs_on detail
    of_detail detail among own =
        let found = contains_given (detail_of naming book.rulings) (members period.counted) detail
        (Contains-permutation (details_of naming book.rulings period) _ detail
        (read_once naming book.rulings period.counted
        (named naming book whole.sound period.counted counted_held)) among) in
        let counted = fin.contains_key-keys period.counted found.0 ∙ found.1 in
        of_bytes found.0 counted (in_force (day_of found.0) book.rulings.tariffs) refl detail found.2 own

    of_kind : (details : List Detail) → All (Contains (details_of naming book.rulings period)) details
        → All (HasPrice rates_in book tariffs_on) (filter kind details)
    of_kind [] all = All-nil (HasPrice rates_in book tariffs_on)
    of_kind (detail ∷ details) all =
        let P : Detail → Type 0 = HasPrice rates_in book tariffs_on in
        let Among : Detail → Type 0 = Contains (details_of naming book.rulings period) in
        let rest = of_kind details (All-tail Among detail details all) in
        elim (kind detail) as (λ b. kind detail ≡ b
        → All P (cond b (detail ∷ filter kind details) (filter kind details))) [
          | true ↦ λ own.
              All-cons P detail (filter kind details)
              (of_detail detail (All-head Among detail details all) own) rest
          | false ↦ λ other. rest
        ] refl

    -- those that are asked for are among all
    asked_among : (centre : Option (List ℕ))
        → All (Contains (details_of naming book.rulings period))
        (details_asked centre (details_of naming book.rulings period))
    asked_among None = All-contains_itself (details_of naming book.rulings period)
    asked_among (Some name) =
        All-filter (λ detail. same_bytes detail.priced.centre name)
        (Contains (details_of naming book.rulings period)) (details_of naming book.rulings period)
        (All-contains_itself (details_of naming book.rulings period))

    -- the rows of the kind check, by day and by shift
    checks_of : RowsCheckBy rates_in book.rulings tariffs_on
        (work_rows (filter kind (details_asked centre (details_of naming book.rulings period))))
    checks_of =
        let details : List Detail = filter kind
        (details_asked centre (details_of naming book.rulings period)) in
        let all = of_kind (details_asked centre (details_of naming book.rulings period))
        (asked_among centre) in
        record {
          by_day = all_check rates_in book tariffs_on (λ day. day) (IsInForceOn book.rulings)
              (λ detail its. its.rules)
              (λ one other its others same.
              same_Some _ _
              (sym others.rules ∙ ap (λ day. in_force day book.rulings.tariffs) same ∙ its.rules))
              details all;
          by_shift = shifts_check rates_in book tariffs_on whole.rising details all;
        }

-- the law
pub billed_rows_check : BilledRowsCheck
billed_rows_check naming book number period centre whole is = record {
  steps = checks_of naming book number period centre whole is (λ terms. terms.step) is_step
      (λ terms bytes usage step. step_rates terms bytes usage step);
  jobs = checks_of naming book number period centre whole is (λ terms. terms.job)
      (λ detail. not (is_step detail))
      (λ terms bytes usage job. job_rates terms bytes usage job);
}
