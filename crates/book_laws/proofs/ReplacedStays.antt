-- The tariffs of a closed period's days stay where a text takes the place of a tariff: that one begins
-- after these days.
use Rattle.std.proofs.Common.{◌≡◌, ℕ, zero, suc, ◌<◌, List, [], ◌∷◌, get_or, refl, sym}
use Rattle.std.proofs.Common.{ap, ◌∙◌, true, false, cond, not, Option, Some, None}
use Rattle.std.proofs.Common.{arith, ℤ, pos, ◌<ℤ◌, int_lt, filter, map, slice_get, All}
use Rattle.std.proofs.Common.{if◌then◌else◌, option_map, ◌||◌}
use Rattle.std.proofs.lemmas.Bool.Decides.{Decides-int_eq}
use Rattle.std.specs.Ordering.{int_eq}
use Rattle.book_model.proofs.Std.{cons_option, list_any, ints, slice_get-get_or, All-head}
use Rattle.book_model.proofs.Std.{All-tail}
use Rattle.book_model.specs.Words.{AcceptedTerms, RulingSeen, TariffSeen}
use Rattle.book_model.specs.Words.{begins_by, first_day_of, in_force_from, is_effective}
use Rattle.book_model.specs.Words.{last_close, open_number, or_new, tariff_seen}
use Rattle.book_model.specs.Words.{tariffs_from, tariffs_in, tariffs_seen, tariffs_through}
use Rattle.book_model.specs.Words.{through_of, with_replaced}
use Rattle.book_model.proofs.CountedDays.{through_at}
use Rattle.book_model.proofs.TestLemmas.{replace_passes}
use Rattle.table_model.specs.Words.{IsTexted}
use Rattle.book_laws.proofs.TariffStays.{after_each, later_than}
use Rattle.book_laws.specs.RulingLaws.{ClosedTariffsStay}

module _ (new : AcceptedTerms) (text : List ℕ) (is : new.text ≡ Some text) where
  -- its first day
  abbrev day : ℤ
  day = new.terms.effective

  -- a ruling of the list with the new text, where it is a tariff of that day
  abbrev with_text : RulingSeen → RulingSeen
  with_text (TariffSeen at own) = TariffSeen at (if int_eq day at then text else own)
  with_text other = other

  -- it begins as it did
  begins : (last : ℤ) (ruling : RulingSeen)
      → begins_by last (with_text ruling) ≡ begins_by last ruling
  begins last (TariffSeen at own) = refl
  begins last other = refl

  -- the list of the tariffs after it
  seen_after : (tariffs : List AcceptedTerms) → All IsTexted tariffs
      → tariffs_seen (map (or_new new) tariffs) ≡ map with_text (tariffs_seen tariffs)
  seen_after [] all = refl
  seen_after (tariff ∷ tariffs) all =
      let texted = All-head IsTexted tariff tariffs all in
      let rest = seen_after tariffs (All-tail IsTexted tariff tariffs all) in
      let own : List ℕ = texted.text in
      elim (is_effective day tariff) as (λ b. is_effective day tariff ≡ b
      → cons_option (tariff_seen (cond b new tariff)) (tariffs_seen (map (or_new new) tariffs))
      ≡ map with_text (cons_option (tariff_seen tariff) (tariffs_seen tariffs))) [
        | true ↦ λ same.
            let at = (Decides-int_eq day tariff.terms.effective).0 same in
            (λ i. cons_option (option_map (TariffSeen (at i)) (is i)) (rest i))
            ∙ sym (ap (λ found. map with_text (cons_option
            (option_map (TariffSeen tariff.terms.effective) found) (tariffs_seen tariffs))) texted.is
            ∙ ap (λ b. TariffSeen tariff.terms.effective (if b then text else own)
            ∷ map with_text (tariffs_seen tariffs)) same)
        | false ↦ λ apart.
            (λ i. cons_option (option_map (TariffSeen tariff.terms.effective) (texted.is i)) (rest i))
            ∙ sym (ap (λ found. map with_text (cons_option
            (option_map (TariffSeen tariff.terms.effective) found) (tariffs_seen tariffs))) texted.is
            ∙ ap (λ b. TariffSeen tariff.terms.effective (if b then text else own)
            ∷ map with_text (tariffs_seen tariffs)) apart)
      ] refl

  -- some of them have begun where some had
  some_begun : (last : ℤ) (list : List RulingSeen)
      → list_any (begins_by last) (map with_text list) ≡ list_any (begins_by last) list
  some_begun last [] = refl
  some_begun last (ruling ∷ list) =
      let rest = some_begun last list in λ i. begins last ruling i || rest i

  -- so those in force from a day on are the same, with the new text
  in_force_after : (at : ℤ) (list : List RulingSeen)
      → in_force_from at (map with_text list) ≡ map with_text (in_force_from at list)
  in_force_after at [] = refl
  in_force_after at (ruling ∷ list) =
      ap (λ b. if b then in_force_from at (map with_text list)
      else with_text ruling ∷ map with_text list) (some_begun at list)
      ∙ elim (list_any (begins_by at) list) as (λ b.
      (if b then in_force_from at (map with_text list) else with_text ruling ∷ map with_text list)
      ≡ map with_text (if b then in_force_from at list else ruling ∷ list)) [
        | true ↦ in_force_after at list
        | false ↦ refl
      ]

  from_after : (first : Option ℤ) (list : List RulingSeen)
      → tariffs_from first (map with_text list) ≡ map with_text (tariffs_from first list)
  from_after None list = refl
  from_after (Some at) list = in_force_after at list

  -- and through a day before its first they are the same
  through_after : (last : ℤ) → int_lt last day ≡ true → (list : List RulingSeen)
      → filter (begins_by last) (map with_text list) ≡ filter (begins_by last) list
  through_after last early [] = refl
  through_after last early (ruling ∷ list) = one ruling (through_after last early list)
    where
      one : (ruling : RulingSeen)
          → filter (begins_by last) (map with_text list) ≡ filter (begins_by last) list
          → cond (begins_by last (with_text ruling))
          (with_text ruling ∷ filter (begins_by last) (map with_text list))
          (filter (begins_by last) (map with_text list))
          ≡ cond (begins_by last ruling) (ruling ∷ filter (begins_by last) list)
          (filter (begins_by last) list)
      one (TariffSeen at own) rest =
          let now : List RulingSeen = filter (begins_by last) (map with_text list) in
          let was : List RulingSeen = filter (begins_by last) list in
          elim (int_eq day at) as (λ b. int_eq day at ≡ b
          → cond (not (int_lt last at)) (TariffSeen at (if b then text else own) ∷ now) now
          ≡ cond (not (int_lt last at)) (TariffSeen at own ∷ was) was) [
            | true ↦ λ same.
                let under : int_lt last at ≡ true =
                ap (int_lt last) (sym ((Decides-int_eq day at).0 same)) ∙ early in
                ap (λ b. cond (not b) (TariffSeen at text ∷ now) now) under
                ∙ rest
                ∙ sym (ap (λ b. cond (not b) (TariffSeen at own ∷ was) was) under)
            | false ↦ λ apart.
                ap (λ list. cond (not (int_lt last at)) (TariffSeen at own ∷ list) list) rest
          ] refl
      one other rest = rest

-- the law
pub closed_tariffs_stay : ClosedTariffsStay
closed_tariffs_stay naming book text terms number whole closed done =
    by_number number closed.is_numbered closed.is_past
  where
    by_number : (number : ℕ) → 0 < number → number < open_number book
        → tariffs_in number (with_replaced text terms book.rulings) ≡ tariffs_in number book.rulings
    by_number zero some past = absurd (omega arith)
    by_number (suc k) some past =
        let new : AcceptedTerms = record { text = Some text; terms = terms } in
        let closes : List ℤ = book.rulings.closes in
        let last : ℤ = get_or closes k (pos 0) in
        let there : slice_get closes k ≡ Some last =
        slice_get-get_or closes k (pos 0) (omega arith) in
        let after : last <ℤ terms.effective = after_each closes k last terms.effective whole.in_order
        there (later_than (last_close book.rulings) terms.effective
        (replace_passes book text terms done).later) in
        let early : int_lt last terms.effective ≡ true = grind (arith, ints, after) in
        let through : through_of (suc k) book.rulings ≡ Some last =
        through_at (suc k) book.rulings ∙ there in
        let first : Option ℤ = first_day_of (suc k) book.rulings in
        let before : List RulingSeen = tariffs_from first (tariffs_seen book.rulings.tariffs) in
        ap (λ seen. tariffs_through (through_of (suc k) book.rulings) (tariffs_from first seen))
        (seen_after new text refl book.rulings.tariffs whole.texts)
        ∙ ap (tariffs_through (through_of (suc k) book.rulings))
        (from_after new text refl first (tariffs_seen book.rulings.tariffs))
        ∙ ap (λ through. tariffs_through through (map (with_text new text refl) before)) through
        ∙ through_after new text refl last early before
        ∙ sym (ap (λ through. tariffs_through through before) through)
