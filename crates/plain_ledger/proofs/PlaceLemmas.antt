-- Rulings by where they stand, by what a plain ledger keeps of them.
use Rattle.std.proofs.Common.{◌≡◌, ◌∙◌, ◌+◌, ◌-◌, ◌++◌, ◌<◌, ◌≤◌, ℕ, ℤ, List, ◌∷◌, Bool, None, Option}
use Rattle.std.proofs.Common.{Some, ap, arith, cond, drop, drop-cons, false, filter, find, get_or}
use Rattle.std.proofs.Common.{length, map, option_and_then, option_map, refl, slice_get, suc, sym, true}
use Rattle.std.proofs.lemmas.List.{drop-map, drop_all}
use Rattle.book_model.proofs.Std.{map-map}
use Rattle.book_model.specs.Journal.{ReplacementOf}
use Rattle.book_model.specs.JournalLists.{tariff_brought}
use Rattle.book_model.specs.Words.{AcceptedTerms, Naming, Replaced, RulingSeen, Rulings, is_effective}
use Rattle.book_model.specs.Words.{ruling_at, tariff_seen}
use Rattle.book_core.proofs.ListedLemmas.{first_kept}
use Rattle.plain_ledger.specs.declared.replaced.ReplacedTariff.{ReplacedTariff}
use Rattle.plain_ledger.specs.Plain.{replaced_of}
use Rattle.plain_ledger.specs.Replacements.{behind, brought_of}

module _ (gone : List ReplacedTariff) (tariffs : List AcceptedTerms) where
  -- the next behind some
  next_is : (at : ℕ) (one : ReplacedTariff) → at < length gone → one ≡ get_or gone at one
      → behind gone tariffs at ≡ (replaced_of one).tariff ∷ behind gone tariffs (at + 1)
  next_is at one within is =
      let same : suc at ≡ at + 1 = omega arith in
      let terms : List ReplacedTariff → List AcceptedTerms =
      λ list. map (λ (one : ReplacedTariff). (replaced_of one).tariff) list ++ tariffs in
      ap terms (drop-cons gone at one within)
      ∙ (λ i. (replaced_of (sym is i)).tariff ∷ terms (drop (same i) gone))

  by_next : (at : ℕ) (one : ReplacedTariff) → at < length gone → one ≡ get_or gone at one
      → (day : ℤ) (begins : Bool) → is_effective day (replaced_of one).tariff ≡ begins
      → brought_of gone tariffs day at
      ≡ cond begins (tariff_seen (replaced_of one).tariff) (brought_of gone tariffs day (at + 1))
  by_next at one within is day begins its =
      let rest : List AcceptedTerms = filter (is_effective day) (behind gone tariffs (at + 1)) in
      let own : AcceptedTerms = (replaced_of one).tariff in
      ap (λ list. option_and_then tariff_seen (slice_get (filter (is_effective day) list) 0))
      (next_is at one within is)
      ∙ ap (λ b. option_and_then tariff_seen (slice_get (cond b (own ∷ rest) rest) 0)) its
      ∙ by begins own rest
    where
      by : (b : Bool) (own : AcceptedTerms) (rest : List AcceptedTerms)
          → option_and_then tariff_seen (slice_get (cond b (own ∷ rest) rest) 0)
          ≡ cond b (tariff_seen own) (option_and_then tariff_seen (slice_get rest 0))
      by true own rest = refl
      by false own rest = refl

  -- it begins on the day,
  pub brought_here : (at : ℕ) (one : ReplacedTariff) → at < length gone → one ≡ get_or gone at one
      → (day : ℤ) → is_effective day (replaced_of one).tariff ≡ true
      → brought_of gone tariffs day at ≡ tariff_seen (replaced_of one).tariff
  brought_here at one within is day its = by_next at one within is day true its

  -- or is passed
  pub brought_later : (at : ℕ) (one : ReplacedTariff) → at < length gone
      → one ≡ get_or gone at one → (day : ℤ) → is_effective day (replaced_of one).tariff ≡ false
      → brought_of gone tariffs day at ≡ brought_of gone tariffs day (at + 1)
  brought_later at one within is day its = by_next at one within is day false its

  -- behind the last there are those in force
  pub brought_last : (at : ℕ) → length gone ≤ at → (day : ℤ) → brought_of gone tariffs day at
      ≡ option_and_then tariff_seen (find (is_effective day) tariffs)
  brought_last at past day =
      ap (λ list. option_and_then tariff_seen (slice_get (filter (is_effective day)
      (map (λ (one : ReplacedTariff). (replaced_of one).tariff) list ++ tariffs)) 0))
      (drop_all at gone past)
      ∙ ap (option_and_then tariff_seen) (sym (first_kept (is_effective day) tariffs))

-- so it is by the rulings
pub brought_is : (rulings : Rulings) (gone : List ReplacedTariff)
    → rulings.replaced ≡ map replaced_of gone → (day : ℤ) (at : ℕ)
    → brought_of gone rulings.tariffs day at ≡ tariff_brought day at rulings
brought_is rulings gone is day at =
    let first : List AcceptedTerms → Option RulingSeen = λ list.
    option_and_then tariff_seen (slice_get (filter (is_effective day) (list ++ rulings.tariffs)) 0) in
    ap first (sym (map-map (λ (replaced : Replaced). replaced.tariff) replaced_of (drop at gone))
    ∙ ap (map (λ (replaced : Replaced). replaced.tariff))
    (sym (drop-map replaced_of at gone) ∙ ap (drop at) (sym is)))

-- what came in the place of one
pub replacement_here : (naming : Naming) (rulings : Rulings) (number place : ℕ) (day : ℤ)
    → number ≡ place + 1
    → Some day ≡ option_map (λ (replaced : Replaced). replaced.tariff.terms.effective)
    (slice_get rulings.replaced place)
    → tariff_brought day number rulings ≡ ruling_at naming rulings (ReplacementOf number)
replacement_here naming rulings number place day is its =
    let same : place ≡ number - 1 = omega (arith, is) in
    ap (option_and_then (λ (day : ℤ). tariff_brought day number rulings)) its
    ∙ by (slice_get rulings.replaced place)
    ∙ ap (λ at. option_and_then (λ (replaced : Replaced).
    tariff_brought replaced.tariff.terms.effective number rulings)
    (slice_get rulings.replaced at)) same
  where
    by : (found : Option Replaced)
        → option_and_then (λ (day : ℤ). tariff_brought day number rulings)
        (option_map (λ (replaced : Replaced). replaced.tariff.terms.effective) found)
        ≡ option_and_then (λ (replaced : Replaced).
        tariff_brought replaced.tariff.terms.effective number rulings) found
    by None = refl
    by (Some replaced) = refl
