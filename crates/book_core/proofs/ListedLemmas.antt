-- Where a number leads in the list of rulings, part by part.
use Rattle.std.proofs.Common.{◌≡◌, ◌∙◌, ◌+◌, ◌<◌, ◌≤◌, ℕ, zero, suc, List, [], ◌∷◌, ◌++◌, length}
use Rattle.std.proofs.Common.{refl, sym, ap, arith, Option, Some, None, Err, slice_get, option_map}
use Rattle.std.proofs.Common.{Bool, true, false, cond, filter, find}
use Rattle.book_model.specs.Words.{AcceptedTerms, Choice, Credit, Naming, Replaced, Rulings}
use Rattle.book_model.specs.Words.{RulingSeen, adoption_seen, all_replaced_seen, choice_seen}
use Rattle.book_model.specs.Words.{choices_seen, closes_seen, credit_seen, credits_seen}
use Rattle.book_model.specs.Words.{tariffs_seen}
use Rattle.book_model.specs.declared.listed_ruling.ListedRuling.TheVariants as ruling
use Rattle.book_model.proofs.ListedLemmas.{choice_seen_at, choices_count, credit_seen_at}
use Rattle.book_model.proofs.ListedLemmas.{credits_count, in_turn, slice_get-left, slice_get-right}
use Rattle.book_core.specs.ListedRulings.{LeadsInto, Part, StandsAt, StandsIn, adoption_part}
use Rattle.book_core.specs.ListedRulings.{choices_part, last_part, listed_with}
use Rattle.book_core.specs.declared.listed_rulings.ListedAt.{ListedAt}
use Rattle.book_core.specs.declared.listed_rulings.ListedAt.TheVariants.{Other}
use Rattle.book_core.specs.declared.listed_rulings.ListedAt.TheVariants as listed
use Rattle.book_core.specs.declared.listed_rulings.RulingCounts.{RulingCounts}

-- The number leads to the rest of a number in some last tariffs: past those before them, of which
-- some stand in the list.
pub record LeadsOn (tariffs later : List AcceptedTerms) (number rest : ℕ) : Type 0 where
  pub same : slice_get (tariffs_seen tariffs) number ≡ slice_get (tariffs_seen later) rest
  pub count : number + length (tariffs_seen later) ≡ rest + length (tariffs_seen tariffs)

-- past all of a list there is nothing
past_all : {X : Type 0} (xs : List X) (k : ℕ) → length xs ≤ k → slice_get xs k ≡ None
past_all [] k behind = refl
past_all (x ∷ xs) zero behind = absurd (omega arith)
past_all (x ∷ xs) (suc k) behind = past_all xs k (omega arith)

-- what stands at a number of one part stands at one of another that leads there
pub stands_on : (part other : Part) (counts : RulingCounts) (number rest : ℕ) (found : ListedAt)
    → ((naming : Naming) (choices : List Choice) (replaced : List Replaced) (credits : List Credit)
    → length choices ≡ counts.choices
    → slice_get (part naming choices replaced credits) number
    ≡ slice_get (other naming choices replaced credits) rest)
    → StandsIn other counts rest found → StandsIn part counts number found
stands_on part other counts number rest (listed.Choice place) leads stands = (
  stands.0,
  λ naming choices replaced credits chosen taken given.
      leads naming choices replaced credits chosen
      ∙ stands.1 naming choices replaced credits chosen taken given,
)
stands_on part other counts number rest (listed.Replaced place) leads stands = (
  stands.0,
  λ naming choices replaced credits chosen taken given.
      leads naming choices replaced credits chosen
      ∙ stands.1 naming choices replaced credits chosen taken given,
)
stands_on part other counts number rest (listed.Credit place) leads stands = (
  stands.0,
  λ naming choices replaced credits chosen taken given.
      leads naming choices replaced credits chosen
      ∙ stands.1 naming choices replaced credits chosen taken given,
)
stands_on part other counts number rest (Other found) leads stands =
    λ naming choices replaced credits chosen taken given.
    leads naming choices replaced credits chosen
    ∙ stands naming choices replaced credits chosen taken given

-- ---- behind the adoption

module _ (counts : RulingCounts) (number : ℕ) where
  -- a tariff that was replaced,
  pub at_replaced : number < counts.replaced
      → StandsIn last_part counts number (listed.Replaced number)
  at_replaced within = (
    within,
    λ naming choices replaced credits chosen taken given.
        slice_get-left (all_replaced_seen replaced) (credits_seen 1 credits) number
        (omega (arith, within, taken)),
  )

  -- or a credit,
  pub at_credit : (rest : ℕ) → number ≡ counts.replaced + rest → rest < counts.credits
      → StandsIn last_part counts number (listed.Credit rest)
  at_credit rest past within = (
    within,
    λ naming choices replaced credits chosen taken given.
        let same : 1 + rest ≡ rest + 1 = omega arith in
        slice_get-right (all_replaced_seen replaced) (credits_seen 1 credits) number rest
        (omega (arith, past, taken))
        ∙ credit_seen_at 1 credits rest
        ∙ ap (λ n. option_map (credit_seen n) (slice_get credits rest)) same,
  )

  -- or nothing
  pub at_end : (rest : ℕ) → number ≡ counts.replaced + rest → counts.credits ≤ rest
      → StandsIn last_part counts number (Other None)
  at_end rest past behind =
      λ naming choices replaced credits chosen taken given.
      let count = credits_count 1 credits in
      slice_get-right (all_replaced_seen replaced) (credits_seen 1 credits) number rest
      (omega (arith, past, taken))
      ∙ past_all (credits_seen 1 credits) rest (omega (arith, count, given, behind))

-- ---- behind the choices

-- the adoption is the first that is left there
pub at_adoption : (counts : RulingCounts) (period : ℕ)
    → StandsIn (adoption_part (Some period)) counts 0 (Other (Some (ruling.Adoption period)))
at_adoption counts period = λ naming choices replaced credits chosen taken given. refl

-- past it,
pub past_adoption : (counts : RulingCounts) (period number rest : ℕ) (found : ListedAt)
    → number ≡ 1 + rest → StandsIn last_part counts rest found
    → StandsIn (adoption_part (Some period)) counts number found
past_adoption counts period number rest found past =
    stands_on (adoption_part (Some period)) last_part counts number rest found
    (λ naming choices replaced credits chosen.
    slice_get-right (adoption_seen (Some period)) (last_part naming choices replaced credits) number
    rest past)

-- ---- behind the closes

-- a choice,
pub at_choice : (counts : RulingCounts) (adopted : Option ℕ) (number : ℕ) → number < counts.choices
    → StandsIn (choices_part adopted) counts number (listed.Choice number)
at_choice counts adopted number within = (
  within,
  λ naming choices replaced credits chosen taken given.
      let count = choices_count naming 1 choices in
      let same : 1 + number ≡ number + 1 = omega arith in
      slice_get-left (choices_seen naming 1 choices)
      (adoption_part adopted naming choices replaced credits) number
      (omega (arith, within, count, chosen))
      ∙ choice_seen_at naming 1 choices number
      ∙ ap (λ n. option_map (choice_seen naming n) (slice_get choices number)) same,
)

-- or what comes after all of those
pub past_choices : (counts : RulingCounts) (adopted : Option ℕ) (number rest : ℕ) (found : ListedAt)
    → number ≡ counts.choices + rest → StandsIn (adoption_part adopted) counts rest found
    → StandsIn (choices_part adopted) counts number found
past_choices counts adopted number rest found past =
    stands_on (choices_part adopted) (adoption_part adopted) counts number rest found
    (λ naming choices replaced credits chosen.
    let count = choices_count naming 1 choices in
    slice_get-right (choices_seen naming 1 choices)
    (adoption_part adopted naming choices replaced credits) number rest
    (omega (arith, past, count, chosen)))

-- ---- the whole list

module _ (rulings : Rulings) (counts : RulingCounts) (number : ℕ) where
  -- the parts are in turn
  parted : (naming : Naming) (choices : List Choice) (replaced : List Replaced)
      (credits : List Credit)
      → slice_get (listed_with rulings naming choices replaced credits) number
      ≡ slice_get (tariffs_seen rulings.tariffs ++ (closes_seen 1 rulings.closes
      ++ choices_part rulings.adopted naming choices replaced credits)) number
  parted naming choices replaced credits =
      ap (λ list. slice_get list number)
      (in_turn naming (record rulings {
        choices = choices;
        replaced = replaced;
        credits = credits;
      }))

  -- what comes after the tariffs and the closes
  pub past_closes : (rest left : ℕ) (found : ListedAt)
      → LeadsInto (tariffs_seen rulings.tariffs) number (Err rest)
      → LeadsInto (closes_seen 1 rulings.closes) rest (Err left)
      → StandsIn (choices_part rulings.adopted) counts left found
      → StandsAt rulings counts number found
  past_closes rest left found past gone =
      stands_on (listed_with rulings) (choices_part rulings.adopted) counts number left found
      (λ naming choices replaced credits chosen.
      let behind = choices_part rulings.adopted naming choices replaced credits in
      parted naming choices replaced credits
      ∙ slice_get-right (tariffs_seen rulings.tariffs)
      (closes_seen 1 rulings.closes ++ behind) number rest past
      ∙ slice_get-right (closes_seen 1 rulings.closes) behind rest left gone)

-- the first of those that are kept of a list is found first
pub first_kept : {X : Type 0} (keep : X → Bool) (list : List X)
    → find keep list ≡ slice_get (filter keep list) 0
first_kept keep [] = refl
first_kept {X} keep (first ∷ later) =
    elim (keep first) as (λ b.
    cond b (Some first) (find keep later) ≡ slice_get (cond b (first ∷ filter keep later)
    (filter keep later)) 0) [ true ↦ refl | false ↦ first_kept keep later ]
