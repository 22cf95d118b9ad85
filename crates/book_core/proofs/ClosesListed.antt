-- A close as it stands in the list, by its period.
use Rattle.std.proofs.Common.{◌≡◌, ◌≢◌, ◌∙◌, ◌+◌, ◌-◌, ◌≤◌, ℕ, ℤ, List, None, ap, arith, cond}
use Rattle.std.proofs.Common.{length, ne_eqb, option_map, slice_get, sym}
use Rattle.std.proofs.lemmas.Option.{slice_get_past}
use Rattle.book_model.specs.Words.{CloseSeen, close_of, closes_seen}
use Rattle.book_model.proofs.ListedLemmas.{close_seen_at}

module _ (closes : List ℤ) (period : ℕ) (some : period ≢ 0) where
  -- the day of a period that is not the one of no number
  its_day : slice_get closes (period - 1) ≡ close_of period closes
  its_day =
      ap (λ b. cond b None (slice_get closes (period - 1))) (sym (ne_eqb period 0 some))

  -- it stands at its place
  pub close_listed : slice_get (closes_seen 1 closes) (period - 1)
      ≡ option_map (CloseSeen period) (close_of period closes)
  close_listed =
      let same : 1 + (period - 1) ≡ period = omega (arith, some) in
      close_seen_at 1 closes (period - 1)
      ∙ (λ i. option_map (CloseSeen (same i)) (its_day i))

  -- or the period is past them
  pub close_past : length closes ≤ period - 1
      → None ≡ option_map (CloseSeen period) (close_of period closes)
  close_past past =
      ap (option_map (CloseSeen period))
      (sym (slice_get_past closes (period - 1) past) ∙ its_day)
