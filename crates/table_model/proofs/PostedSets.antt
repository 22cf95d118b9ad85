-- What a close posts: what is charged, and dated on or before its day.
use Rattle.std.proofs.Common.{◌≡◌, ℕ, List, refl, sym, ap, ◌∙◌, true, false, Bool, ◌&&◌, ℤ}
use Rattle.book_model.specs.Words.{is_undisputed, is_dated_through, charged_now, charged_through}
use Rattle.book_model.specs.Words.{Records, Rulings, has}
use Rattle.book_model.proofs.RecordSets.{has_those}

module _ (rulings : Rulings) (held : Records) (day : ℤ) where
  -- which records are posted
  has_posted : (q : List ℕ) → has (charged_through rulings day held) q
      ≡ ((is_undisputed rulings held q && is_dated_through day q) && has held q)
  has_posted q =
      has_those (λ bytes. is_undisputed rulings held bytes && is_dated_through day bytes) held q

  -- what is posted is what is charged and dated on or before the day
  pub posted_is : (q : List ℕ)
      → has (charged_through rulings day held) q
      ≡ (is_dated_through day q && has (charged_now rulings held) q)
  posted_is q =
      has_posted q ∙ turn (is_undisputed rulings held q) (is_dated_through day q) (has held q)
      ∙ ap (λ b. is_dated_through day q && b) (sym (has_those (is_undisputed rulings held) held q))
    where
      turn : (u d h : Bool) → ((u && d) && h) ≡ (d && (u && h))
      turn true true h = refl
      turn true false h = refl
      turn false true h = refl
      turn false false h = refl

  -- in the order in which rows and lines ask: after a close, then on or before the day
  pub posted_where : (test : List ℕ → Bool) (q : List ℕ)
      → (test q && has (charged_through rulings day held) q)
      ≡ ((test q && is_dated_through day q) && has (charged_now rulings held) q)
  posted_where test q =
      ap (λ b. test q && b) (posted_is q)
      ∙ gather (test q) (is_dated_through day q) (has (charged_now rulings held) q)
    where
      gather : (a d c : Bool) → (a && (d && c)) ≡ ((a && d) && c)
      gather true d c = refl
      gather false d c = refl
