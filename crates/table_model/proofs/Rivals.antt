-- Records that share their identity: how many there are, and that one with no rival is alone.
use Rattle.std.proofs.Common.{◌≡◌, ℕ, ◌+◌, List, sym, ap, ◌∙◌, true, Bool, cond, not, ◌&&◌, arith}
use Rattle.std.proofs.Common.{count_by, nat_lt, ◌==◌}
use Rattle.book_model.proofs.Std.{nat_tests, nat_list_cmp_total, nat_list_eq_equiv, eq_by_cmp_equiv}
use Rattle.book_model.proofs.Std.{IsDistinct-from_sorted, exact_bytes, tells_apart}
use Rattle.book_model.specs.Words.{Records, Rulings, by_bytes, conflict, has, identity_by}
use Rattle.book_model.specs.Words.{is_unrivalled, members, same_bytes}
use Rattle.book_model.proofs.ListLemmas.{count_by-narrower}
use Rattle.book_model.proofs.Lemmas.{count_by-distinct, is, members_rise, same_bytes-by_cmp}
use Rattle.book_model.proofs.Lemmas.{list_any-count_by}
use Rattle.std.specs.FinMap as fin

-- one and this many more are one if there are no more
none_more : (n : ℕ) → ((1 + n) == 1) ≡ not (nat_lt 0 n)
none_more n = grind (arith, nat_tests)

module _ (rulings : Rulings) (held : Records) where
  -- the identity of a record
  abbrev identity : List ℕ → List ℕ
  identity bytes = identity_by rulings bytes

  -- a record has an identity
  abbrev pub having : List ℕ → List ℕ → Bool
  having id bytes = same_bytes (identity bytes) id

  -- the records that have a record's identity are itself and those that it conflicts with
  pub own_count : (q : List ℕ) → has held q ≡ true
      → count_by (having (identity q)) (members held)
      ≡ 1 + count_by (conflict rulings q) (members held)
  own_count q there =
      let all : List (List ℕ) = members held in
      let own : List ℕ → Bool = having (identity q) in
      let others : ℕ = count_by (λ x. not (is q x) && own x) all in
      let itself = λ (x : List ℕ) (same : is q x ≡ true).
      ap (λ k. same_bytes (identity k) (identity q))
      (sym (tells_apart exact_bytes q x same))
      ∙ nat_list_eq_equiv.refl (identity q) in
      let both = count_by-narrower (is q) own itself all in
      let once : count_by (is q) all ≡ 1 =
      count_by-distinct (eq_by_cmp_equiv nat_list_cmp_total) q all
      (IsDistinct-from_sorted by_bytes all (members_rise nat_list_cmp_total held))
      ∙ ap (λ b. cond b 1 0) (sym (fin.contains_key-keys held q) ∙ there) in
      let conflicts : others ≡ count_by (conflict rulings q) all =
      λ i. count_by (λ x. not (sym same_bytes-by_cmp i q x)
      && nat_list_eq_equiv.symm (identity x) (identity q) i) all in
      omega arith

  -- so it is alone in its identity if it has no rival
  pub alone_where : (q : List ℕ) → has held q ≡ true
      → (count_by (having (identity q)) (members held) == 1) ≡ is_unrivalled rulings held q
  alone_where q there =
      ap (λ n. n == 1) (own_count q there)
      ∙ none_more (count_by (conflict rulings q) (members held))
      ∙ ap not (sym (list_any-count_by (conflict rulings q) (members held)))
