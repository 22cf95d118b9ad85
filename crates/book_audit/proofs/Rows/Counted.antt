-- The records that pass a test, as those that are counted do: their prices and their names.
use Rattle.std.proofs.Common.{◌≡◌, ◌∙◌, ◌<◌, ◌++◌, ◌∷◌, [], ℕ, List, Bool, true, false, Some, ap}
use Rattle.std.proofs.Common.{ap₂, arith, cond, length, map, refl, subst, sym, true≢false, ◌+◌}
use Rattle.std.proofs.Common.{sum_by, filter, if◌then◌else◌, is_eq, Less, Equal, Greater}
use Rattle.std.specs.FinMap.{find}
use Rattle.book_model.proofs.Std.{AllByRecursion, same_Some, fold-map}
use Rattle.book_model.specs.Words.{Priced, by_bytes}
use Rattle.table_model.specs.Words.{RecordRow}
use Rattle.tree_rows.proofs.IndexOrders.{by_bytes_exact}
use Rattle.book_audit.specs.Records.{Told, counted_prices}

-- the prices of the records that are counted, as a list
pub prices_are : (counts : List ℕ × RecordRow → Bool) (told : List Told)
    → AllByRecursion (λ (one : Told). one.1 ≡ counts one.0) told
    → counted_prices told ≡ map (λ (entry : List ℕ × RecordRow). entry.1.priced)
    (filter counts (map (λ (one : Told). one.0) told))
prices_are counts [] each = refl
prices_are counts (one ∷ told) each =
    let its : List Priced = one.0.1.priced ∷ [] in
    let others = filter counts (map (λ (told : Told). told.0) told) in
    ap₂ (λ (b : Bool) (more : List Priced). (if b then its else []) ++ more) each.0
    (prices_are counts told each.1)
    ∙ by (counts one.0) others
  where
    by : (b : Bool) (others : List (List ℕ × RecordRow))
        → (if b then one.0.1.priced ∷ [] else [])
        ++ map (λ (entry : List ℕ × RecordRow). entry.1.priced) others
        ≡ map (λ (entry : List ℕ × RecordRow). entry.1.priced) (cond b (one.0 ∷ others) others)
    by true others = refl
    by false others = refl

-- a name with nothing else
abbrev pub named : List ℕ × RecordRow → List ℕ × Unit {0}
named entry = (entry.0, tt)

-- the name of an entry that is found and counted is found among those that are counted
pub name_counted : (counts : List ℕ × RecordRow → Bool) (es : List (List ℕ × RecordRow)) (name : List ℕ)
    (row : RecordRow) → find by_bytes name es ≡ Some row → counts (name, row) ≡ true
    → find by_bytes name (map named (filter counts es)) ≡ Some tt
name_counted counts [] name row there is = absurd (let e = there in cc)
name_counted counts (e ∷ es) name row there is =
    elim (by_bytes name e.0) as (λ o. by_bytes name e.0 ≡ o
    → cond (is_eq o) (Some e.1) (find by_bytes name es) ≡ Some row
    → find by_bytes name (map named (filter counts (e ∷ es))) ≡ Some tt) [
      | Less ↦ λ at later. passed (counts e) (ap is_eq at) (name_counted counts es name row later is)
      | Equal ↦ λ at it.
          let same : (name, row) ≡ e = λ i. (by_bytes_exact name e.0 at i, same_Some row e.1 (sym it) i) in
          own (counts e) (ap is_eq at) (sym (ap counts same) ∙ is)
      | Greater ↦ λ at later. passed (counts e) (ap is_eq at) (name_counted counts es name row later is)
    ] refl there
  where
    passed : (b : Bool) → is_eq (by_bytes name e.0) ≡ false
        → find by_bytes name (map named (filter counts es)) ≡ Some tt
        → find by_bytes name (map named (cond b (e ∷ filter counts es) (filter counts es))) ≡ Some tt
    passed true other rest =
        ap (λ b. cond b (Some tt) (find by_bytes name (map named (filter counts es)))) other ∙ rest
    passed false other rest = rest

    own : (b : Bool) → is_eq (by_bytes name e.0) ≡ true → b ≡ true
        → find by_bytes name (map named (cond b (e ∷ filter counts es) (filter counts es))) ≡ Some tt
    own true tie is = ap (λ b. cond b (Some tt) (find by_bytes name (map named (filter counts es)))) tie
    own false tie is = absurd (true≢false (sym is))

-- an entry that passes a test is kept by it
pub some_kept : (test : RecordRow → Bool) (name : List ℕ) (row : RecordRow) (es : List (List ℕ × RecordRow))
    → find by_bytes name es ≡ Some row → test row ≡ true
    → 0 < length (filter (λ (e : List ℕ × RecordRow). test e.1) es)
some_kept test name row [] there passes = absurd (let e = there in cc)
some_kept test name row (e ∷ es) there passes =
    let kept : List (List ℕ × RecordRow) = filter (λ (e : List ℕ × RecordRow). test e.1) es in
    let later : find by_bytes name es ≡ Some row → 0 < length (cond (test e.1) (e ∷ kept) kept) =
    λ behind. more (test e.1) e kept (some_kept test name row es behind passes) in
    elim (by_bytes name e.0) as (λ o. cond (is_eq o) (Some e.1) (find by_bytes name es) ≡ Some row
    → 0 < length (cond (test e.1) (e ∷ kept) kept)) [
      | Less ↦ later
      | Equal ↦ λ it.
          let same : e.1 ≡ row = same_Some e.1 row it in
          subst (λ b. 0 < length (cond b (e ∷ kept) kept)) (sym (ap test same ∙ passes)) (first e kept)
      | Greater ↦ later
    ] there
  where
    more : (b : Bool) (e : List ℕ × RecordRow) (kept : List (List ℕ × RecordRow)) → 0 < length kept
        → 0 < length (cond b (e ∷ kept) kept)
    more true e kept some = omega arith
    more false e kept some = some

    first : (e : List ℕ × RecordRow) (kept : List (List ℕ × RecordRow)) → 0 < length (e ∷ kept)
    first e kept = omega arith

-- what records cost together: by their rows and by their entries,
pub sum_values : (es : List (List ℕ × RecordRow))
    → sum_by (λ (row : RecordRow). row.priced.amount) (map (λ (e : List ℕ × RecordRow). e.1) es)
    ≡ sum_by (λ (e : List ℕ × RecordRow). e.1.priced.amount) es
sum_values es =
    fold-map (λ n (row : RecordRow). n + row.priced.amount) (λ (e : List ℕ × RecordRow). e.1) 0 es

-- and by what is told of them
pub sum_told : (told : List Told)
    → sum_by (λ (one : Told). one.0.1.priced.amount) told
    ≡ sum_by (λ (e : List ℕ × RecordRow). e.1.priced.amount) (map (λ (one : Told). one.0) told)
sum_told told =
    sym (fold-map (λ n (e : List ℕ × RecordRow). n + e.1.priced.amount) (λ (one : Told). one.0) 0 told)
