-- The lines that tell which records a period counts.
use Rattle.std.proofs.Common.{◌≡◌, ◌∙◌, ℕ, zero, suc, ◌+◌, ◌-◌, ◌≤◌, ◌<◌, List, [], ◌∷◌, map, refl}
use Rattle.std.proofs.Common.{sym, ap, true, false, Bool, cond, Option, Some, None, arith, length}
use Rattle.std.proofs.Common.{slice_index_or, take, unwrap_or, ◌++◌, filter, ◌==◌, is_eq, nat_cmp}
use Rattle.std.proofs.Common.{Ordering, Less, Equal, Greater}
use Rattle.book_model.proofs.LatestLemmas.{or-none}
use Rattle.book_model.proofs.Lemmas.{else_find, find-both}
use Rattle.book_model.proofs.Std.{eq_by_cmp_equiv, nat_list_cmp_total, map-append, take_more}
use Rattle.book_model.proofs.Std.{exact_bytes, tells_apart, entries, get, get-entries, option_or}
use Rattle.book_model.proofs.Std.{eq_by_cmp, ordering_then, nat_tests}
use Rattle.book_model.specs.Words.{by_bytes}
use Rattle.table_model.specs.Words.{by_period, LineTable, Tables, first_line}
use Rattle.table_ledger.proofs.Words.{find, ListsLines, signed_name, StoredLine}

-- the first of three
or_assoc : {X : Type 0} (one two three : Option X)
    → option_or one (option_or two three) ≡ option_or (option_or one two) three
or_assoc None two three = refl
or_assoc (Some x) two three = refl

-- the first line in one period more
pub first_line-more : (lines : LineTable) (name : List ℕ) (number later : ℕ)
    → first_line lines name number (suc later)
    ≡ option_or (first_line lines name number later) (get lines (number + later, name))
first_line-more lines name number zero =
    let place : number ≡ number + 0 = omega arith in
    or-none (get lines (number, name)) ∙ ap (λ n. get lines (n, name)) place
first_line-more lines name number (suc later) =
    let place : suc number + later ≡ number + suc later = omega arith in
    ap (option_or (get lines (number, name))) (first_line-more lines name (suc number) later)
    ∙ or_assoc (get lines (number, name)) (first_line lines name (suc number) later)
    (get lines (suc number + later, name))
    ∙ ap (λ n. option_or (first_line lines name number (suc later)) (get lines (n, name))) place

-- two ways to say that numbers are equal
number_is : (a b : ℕ) → (a == b) ≡ is_eq (nat_cmp b a)
number_is a b = grind (arith, nat_tests)

-- a line is found among those of its period as in the table
find_under : (period : ℕ) (name : List ℕ) (rows : List ((ℕ × List ℕ) × Bool))
    → find by_bytes name (map {B = List ℕ × Bool} (λ row. (row.0.1, row.1))
    (filter (λ row. row.0.0 == period) rows))
    ≡ find (by_period by_bytes) (period, name) rows
find_under period name [] = refl
find_under period name (row ∷ rows) =
    let rest = find_under period name rows in
    let named : List ((ℕ × List ℕ) × Bool) → List (List ℕ × Bool) =
    map {B = List ℕ × Bool} (λ row. (row.0.1, row.1)) in
    let others : List ((ℕ × List ℕ) × Bool) = filter (λ row. row.0.0 == period) rows in
    ap (λ b. find by_bytes name (named (cond b (row ∷ others) others))) (number_is row.0.0 period)
    ∙ elim (nat_cmp period row.0.0) as (λ (r : Ordering).
    find by_bytes name (named (cond (is_eq r) (row ∷ others) others))
    ≡ cond (is_eq (ordering_then r (by_bytes name row.0.1))) (Some row.1)
    (find (by_period by_bytes) (period, name) rows)) [
      | Less ↦ rest
      | Equal ↦ ap (cond (eq_by_cmp by_bytes name row.0.1) (Some row.1)) rest
      | Greater ↦ rest
    ]

pub line_listed : (period : ℕ) (tables : Tables) (found : List StoredLine) (name : List ℕ)
    → ListsLines period tables found
    → find by_bytes name (map signed_name found) ≡ get tables.lines (period, name)
line_listed period tables found name lists =
    ap (find by_bytes name) lists
    ∙ find_under period name (entries tables.lines)
    ∙ sym (get-entries tables.lines (period, name))

-- the lines of the next period join those of the periods before it
pub lines_on : (after period next : ℕ) (tables : Tables) (found : List StoredLine) (name : List ℕ)
    (before now : Option Bool) → after ≤ period → next ≡ period + 1
    → before ≡ first_line tables.lines name (suc after) (period - after)
    → ListsLines next tables found
    → now ≡ option_or before (find by_bytes name (map signed_name found))
    → now ≡ first_line tables.lines name (suc after) (next - after)
lines_on after period next tables found name before now since is so_far lists adds =
    let place : suc after + (period - after) ≡ next = omega arith in
    let many : suc (period - after) ≡ next - after = omega arith in
    adds
    ∙ (λ i. option_or (so_far i) (line_listed next tables found name lists i))
    ∙ ap (λ n. option_or (first_line tables.lines name (suc after) (period - after))
    (get tables.lines (n, name))) (sym place)
    ∙ sym (first_line-more tables.lines name (suc after) (period - after))
    ∙ ap (first_line tables.lines name (suc after)) many

-- a line joins those of earlier periods, if its record has none there
pub line_joins : (found : List StoredLine) (i : ℕ) (any one : StoredLine) (name : List ℕ)
    (start now next its : Option Bool) (kept : Bool) → i < length found
    → one ≡ slice_index_or found i any
    → now ≡ option_or start (find by_bytes name (map signed_name (take i found)))
    → next ≡ cond (eq_by_cmp by_bytes one.name name) (Some kept) now
    → (one.name ≡ name → its ≡ now) → kept ≡ unwrap_or its one.plus
    → next ≡ option_or start (find by_bytes name (map signed_name (take (i + 1) found)))
line_joins found i any one name start now next its kept within is so_far joins its_own keeps =
    let own : Bool → Option Bool = λ b. cond b (Some one.plus) None in
    let earlier : Option Bool = find by_bytes name (map signed_name (take i found)) in
    let tied = (eq_by_cmp_equiv nat_list_cmp_total).symm name one.name in
    joins
    ∙ elim (eq_by_cmp by_bytes one.name name) as (λ b. eq_by_cmp by_bytes one.name name ≡ b
    → cond b (Some kept) now ≡ option_or now (own b)) [
      | true ↦ λ same.
          ap Some (keeps ∙ ap (λ found. unwrap_or found one.plus)
          (its_own (tells_apart exact_bytes one.name name same)))
          ∙ some_first now
      | false ↦ λ apart. sym (or-none now)
    ] refl
    ∙ ap (λ b. option_or now (own b)) (sym tied)
    ∙ ap (λ before. option_or before (own (eq_by_cmp by_bytes name one.name))) so_far
    ∙ sym (or_assoc start earlier (own (eq_by_cmp by_bytes name one.name)))
    ∙ ap (option_or start) (sym (one_more earlier))
  where
    some_first : (now : Option Bool) → Some (unwrap_or now one.plus) ≡ option_or now (Some one.plus)
    some_first None = refl
    some_first (Some plus) = refl

    or_else : (first second : Option Bool) → else_find first second ≡ option_or first second
    or_else None second = refl
    or_else (Some plus) second = refl

    one_more : (earlier : Option Bool)
        → find by_bytes name (map signed_name (take (i + 1) found))
        ≡ option_or (find by_bytes name (map signed_name (take i found)))
        (cond (eq_by_cmp by_bytes name one.name) (Some one.plus) None)
    one_more earlier =
        ap (λ lines. find by_bytes name (map signed_name lines))
        (take_more found i any within
        ∙ ap (λ (line : StoredLine). take i found ++ line ∷ []) (sym is))
        ∙ ap (find by_bytes name) (map-append signed_name (take i found) (one ∷ []))
        ∙ find-both by_bytes name (map signed_name (take i found)) (signed_name one ∷ [])
        ∙ or_else (find by_bytes name (map signed_name (take i found)))
        (cond (eq_by_cmp by_bytes name one.name) (Some one.plus) None)
