-- A second order of the entries of a map, by keys that are made of them; and orders of pairs.
use Rattle.std.specs.Prelude.{◌≡◌, ℕ, List, map, Option, Some, None, cond}
use Rattle.std.specs.Cmp.{IsTotalOrder}
use Rattle.std.specs.Cmp.Lexicographic.{slice_cmp}
use Rattle.std.specs.FinMap.{FinMap, IsAntisymmetric, entries, from_entries, get}
use Rattle.std.specs.Ordering.{eq_by_cmp, nat_cmp, on, then_cmp}
use Rattle.std.specs.declared.cmp.Ordering.{Ordering}

-- A key of the index is made of an entry of the map and names the entry's key there. In each of
-- the two orders no two keys have one place.
pub record IsIndexKey {K V Q : Type 0} (R : K → K → Ordering) (P : Q → Q → Ordering)
    (key : K × V → Q) (name : Q → K) : Type 0 where
  pub named : (e : K × V) → name (key e) ≡ e.0
  pub total : IsTotalOrder R
  pub exact : IsAntisymmetric R
  pub index_total : IsTotalOrder P
  pub index_exact : IsAntisymmetric P

-- the entry of the index for an entry of the map
abbrev pub indexed_by : {K V Q : Type 0} → (K × V → Q) → K × V → Q × Unit {0}
indexed_by key e = (key e, tt)

-- the keys that are made of the entries of a map, in their own order
unfoldable pub index_of : {K V Q : Type 0} {R : K → K → Ordering} {P : Q → Q → Ordering}
    → (K × V → Q) → FinMap R V → FinMap P (Unit {0})
index_of key m = from_entries (map (indexed_by key) (entries m))

-- what the index has at a key, where the map has this value at the key that it names
abbrev pub index_answer : {K V Q : Type 0} → (Q → Q → Ordering) → (K × V → Q) → K → Q
    → Option V → Option (Unit {0})
index_answer P key k q None = None
index_answer P key k q (Some v) = cond (eq_by_cmp P q (key (k, v))) (Some tt) None

-- an index key that stands for an entry of the map
abbrev pub IsKeyOf : {K V Q : Type 0} {R : K → K → Ordering} → (K × V → Q) → (Q → K)
    → FinMap R V → Q → Type 0
IsKeyOf {V = V} key name m q = (v : V) × (get m (name q) ≡ Some v) × (key (name q, v) ≡ q)

-- by the first parts of two pairs, and then by the second
abbrev pub by_parts : {A B : Type 0} → (A → A → Ordering) → (B → B → Ordering)
    → A × B → A × B → Ordering
by_parts {A} {B} R S = then_cmp (on (λ (p : A × B). p.0) R) (on (λ (p : A × B). p.1) S)

-- by bytes, as in a dictionary
abbrev pub by_bytes : List ℕ → List ℕ → Ordering
by_bytes = slice_cmp nat_cmp

-- two byte strings, by the first and then by the second
abbrev pub by_both : List ℕ × List ℕ → List ℕ × List ℕ → Ordering
by_both = by_parts by_bytes by_bytes

-- a mark and two byte strings, by the mark, then by the first string and then by the second
abbrev pub by_mark : ℕ × (List ℕ × List ℕ) → ℕ × (List ℕ × List ℕ) → Ordering
by_mark = by_parts nat_cmp by_both

-- the key of an entry by a part of its value, and then by its name
abbrev pub part_and_name : {V : Type 0} → (V → List ℕ) → List ℕ × V → List ℕ × List ℕ
part_and_name part e = (part e.1, e.0)
