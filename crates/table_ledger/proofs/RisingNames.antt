-- Lines whose names rise are of different records.
use Rattle.std.proofs.Common.{◌≡◌, ◌∙◌, ℕ, List, [], ◌∷◌, ◌+◌, ◌<◌, true, length, slice_index_or}
use Rattle.std.proofs.Common.{ap, sym, subst, arith, map, Less, is_lt}
use Rattle.std.proofs.lemmas.Map.Keys.{Less-from_sorted, sorted_from_all_adjacent}
use Rattle.book_model.proofs.Std.{IsDistinct, IsStrictlySortedBy, nat_list_cmp_total, get_or-map}
use Rattle.book_model.proofs.Std.{length-map, IsDistinct-from_sorted}
use Rattle.book_model.specs.declared.line.Line.{Line}
use Rattle.book_model.specs.Words.{by_bytes, same_bytes}
use Rattle.book_model.proofs.Lemmas.{same_bytes-by_cmp}
use Rattle.tree_rows.proofs.Remaining.{is_less}

-- each name below a place comes before the next one
abbrev pub RiseBelow : List Line → ℕ → Type 0
RiseBelow lines at = (k : ℕ) (any : Line) → k + 1 < at
    → true ≡ is_lt (by_bytes (slice_index_or lines k any).name
    (slice_index_or lines (k + 1) any).name)

-- the names of lines
abbrev names : List Line → List (List ℕ)
names = map (λ (line : Line). line.name)

-- such names rise, all of them
names_rise : (lines : List Line) → RiseBelow lines (length lines)
    → IsStrictlySortedBy by_bytes (names lines)
names_rise [] rise =
    sorted_from_all_adjacent nat_list_cmp_total [] [] (λ k within. absurd (omega arith))
names_rise (line ∷ lines) rise =
    let all = line ∷ lines in
    let name = λ (one : Line). one.name in
    let long : length (names all) ≡ length all = length-map all name in
    sorted_from_all_adjacent nat_list_cmp_total (names all) [] (λ k within.
    let near : k + 1 < length all = subst (λ (n : ℕ). k + 1 < n) long within in
    (λ i. by_bytes (get_or-map name all k line [] (omega (arith, near)) i)
    (get_or-map name all (k + 1) line [] near i))
    ∙ is_less _ (sym (rise k line near)))

-- Lines whose names rise are of different records.
pub rising_apart : (lines : List Line) → RiseBelow lines (length lines)
    → IsDistinct same_bytes (map (λ (line : Line). line.name) lines)
rising_apart lines rise =
    subst (λ same. IsDistinct same (names lines)) (sym same_bytes-by_cmp)
    (IsDistinct-from_sorted by_bytes (names lines) (names_rise lines rise))

-- Of lines whose names rise, an earlier one has the lesser name.
pub rise_at : (lines : List Line) (at later : ℕ) (one other : Line) → at < later
    → later < length lines → one ≡ slice_index_or lines at one
    → other ≡ slice_index_or lines later other
    → IsStrictlySortedBy by_bytes (map (λ (line : Line). line.name) lines)
    → by_bytes one.name other.name ≡ Less
rise_at lines at later one other less within is too rise =
    let name = λ (one : Line). one.name in
    let long : length (names lines) ≡ length lines = length-map lines name in
    let here : at < length lines = omega (arith, less, within) in
    let next : later < length (names lines) = omega (arith, within, long) in
    let first = ap name is ∙ sym (get_or-map name lines at one [] here) in
    let second = ap name too ∙ sym (get_or-map name lines later other [] within) in
    (λ i. by_bytes (first i) (second i))
    ∙ Less-from_sorted by_bytes (names lines) at later [] rise less next
