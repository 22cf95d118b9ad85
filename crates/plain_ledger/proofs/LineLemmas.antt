-- Adjustment lines of entries: one for each that a period adds or reverses.
use Rattle.std.proofs.Common.{◌≡◌, ◌∙◌, ℕ, ◌≤◌, List, [], ◌∷◌, ◌++◌, map, refl, sym, ap, subst}
use Rattle.std.proofs.Common.{Bool, true, false, cond, Option, Some, None, is_some, get_or, arith}
use Rattle.std.proofs.Common.{append-nil, drop, length, take, take_all, All, filter, sum_by}
use Rattle.std.proofs.Common.{filter_map, IsPermutation}
use Rattle.std.specs.Map.{keys_of}
use Rattle.std.proofs.lemmas.List.{drop_all}
use Rattle.std.proofs.lemmas.List.Sorted.{IsPermutation-cons, IsPermutation-middle}
use Rattle.std.proofs.lemmas.List.Sorted.{IsPermutation-append, All-permutation}
use Rattle.book_model.proofs.Std.{cons_option, IsDistinct, IsStrictlySortedBy, eq_by_cmp}
use Rattle.book_model.proofs.Std.{nat_list_cmp_total, All-nil, All-cons, All-filter}
use Rattle.book_model.proofs.Std.{IsPermutation-refl, IsPermutation-sym, IsPermutation-trans}
use Rattle.book_model.proofs.Std.{sum_by-IsPermutation, sum_by-cons, IsDistinct-from_sorted}
use Rattle.book_model.specs.declared.line.Line.{Line}
use Rattle.book_model.specs.Words.{IsDay, by_line, lines_for, lines_of, AreLines, Naming, by_bytes}
use Rattle.book_model.specs.Words.{same_bytes, Rulings, set_of, members}
use Rattle.book_model.proofs.Lemmas.{filter_map-map, filter_map-defined, by_line_total, line_by}
use Rattle.book_model.proofs.Lemmas.{apart_from_distinct, given_permuted, members_reordered}
use Rattle.book_model.proofs.Lemmas.{same_bytes-by_cmp}
use Rattle.book_model.proofs.LineOrder.{distinct_lines, line_of as line_of_record}
use Rattle.book_model.proofs.PermutedSets.{IsDistinct-map_filter, members_of_distinct}
use Rattle.plain_ledger.specs.declared.treatment.Treatment.{Treatment}
use Rattle.plain_ledger.specs.declared.treatment.Treatment.TheVariants.{Counted, Added, Taken}
use Rattle.plain_ledger.specs.Plain.{Entry, entry_records, AreBooked}
use Rattle.plain_ledger.specs.Treatments.{is_added, is_taken, line_of, line_at, records_where}
use Rattle.plain_ledger.specs.Treatments.{period_with}
use Rattle.plain_ledger.proofs.HeldLemmas.{bytes_of, each_named, each_priced, records_differ}

-- a vector with all its items written over has what was written
pub written_over : {X : Type 0} (count : ℕ) (written items : List X) → count ≡ length items
    → length written ≡ length items
    → take count (written ++ drop (length written) items) ≡ written
written_over count written items counted long =
    ap (λ rest. take count (written ++ rest)) (drop_all (length written) items (omega arith))
    ∙ ap (take count) (append-nil written)
    ∙ take_all count written (omega arith)

module _ (treatment : Entry → Option Treatment) where
  -- the lines of entries by their shares, in the entries' order
  abbrev pub lines_at : List Entry → List Line
  lines_at entries = filter_map (λ entry. line_at (treatment entry) entry) entries

  -- the entries that have a line
  abbrev adjusted : List Entry → List Entry
  adjusted entries = filter (λ entry. is_some (line_at (treatment entry) entry)) entries

  -- the entries that a period adds
  abbrev added : List Entry → List Entry
  added entries = filter (λ entry. is_added (treatment entry)) entries

  -- the entries that it reverses
  abbrev taken : List Entry → List Entry
  taken entries = filter (λ entry. is_taken (treatment entry)) entries

  -- the names of the lines are those of their entries
  names_of_lines : (entries : List Entry)
      → map (λ line. line.name) (lines_at entries) ≡ keys_of (adjusted entries)
  names_of_lines [] = refl
  names_of_lines (entry ∷ entries) =
      let rest = names_of_lines entries in
      let lines : List Line = lines_at entries in
      let others : List Entry = adjusted entries in
      elim (treatment entry)
      as (λ treatment. map (λ (line : Line). line.name) (cons_option (line_at treatment entry) lines)
      ≡ keys_of (cond (is_some (line_at treatment entry)) (entry ∷ others) others)) [
        | None ↦ rest
        | Some Counted ↦ rest
        | Some Added ↦ ap (λ names. entry.0 ∷ names) rest
        | Some Taken ↦ ap (λ names. entry.0 ∷ names) rest
      ]

  -- the lines are a plus for each entry that is added, and a minus for each that is reversed
  both_signs : (entries : List Entry)
      → IsPermutation (lines_at entries)
      (map (line_of true) (added entries) ++ map (line_of false) (taken entries))
  both_signs [] = IsPermutation-refl []
  both_signs (entry ∷ entries) =
      let rest = both_signs entries in
      let lines : List Line = lines_at entries in
      let plus : List Line = map (line_of true) (added entries) in
      let minus : List Line = map (line_of false) (taken entries) in
      elim (treatment entry)
      as (λ treatment. IsPermutation (cons_option (line_at treatment entry) lines)
      (map (line_of true) (cond (is_added treatment) (entry ∷ added entries) (added entries))
      ++ map (line_of false) (cond (is_taken treatment) (entry ∷ taken entries) (taken entries)))) [
        | None ↦ rest
        | Some Counted ↦ rest
        | Some Added ↦ IsPermutation-cons (line_of true entry) lines (plus ++ minus) rest
        | Some Taken ↦
            let line = line_of false entry in
            IsPermutation-trans (line ∷ lines) (line ∷ (plus ++ minus)) (plus ++ line ∷ minus)
            (IsPermutation-cons line lines (plus ++ minus) rest)
            (IsPermutation-sym (plus ++ line ∷ minus) (line ∷ (plus ++ minus))
            (IsPermutation-middle plus line minus))
      ]

  -- the lines are dated on days, as their records are
  lines_dated : (entries : List Entry) → All (λ line. IsDay line.priced.day) (lines_at entries)
  lines_dated [] = All-nil (λ (line : Line). IsDay line.priced.day)
  lines_dated (entry ∷ entries) =
      let IsDated : Line → Type 0 = λ line. IsDay line.priced.day in
      let rest = lines_dated entries in
      let lines : List Line = lines_at entries in
      let day = entry.1.priced_is.day in
      elim (treatment entry) as (λ treatment. All IsDated (cons_option (line_at treatment entry) lines)) [
        | None ↦ rest
        | Some Counted ↦ rest
        | Some Added ↦ All-cons IsDated (line_of true entry) lines day rest
        | Some Taken ↦ All-cons IsDated (line_of false entry) lines day rest
      ]

  -- they amount to no more than the entries
  lines_cost : (entries : List Entry)
      → sum_by (λ line. line.priced.amount) (lines_at entries)
      ≤ sum_by (λ entry. entry.1.priced.amount) entries
  lines_cost [] = omega arith
  lines_cost (entry ∷ entries) =
      let cost : Line → ℕ = λ line. line.priced.amount in
      let price : Entry → ℕ = λ entry. entry.1.priced.amount in
      let rest = lines_cost entries in
      let lines : List Line = lines_at entries in
      let all = sum_by-cons price entry entries in
      let more = λ (line : Line). sum_by-cons cost line lines in
      elim (treatment entry)
      as (λ treatment. sum_by cost (cons_option (line_at treatment entry) lines)
      ≤ sum_by price (entry ∷ entries)) [
        | None ↦ omega arith
        | Some Counted ↦ omega arith
        | Some Added ↦ let one = more (line_of true entry) in omega arith
        | Some Taken ↦ let one = more (line_of false entry) in omega arith
      ]

module _ {naming : Naming} {rulings : Rulings} {entries : List Entry} {total : ℕ}
    (kept : AreBooked naming rulings entries total)
    (rising : IsStrictlySortedBy by_bytes (keys_of entries)) where
  -- the line of an entry's record is that of the entry
  each_line : (plus : Bool)
      → All (λ (entry : Entry). line_of_record naming rulings plus (bytes_of entry)
      ≡ Some (line_of plus entry)) entries
  each_line plus k d within =
      let entry = get_or entries k d in
      ap (line_by naming rulings plus (bytes_of entry)) (each_priced kept k d within)
      ∙ ap (λ (name : List ℕ). Some (record (line_of plus entry) { name = name }))
      (sym (each_named kept k d within))

  -- the lines of entries that pass a test are those of their set of records, in another order
  lines_of_set : (plus : Bool) (p : Entry → Bool)
      → IsPermutation (lines_for naming rulings plus (records_where p entries))
      (map (line_of plus) (filter p entries))
  lines_of_set plus p =
      let chosen : List Entry = filter p entries in
      let give : List ℕ → Option Line = line_of_record naming rulings plus in
      let own : Entry → Option Line = λ entry. give (bytes_of entry) in
      let IsLine : Entry → Type 0 = λ entry. own entry ≡ Some (line_of plus entry) in
      let apart =
      IsDistinct-map_filter bytes_of p (eq_by_cmp by_bytes) entries (records_differ kept rising) in
      subst (IsPermutation (lines_for naming rulings plus (records_where p entries)))
      (filter_map-map give bytes_of chosen
      ∙ filter_map-defined own (line_of plus) chosen (All-filter p IsLine entries (each_line plus)))
      (given_permuted by_bytes give nat_list_cmp_total (entry_records chosen)
      (apart_from_distinct (eq_by_cmp by_bytes) (entry_records chosen) apart))

  module _ (treatment : Entry → Option Treatment) where
    -- the lines of the entries have different names
    pub names_apart : IsDistinct same_bytes (map (λ line. line.name) (lines_at treatment entries))
    names_apart =
        subst (IsDistinct same_bytes) (sym (names_of_lines treatment entries))
        (IsDistinct-map_filter (λ entry. entry.0) _ same_bytes entries
        (subst (λ same. IsDistinct same (keys_of entries)) (sym same_bytes-by_cmp)
        (IsDistinct-from_sorted by_bytes (keys_of entries) rising)))

    -- in order, they are the lines of the period that has the entries so
    pub lines_of-treatments : lines_of naming rulings (period_with treatment entries)
        ≡ members (set_of by_line (lines_at treatment entries))
    lines_of-treatments =
        let is_plus : Entry → Bool = λ entry. is_added (treatment entry) in
        let is_minus : Entry → Bool = λ entry. is_taken (treatment entry) in
        let plus : List Line = lines_for naming rulings true (records_where is_plus entries) in
        let minus : List Line = lines_for naming rulings false (records_where is_minus entries) in
        let own_plus : List Line = map (line_of true) (filter is_plus entries) in
        let own_minus : List Line = map (line_of false) (filter is_minus entries) in
        let lines : List Line = lines_at treatment entries in
        members_reordered by_line_total (plus ++ minus) lines
        (IsPermutation-trans (plus ++ minus) (own_plus ++ own_minus) lines
        (IsPermutation-append plus own_plus minus own_minus (lines_of_set true is_plus)
        (lines_of_set false is_minus))
        (IsPermutation-sym lines (own_plus ++ own_minus) (both_signs treatment entries)))
        (distinct_lines lines names_apart)

    -- a list of adjustments can show them
    pub are_lines : AreLines (members (set_of by_line (lines_at treatment entries)))
    are_lines =
        let lines : List Line = lines_at treatment entries in
        let cost : Line → ℕ = λ line. line.priced.amount in
        let read : List Line = members (set_of by_line lines) in
        let same = members_of_distinct by_line_total lines (distinct_lines lines names_apart) in
        let amount = sum_by-IsPermutation cost read lines same in
        let most = lines_cost treatment entries in
        let summed = kept.summed in
        let small = kept.small in
        record {
          days = All-permutation (λ line. IsDay line.priced.day) lines read
              (IsPermutation-sym read lines same) (lines_dated treatment entries);
          amount = omega arith;
        }
