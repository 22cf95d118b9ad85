-- The same, and lemmas of std that proofs cite, from one place. Declares nothing.
pub use Rattle.book_model.specs.Std.{AllByRecursion, AllZip, FinMap, IsAntisymmetric, IsDistinct}
pub use Rattle.book_model.specs.Std.{IsEquivalence, IsStrictlySortedBy, IsTotalOrder, both_ways}
pub use Rattle.book_model.specs.Std.{bytes_decides, concat, cons_option, contains_key, empty}
pub use Rattle.book_model.specs.Std.{entries, entries_sorted, eq_by_cmp, from_entries, get}
pub use Rattle.book_model.specs.Std.{get-entries, get-from_entries, get-insert, get-remove, insert}
pub use Rattle.book_model.specs.Std.{int_cmp-IsAntisymmetric, int_cmp_total, is_sorted, keys}
pub use Rattle.book_model.specs.Std.{last_or, len-empty, len-entries, list_all, list_any}
pub use Rattle.book_model.specs.Std.{match_ordering, nat_cmp-IsAntisymmetric, nat_cmp_total}
pub use Rattle.book_model.specs.Std.{nat_list_cmp_total, option_map_or, option_or, ordering_reverse}
pub use Rattle.book_model.specs.Std.{ordering_then, reduce, remove, result_ok, same_map, slice_cmp}
pub use Rattle.book_model.specs.Std.{texts_ties, tied_itself, values}
pub use Rattle.std.proofs.lemmas.Bool.{and_parts, false_from_ne_true}
pub use Rattle.std.proofs.lemmas.Bool.Decides.{nat_tests}
pub use Rattle.std.proofs.lemmas.Cmp.{eq_by_cmp_equiv, nat_list_eq_equiv, on_total, then_total}
pub use Rattle.std.proofs.lemmas.Int.{ints, to_z-of_z}
pub use Rattle.std.proofs.lemmas.List.{get_or-map, length-map, map-append, reverse-append}
pub use Rattle.std.proofs.lemmas.List.{take-append-le, take_more}
pub use Rattle.std.proofs.lemmas.List.Elements.{All-append, All-cons, All-contains, All-filter}
pub use Rattle.std.proofs.lemmas.List.Elements.{All-from_recursion, All-head, All-map, All-nil}
pub use Rattle.std.proofs.lemmas.List.Elements.{All-push, All-tail, All-weaker}
pub use Rattle.std.proofs.lemmas.List.Elements.{Contains-append_right, filter-append, filter_agree}
pub use Rattle.std.proofs.lemmas.List.Elements.{filter_map-append, filter_passes}
pub use Rattle.std.proofs.lemmas.List.Elements.{recursion_from_All}
pub use Rattle.std.proofs.lemmas.List.Filters.{length-filter_both, sum_by-filter_both}
pub use Rattle.std.proofs.lemmas.List.Folds.{find-append, fold-map, list_any-append, list_any_at}
pub use Rattle.std.proofs.lemmas.List.Folds.{list_any_none}
pub use Rattle.std.proofs.lemmas.List.Kept.{IsStrictlySortedBy-filter}
pub use Rattle.std.proofs.lemmas.List.Sorted.{IsPermutation-map, IsPermutation-refl}
pub use Rattle.std.proofs.lemmas.List.Sorted.{IsPermutation-sym, IsPermutation-trans}
pub use Rattle.std.proofs.lemmas.List.Sorted.{length_permutation, list_any-IsPermutation}
pub use Rattle.std.proofs.lemmas.List.Sorted.{sum_by-IsPermutation}
pub use Rattle.std.proofs.lemmas.List.Sums.{count_by-le-length, length-filter, sum_by-append}
pub use Rattle.std.proofs.lemmas.List.Sums.{sum_by-cons, sum_by-le-sum_by, sum_by_push}
pub use Rattle.std.proofs.lemmas.Map.Keys.{IsDistinct-from_sorted, IsDistinct-head, IsDistinct-tail}
pub use Rattle.std.proofs.lemmas.Map.Keys.{sorted_head, sorted_tail}
pub use Rattle.std.proofs.lemmas.Map.Lookups.{exact_bytes}
pub use Rattle.std.proofs.lemmas.Map.Views.{tells_apart}
pub use Rattle.std.proofs.lemmas.Option.{get_or_from_slice_get, none-some, same_Some}
pub use Rattle.std.proofs.lemmas.Option.{slice_get-get_or, slice_get_past, slice_get_within}
pub use Rattle.std.proofs.lemmas.Simd.{map-map}
