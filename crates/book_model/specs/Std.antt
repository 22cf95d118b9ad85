-- The words of std for lists, finite maps, options and orders, from one place. Declares nothing.
pub use Rattle.std.specs.Cmp.{IsEquivalence, IsTotalOrder, both_ways, int_cmp_total, nat_cmp_total}
pub use Rattle.std.specs.Cmp.{tied_itself}
pub use Rattle.std.specs.Cmp.Lexicographic.{bytes_decides, nat_list_cmp_total, slice_cmp}
pub use Rattle.std.specs.Cmp.Lexicographic.{texts_ties}
pub use Rattle.std.specs.FinMap.{FinMap, IsAntisymmetric, contains_key, empty, entries}
pub use Rattle.std.specs.FinMap.{entries_sorted, from_entries, get, get-entries, get-from_entries}
pub use Rattle.std.specs.FinMap.{get-insert, get-remove, insert, int_cmp-IsAntisymmetric, is_sorted}
pub use Rattle.std.specs.FinMap.{keys, len-empty, len-entries, nat_cmp-IsAntisymmetric, remove}
pub use Rattle.std.specs.FinMap.{same_map, values}
pub use Rattle.std.specs.List.{AllByRecursion, AllZip, IsDistinct, concat, cons_option, last_or}
pub use Rattle.std.specs.List.{list_all, list_any, reduce}
pub use Rattle.std.specs.List.Sorted.{IsStrictlySortedBy}
pub use Rattle.std.specs.Option.{option_map_or, option_or}
pub use Rattle.std.specs.Ordering.{eq_by_cmp, int_cmp, int_eq, is_lt, match_ordering, nat_cmp}
pub use Rattle.std.specs.Ordering.{ordering_reverse, ordering_then}
pub use Rattle.std.specs.Result.{result_ok}
pub use Rattle.std.specs.declared.cmp.Ordering.{Ordering}
pub use Rattle.std.specs.declared.cmp.Ordering.TheVariants.{Equal, Greater, Less}
