-- The lemmas of this crate that proofs above it cite, from one place. Declares nothing.
pub use Rattle.book_model.proofs.CallLemmas.{calls_go_forward, closed_prices_stay}
pub use Rattle.book_model.proofs.ChargedChanges.{share_back}
pub use Rattle.book_model.proofs.ChosenLemmas.{all_chosen}
pub use Rattle.book_model.proofs.CountedDays.{close_at, counted_at}
pub use Rattle.book_model.proofs.CountedLemmas.{current_is}
pub use Rattle.book_model.proofs.DayLemmas.{day_fits, day_kept}
pub use Rattle.book_model.proofs.DetailOrder.{by_detail_total}
pub use Rattle.book_model.proofs.FilterLemmas.{Apart, entries-sorted, no_length}
pub use Rattle.book_model.proofs.FilterMapLemmas.{find-none, map-filter_map}
pub use Rattle.book_model.proofs.KeyLemmas.{joined, joined_all, sum_by-keys}
pub use Rattle.book_model.proofs.LatestLemmas.{begun-last, later-before, later_price, rising-behind}
pub use Rattle.book_model.proofs.LineOrder.{by_line_total, line_by, line_of}
pub use Rattle.book_model.proofs.ListLemmas.{count_by-distinct, filter-agree, filter-filter}
pub use Rattle.book_model.proofs.ListLemmas.{filter-map, filter_map-defined, filter_map-map}
pub use Rattle.book_model.proofs.ListLemmas.{last_or-behind, list_any-map, map-agree}
pub use Rattle.book_model.proofs.ListLemmas.{slice_get-behind, slice_get-front}
pub use Rattle.book_model.proofs.MadeByCallsLemmas.{event_sound, sound_after}
pub use Rattle.book_model.proofs.MapLemmas.{by_tie, else_find, find-both, get-inserted}
pub use Rattle.book_model.proofs.MapLemmas.{insert-insert}
pub use Rattle.book_model.proofs.PermutedSets.{apart_from_distinct, given_permuted}
pub use Rattle.book_model.proofs.PermutedSets.{members_reordered}
pub use Rattle.book_model.proofs.PricingLemmas.{price_in-behind}
pub use Rattle.book_model.proofs.RecordSets.{first_of, has_those, has_with, in_those, is, is_first}
pub use Rattle.book_model.proofs.RecordSets.{is_itself, not_true, one_or, passes_those}
pub use Rattle.book_model.proofs.RecordSets.{same_records, second_of}
pub use Rattle.book_model.proofs.RowLemmas.{by_key_exact, by_key_total, rows_of-alike}
pub use Rattle.book_model.proofs.RowLemmas.{same_key_ties}
pub use Rattle.book_model.proofs.SetChanges.{IsUnnamed, except, is_back, pick-agree, those-agree}
pub use Rattle.book_model.proofs.SetChanges.{with-except}
pub use Rattle.book_model.proofs.SetLemmas.{any_tied-members, fails_too, has-set_of, keys_rise}
pub use Rattle.book_model.proofs.SetLemmas.{members-empty, members-those, members-with}
pub use Rattle.book_model.proofs.SetLemmas.{members_rise, same_bytes-by_cmp, set_of-alike}
pub use Rattle.book_model.proofs.SoundLemmas.{named_held, none_in, steps_stay_sound}
pub use Rattle.book_model.proofs.StepLemmas.{books_follow_history}
pub use Rattle.book_model.proofs.SumLemmas.{sum_by-plus}
pub use Rattle.book_model.proofs.SumsAlike.{SumsAlike, filter-alike, filter_map-alike, length-alike}
pub use Rattle.book_model.proofs.SumsAlike.{length-sum_by, list_any-count_by, map-alike}
pub use Rattle.book_model.proofs.SumsAlike.{sum_by-filter, sum_by-filter_map}
pub use Rattle.book_model.proofs.TestLemmas.{closed_open, credit_passes, credited_open}
pub use Rattle.book_model.proofs.TestLemmas.{kept_passes, replace_passes, tariff_passes}
