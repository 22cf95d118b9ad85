-- A record that is kept changes at most one of the names that are counted, and a choice at most two.
use Rattle.std.proofs.Common.{ℕ, ◌+◌, suc, List, [], ◌∷◌, length, refl, sym, ◌∙◌, subst, Option}
use Rattle.std.proofs.Common.{Some, None, arith}
use Rattle.book_model.proofs.Std.{option_map_or, nat_list_cmp_total, exact_bytes}
use Rattle.book_model.specs.Words.{last_close, name_of, open_number}
use Rattle.book_core.specs.declared.effects.ChoiceEffects.{ChoiceEffects}
use Rattle.book_core.specs.declared.effects.DayChange.{DayChange}
use Rattle.book_core.specs.declared.effects.DayChange.TheVariants.{Add, Take}
use Rattle.book_core.specs.declared.effects.Effects.{Effects}
use Rattle.book_core.specs.Words.{choice_effects, effects_of}
use Rattle.table_model.specs.CountedLaws.{AtMostOneNameDiffers, AtMostTwoNamesDiffer}
use Rattle.table_model.specs.Differences.{NamesDifferInAtMost}
use Rattle.table_model.specs.Words.{count_where, uncounted_by, put_choice, CountedTable, Tables}
use Rattle.table_model.specs.Words.{tables_of, current_of, view_of}
use Rattle.table_model.specs.RowChanges.{uncount_where}
use Rattle.table_model.proofs.ChoiceChanges.{choice_follows, chosen_member}
use Rattle.table_model.proofs.DifferLemmas.{get-beside, set}
use Rattle.table_model.proofs.KeptLemmas.{kept_follows}
use Rattle.table_model.proofs.KeptPrice.{kept_cost}

-- the names with the effects of the record of a name, which is charged or new
abbrev counted_after : List ℕ → Effects → CountedTable → CountedTable
counted_after name effects counted = count_where effects.day name (uncounted_by effects counted)

-- the names now differ from those before in at most this many
record Within (before : CountedTable) (most : ℕ) (now : CountedTable) : Type 0 where
  names : NamesDifferInAtMost most before now

-- names do not differ from themselves
none_differ : (counted : CountedTable) → Within counted 0 counted
none_differ counted = record { names = ([], omega arith, λ name apart. refl) }

module _ {before now : CountedTable} {most : ℕ} (few : Within before most now) where
  -- where one joins or leaves, one more may differ
  one_more : (name : List ℕ) (on : Option (Unit {0})) → Within before (suc most) (set name on now)
  one_more name on = record {
    names = (
      name ∷ few.names.0,
      omega arith,
      λ other apart. few.names.2 other apart.1
          ∙ get-beside nat_list_cmp_total exact_bytes (λ (k : List ℕ). k) now name on other apart.0,
    );
  }

  -- or none does
  no_more : Within before (suc most) now
  no_more = record { names = (few.names.0, omega arith, few.names.2) }

  -- what effects take out is one name, or none,
  few_uncounted : (effects : Effects) → Within before (suc most) (uncounted_by effects now)
  few_uncounted effects = by effects.day effects.unmark
    where
      by : (day : Option DayChange) (unmark : Option (List ℕ)) → Within before (suc most)
          (option_map_or (λ gone. uncount_where day gone now) unmark now)
      by None None = no_more
      by None (Some gone) = no_more
      by (Some (Add priced)) None = no_more
      by (Some (Add priced)) (Some gone) = no_more
      by (Some (Take priced)) None = no_more
      by (Some (Take priced)) (Some gone) = one_more gone None

  -- and it is one with the name that joins: where a price leaves the charge rows, none joins them
  few_counted : (name : List ℕ) (effects : Effects)
      → Within before (suc most) (counted_after name effects now)
  few_counted name effects = by effects.day effects.unmark
    where
      by : (day : Option DayChange) (unmark : Option (List ℕ)) → Within before (suc most)
          (count_where day name (option_map_or (λ gone. uncount_where day gone now) unmark now))
      by None None = no_more
      by None (Some gone) = no_more
      by (Some (Add priced)) None = one_more name (Some tt)
      by (Some (Add priced)) (Some gone) = one_more name (Some tt)
      by (Some (Take priced)) None = no_more
      by (Some (Take priced)) (Some gone) = one_more gone None

-- so a choice, with what it withdraws, changes two
two_differ : (number period : ℕ) (name : List ℕ) (chosen : Effects) (withdrawn : Option Effects)
    (tables : Tables) → Within tables.counted 2
    (put_choice number period name (record { chosen = chosen; withdrawn = withdrawn })
    tables).counted
two_differ number period name chosen None tables =
    few_counted (no_more (none_differ tables.counted)) name chosen
two_differ number period name chosen (Some gone) tables =
    few_counted (few_uncounted (none_differ tables.counted) gone) name chosen

-- the laws
pub at_most_one_name_differs : AtMostOneNameDiffers
at_most_one_name_differs naming book bytes sound kept =
    let cost = kept_cost naming book bytes kept in
    (subst (λ (tables : Tables). Within (tables_of naming book).counted 1 tables.counted)
    (sym (kept_follows naming book bytes cost.0 sound kept cost.1))
    (few_counted (none_differ (tables_of naming book).counted) (name_of naming bytes)
    (effects_of (view_of naming book bytes) (name_of naming bytes) cost.0))).names

pub at_most_two_names_differ : AtMostTwoNamesDiffer
at_most_two_names_differ naming book name bytes sound found done =
    let member = chosen_member naming book name bytes sound found in
    let effects : ChoiceEffects =
    choice_effects (last_close book.rulings) (current_of naming book bytes) member.0 in
    (subst (λ (tables : Tables). Within (tables_of naming book).counted 2 tables.counted)
    (sym (choice_follows naming book name bytes member.0 sound found done member.1))
    (two_differ (length book.rulings.choices + 1) (open_number book) name effects.chosen
    effects.withdrawn (tables_of naming book))).names
