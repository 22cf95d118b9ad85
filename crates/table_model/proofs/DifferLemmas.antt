-- A record that is kept changes at most four rows, and a choice at most five: each of their steps
-- changes one row of one table.
use Rattle.std.proofs.Common.{◌≡◌, ◌≢◌, ℕ, zero, suc, List, [], ◌∷◌, refl, sym, ap, ◌∙◌, subst}
use Rattle.std.proofs.Common.{true, false, Bool, cond, Option, Some, None, arith, ℤ, if◌then◌else◌}
use Rattle.std.proofs.Common.{◌==◌, Ordering, option_map}
use Rattle.book_model.proofs.Std.{IsTotalOrder, nat_cmp_total, FinMap, IsAntisymmetric, get, insert}
use Rattle.book_model.proofs.Std.{remove, get-insert, get-remove, nat_cmp-IsAntisymmetric}
use Rattle.book_model.proofs.Std.{nat_list_cmp_total, exact_bytes}
use Rattle.book_model.specs.declared.row.ChargeRow.{ChargeRow}
use Rattle.book_model.specs.declared.row.RowKey.{RowKey}
use Rattle.book_model.specs.Words.{Priced, open_number, name_of, by_bytes, key_of, by_key, is_after}
use Rattle.book_model.proofs.MapLemmas.{not_tied}
use Rattle.book_model.proofs.Lemmas.{by_key_total, by_key_exact}
use Rattle.book_core.specs.declared.effects.DayChange.TheVariants.{Add, Take}
use Rattle.book_core.specs.declared.effects.LineChange.TheVariants.{AddPlus, DropPlus, AddMinus}
use Rattle.book_core.specs.declared.effects.LineChange.TheVariants.{DropMinus}
use Rattle.book_core.specs.declared.effects.Member.{Member}
use Rattle.book_core.specs.declared.effects.View.{View}
use Rattle.book_core.specs.Words.{charge_held, charges, choice_effects, unmarks, withdraw}
use Rattle.book_core.specs.Effects.{charge, effects_by}
use Rattle.table_model.specs.Differences.{TableKey, OfBook, OfChoice, OfRecord, OfDay, OfLine}
use Rattle.table_model.specs.Differences.{SameRow, DifferInAtMost}
use Rattle.table_model.specs.Laws.{AtMostFourDiffer, AtMostFiveDiffer, AtMostThreeDiffer}
use Rattle.table_model.specs.Words.{less_price, mark_at, take_at, put_choice_row, set_mark_row}
use Rattle.table_model.specs.Words.{apply, charge_in, put_choice, BookRow, ChoiceRow, CountedTable}
use Rattle.table_model.specs.Words.{RecordRow, Tables, tables_of, current_of, view_of}
use Rattle.table_model.specs.Words.{put_withheld}
use Rattle.table_model.proofs.ChoiceChanges.{choice_follows, chosen_member, withhold_follows}
use Rattle.table_model.proofs.KeptLemmas.{kept_follows}
use Rattle.table_model.proofs.KeptPrice.{kept_cost}
use Rattle.table_model.proofs.NumberedLemmas.{by_period_total, by_period_exact}

-- a table with this row under a key, or with none
abbrev pub set : {K V : Type 0} {R : K → K → Ordering} → K → Option V → FinMap R V → FinMap R V
set key None rows = remove rows key
set key (Some row) rows = insert rows key row

-- the rows at other places stay
pub get-beside : {P K V : Type 0} {R : K → K → Ordering} → IsTotalOrder R → IsAntisymmetric R
    → (place : K → P) (rows : FinMap R V) (key : K) (row : Option V) (other : K)
    → place other ≢ place key → get rows other ≡ get (set key row rows) other
get-beside total exact place rows key None other apart =
    sym (get-remove total rows key other ∙ ap (λ b. cond b None (get rows other))
    (not_tied total exact other key (λ same. apart (ap place same))))
get-beside total exact place rows key (Some row) other apart =
    sym (get-insert total rows key row other ∙ ap (λ b. cond b (Some row) (get rows other))
    (not_tied total exact other key (λ same. apart (ap place same))))

-- the tables now differ from those before in at most this many rows
record Within (before : Tables) (most : ℕ) (now : Tables) : Type 0 where
  places : DifferInAtMost most before now

-- tables do not differ from themselves
none_differ : (tables : Tables) → Within tables 0 tables
none_differ tables = record {
  places = ([], omega arith, elim [ OfBook ↦ λ apart. refl | _ ↦ λ apart. refl ]);
}

-- where the row of one place changes, one more may differ
one_more : {before now next : Tables} {most : ℕ} → Within before most now → (place : TableKey)
    → ((other : TableKey) → other ≢ place → SameRow now next other) → Within before (suc most) next
one_more {before} {now} {next} {most} few place beside = record {
  places = (
    place ∷ few.places.0,
    omega arith,
    λ other apart. same_on other (few.places.2 other apart.1) (beside other apart.0),
  );
}
  where
    same_on : (other : TableKey) → SameRow before now other → SameRow now next other
        → SameRow before next other
    same_on OfBook first second = first ∙ second
    same_on other first second = first ∙ second

module _ {before now : Tables} {most : ℕ} (few : Within before most now) where
  -- or none does
  no_more : Within before (suc most) now
  no_more = record { places = (few.places.0, omega arith, few.places.2) }

  -- which names are counted is no row
  set_names : (counted : CountedTable) → Within before most (record now { counted = counted })
  set_names counted = record {
    places = (
      few.places.0,
      few.places.1,
      λ other apart. same_row other (few.places.2 other apart),
    );
  }
    where
      same_row : (other : TableKey) → SameRow before now other
          → SameRow before (record now { counted = counted }) other
      same_row OfBook same = same
      same_row other same = same

  -- one row of one table is set
  set_book : (row : BookRow) → Within before (suc most) (record now { book = row })
  set_book row = one_more few OfBook (elim [
    | OfBook ↦ λ apart. absurd (apart refl)
    | _ ↦ λ apart. refl
  ])

  set_choice : (key : ℕ) (row : Option ChoiceRow)
      → Within before (suc most) (record now { choices = set key row now.choices })
  set_choice key row =
      one_more few (OfChoice key) (elim [
        | OfChoice other ↦
            get-beside nat_cmp_total nat_cmp-IsAntisymmetric OfChoice now.choices key row other
        | _ ↦ λ apart. refl
      ])

  set_record : (key : List ℕ) (row : Option RecordRow)
      → Within before (suc most) (record now { records = set key row now.records })
  set_record key row =
      one_more few (OfRecord key) (elim [
        | OfRecord other ↦
            get-beside nat_list_cmp_total exact_bytes OfRecord now.records key row other
        | _ ↦ λ apart. refl
      ])

  set_day : (key : ℕ × RowKey) (row : Option ChargeRow)
      → Within before (suc most) (record now { days = set key row now.days })
  set_day key row = one_more few (OfDay key) (elim [
    | OfDay other ↦
        get-beside (by_period_total by_key by_key_total) (by_period_exact by_key by_key_exact)
        OfDay now.days key row other
    | _ ↦ λ apart. refl
  ])

  set_line : (key : ℕ × List ℕ) (plus : Option Bool)
      → Within before (suc most) (record now { lines = set key plus now.lines })
  set_line key plus = one_more few (OfLine key) (elim [
    | OfLine other ↦
        get-beside (by_period_total by_bytes nat_list_cmp_total)
        (by_period_exact by_bytes exact_bytes) OfLine now.lines key plus other
    | _ ↦ λ apart. refl
  ])

  -- a record's row has a mark or loses it, if there is one
  set_mark : (mark : Bool) (name : List ℕ) → Within before (suc most) (set_mark_row mark name now)
  set_mark mark name =
      elim (get now.records name) as (λ found. Within before (suc most)
      (record now { records = mark_at mark name found now.records })) [
        | None ↦ no_more
        | Some row ↦ set_record name (Some (record row { charged = mark }))
      ]

  -- a price leaves a charge row, if there is one
  take_day : (key : ℕ × RowKey) (priced : Priced) → Within before (suc most)
      (record now { days = take_at key (get now.days key) priced now.days })
  take_day key priced =
      elim (get now.days key) as (λ found. Within before (suc most)
      (record now { days = take_at key found priced now.days })) [
        | None ↦ no_more
        | Some row ↦ elim (row.count == 1) as (λ last. Within before (suc most) (record now {
          days = if last then remove now.days key else insert now.days key (less_price row priced);
        })) [
          | true ↦ set_day key None
          | false ↦ set_day key (Some (less_price row priced))
        ]
      ]

module _ {before now : Tables} {most : ℕ} (few : Within before most now) (period : ℕ) where
  -- a record that is charged has one more charge row or line
  few_charged : (after : Bool) (name : List ℕ) (priced : Priced) → Within before (suc most)
      (apply period (if after then charges (Some (Add priced)) None
      else charges None (Some (AddPlus name))) now)
  few_charged true name priced = set_day few (period, key_of priced) (Some _)
  few_charged false name priced = set_line few (period, name) (Some true)

  few_held : (posted : Bool) (last : Option ℤ) (name : List ℕ) (priced : Priced)
      → Within before (suc most) (apply period (if posted
      then charges None (Some (DropMinus name)) else charge last name priced) now)
  few_held true last name priced = set_line few (period, name) None
  few_held false last name priced = few_charged (is_after last priced.day) name priced

  -- one that is withdrawn loses its mark too
  few_withdrawn : (posted after : Bool) (name : List ℕ) (priced : Priced)
      → Within before (suc (suc most)) (apply period (if posted
      then unmarks name None (Some (AddMinus name)) else if after
      then unmarks name (Some (Take priced)) None
      else unmarks name None (Some (DropPlus name))) now)
  few_withdrawn true after name priced =
      set_line (set_mark few false name) (period, name) (Some false)
  few_withdrawn false true name priced =
      set_names (take_day (set_mark few false name) (period, key_of priced) priced)
      (remove now.counted name)
  few_withdrawn false false name priced = set_line (set_mark few false name) (period, name) None

  -- so a new record's effects change two rows
  few_effects : (last : Option ℤ) (members : ℕ) (only : Option Member) (name : List ℕ)
      (priced : Priced)
      → Within before (suc (suc most)) (apply period (effects_by last members only name priced) now)
  few_effects last zero only name priced =
      no_more (few_charged (is_after last priced.day) name priced)
  few_effects last (suc others) (Some member) name priced =
      few_withdrawn member.posted (is_after last member.priced.day) member.name member.priced
  few_effects last (suc others) None name priced = no_more (no_more few)

  -- and a choice, besides what it withdraws, three: one for the record, its mark and its own row
  few_chosen : (number : ℕ) (last : Option ℤ) (name : List ℕ) (member : Member)
      → Within before (suc (suc (suc most))) (put_choice_row number name period
      (charge_in period name (charge_held last member) now))
  few_chosen number last name member =
      let held = few_held member.posted last member.name member.priced in
      set_choice (set_names (set_mark held true name)
      (charge_in period name (charge_held last member) now).counted) number
      (Some (record { name = name; counts = true; period = period }))

-- the tables with a choice
five_differ : (number period : ℕ) (name : List ℕ) (last : Option ℤ) (current : Option Member)
    (member : Member) (tables : Tables)
    → Within tables 5 (put_choice number period name (choice_effects last current member) tables)
five_differ number period name last None member tables =
    few_chosen (no_more (no_more (none_differ tables))) period number last name member
five_differ number period name last (Some gone) member tables =
    few_chosen (few_withdrawn (none_differ tables) period gone.posted
    (is_after last gone.priced.day) gone.name gone.priced) period number last name member

-- the tables with a choice of none
three_differ : (number period : ℕ) (name : List ℕ) (last : Option ℤ) (current : Option Member)
    (tables : Tables)
    → Within tables 3 (put_withheld number period name (option_map (withdraw last) current) tables)
three_differ number period name last None tables =
    set_choice (no_more (no_more (none_differ tables))) number
    (Some (record { name = name; counts = false; period = period }))
three_differ number period name last (Some gone) tables =
    set_choice (few_withdrawn (none_differ tables) period gone.posted
    (is_after last gone.priced.day) gone.name gone.priced) number
    (Some (record { name = name; counts = false; period = period }))

-- the laws
pub at_most_three_differ : AtMostThreeDiffer
at_most_three_differ naming book name bytes sound found =
    (subst (Within (tables_of naming book) 3)
    (sym (withhold_follows naming book name bytes sound found))
    (three_differ _ _ name _ (current_of naming book bytes) (tables_of naming book))).places

pub at_most_four_differ : AtMostFourDiffer
at_most_four_differ naming book bytes sound kept =
    let cost = kept_cost naming book bytes kept in
    let view : View = view_of naming book bytes in
    let few = few_effects (none_differ (tables_of naming book)) (open_number book) view.through
    view.members view.only (name_of naming bytes) cost.0 in
    (subst (Within (tables_of naming book) 4)
    (sym (kept_follows naming book bytes cost.0 sound kept cost.1))
    (set_record (set_book (set_names few _) _) (name_of naming bytes) (Some _))).places

pub at_most_five_differ : AtMostFiveDiffer
at_most_five_differ naming book name bytes sound found done =
    let member = chosen_member naming book name bytes sound found in
    (subst (Within (tables_of naming book) 5)
    (sym (choice_follows naming book name bytes member.0 sound found done member.1))
    (five_differ _ _ name _ (current_of naming book bytes) member.0 (tables_of naming book))).places
