-- Choices of older forms, whose rows get the mark that they count: a row that has it, and all that do.
use Rattle.std.proofs.Common.{◌≡◌, ◌==◌, ◌∙◌, ◌||◌, ◌+◌, ◌<◌, ◌≤◌, ℕ, pos, List, [], ◌∷◌, ◌++◌, Bool}
use Rattle.std.proofs.Common.{true, false, cond, Option, Some, None, Result, Ok, Err, length, map, refl}
use Rattle.std.proofs.Common.{get_or, sym, ap, arith, subst, take, true≢false}
use Rattle.std.specs.Prelude.{IsErr, IsOk, OnErr, OnOk, fold, if◌then◌else◌}
use Rattle.std.specs.Cmp.{nat_cmp_total}
use Rattle.std.specs.FinMap.{entries, find, get, get-entries, get-insert, insert}
use Rattle.std.specs.FinMap.{nat_cmp-IsAntisymmetric, same_map}
use Rattle.std.specs.List.{AllByRecursion, AllZip, list_any}
use Rattle.std.specs.Option.{option_map}
use Rattle.std.specs.Ordering.{is_eq, nat_cmp}
use Rattle.std.proofs.lemmas.Bool.Decides.{nat_tests}
use Rattle.std.proofs.lemmas.List.{map-id, take_all, take_more}
use Rattle.std.proofs.lemmas.List.Sums.{fold-append}
use Rattle.std.proofs.lemmas.Map.Views.{tells_apart}
use Rattle.sqlite_trees.proofs.ListLemmas.{map-map}
use Rattle.sqlite_trees.specs.Tree.{Trees}
use Rattle.sqlite_trees.specs.View.{View, IsClean, KeepsCommitted, OnlyWrites}
use Rattle.sqlite_trees.specs.declared.error.StoreError.{StoreError}
use Rattle.sqlite_trees.specs.declared.store.Store.{Ghosts}
use Rattle.sqlite_value.specs.Order.{Row, column}
use Rattle.sqlite_value.specs.declared.value.Value.TheVariants.{Blob, Int}
use Rattle.table_model.specs.MapChanges.{updated}
use Rattle.table_model.specs.Tables.{ChoiceRow, ChoiceTable, Tables}
use Rattle.table_model.proofs.MovedLemmas.{entries-updated, get-updated}
use Rattle.tree_rows.specs.Layouts.{Layout}
use Rattle.tree_rows.specs.Rows.{IsUnchanged, Puts}
use Rattle.tree_rows.proofs.Calls.{Quiet, kept_after_look}
use Rattle.tree_rows.proofs.Keyed.{rows_put}
use Rattle.tree_tables.specs.Columns.{choice_columns, flag}
use Rattle.tree_tables.specs.Holds.{Holds}
use Rattle.tree_tables.specs.OldChoices.{HoldsOld, HoldsPart, Marks, MarksAll, SaysOldChoice}
use Rattle.tree_tables.specs.OldChoices.{mark_each, mark_of_choice, marked, part_columns}
use Rattle.tree_tables.specs.OldChoices.{unmarked, with_choices_of}
use Rattle.tree_tables.specs.States.{State, HasCleanDisk, Survives, state}
use Rattle.tree_tables.specs.declared.old_choices.OldChoice.{OldChoice}
use Rattle.tree_tables.proofs.Holding.{SameBut, has_rows, have_but, holds_rows}
use Rattle.tree_tables.proofs.Layouts.{choice_layout}
use Rattle.tree_tables.proofs.Looking.{only_both, only_looks, survives, survives_both, was_clean}
use Rattle.tree_tables.proofs.RowsRead.{all_entries, same_blob, same_count, told_of_all}

-- choices that have their mark or have it not, by their numbers
abbrev part_layout : Layout ℕ ChoiceRow nat_cmp
part_layout = record {
  key = λ number. Int (pos number) ∷ [];
  rest = λ number choice.
      Blob choice.name ∷ Int (pos choice.period) ∷ mark_of_choice choice.counts;
  total = nat_cmp_total;
  exact = nat_cmp-IsAntisymmetric;
  alike = λ k l. refl;
  ordered = choice_layout.ordered;
}

-- trees that are the same but for that of the choices still are, where that has other rows
same_beside : {old new : Trees} (tables : Tables) → SameBut old new 8
    → SameBut (with_choices_of tables old) (with_choices_of tables new) 8
same_beside tables same other apart =
    ap (cond (other == 8) (map choice_columns (entries tables.choices))) (same other apart)

-- A choice that is put with its mark is so then, and the rest stays.
pub choice_marked : {old new : View} {key row : Row} (one : OldChoice) → Puts old new 8 key row
    → key ≡ Int (pos one.number) ∷ [] → row ≡ choice_columns (one.number, marked one)
    → (tables : Tables) (choices : ChoiceTable) → HoldsPart old.trees tables choices
    → HoldsPart new.trees tables (insert choices one.number (marked one))
choice_marked {old} one puts key_is row_is tables choices part = record {
  rows = rows_put part_layout choices one.number (marked one) puts part.rows key_is row_is;
  rest = holds_rows part.rest.placed (have_but {old = with_choices_of tables old.trees} 8
      (same_beside tables puts.rewrites.others) refl (has_rows part.rest) refl);
}

-- a step of one call that marks
pub marks_alone : {S T Made : Type 0} (ghosts : Ghosts S) {old new : S}
    {change : ChoiceTable → ChoiceTable} (result : Result T StoreError) → Quiet ghosts old new
    → OnErr result (IsClean (ghosts.view new) → KeepsCommitted (ghosts.view old) (ghosts.view new))
    → OnOk result (IsClean (ghosts.view new) → Made)
    → (Made → OnlyWrites (ghosts.view old) (ghosts.view new))
    → (Made → (tables : Tables) (choices : ChoiceTable)
    → HoldsPart (ghosts.view old).trees tables choices
    → HoldsPart (ghosts.view new).trees tables (change choices))
    → Marks result (state ghosts old) (state ghosts new) change
marks_alone ghosts (Ok value) call kept done only holds = record {
  survives = survives ghosts call;
  done = λ clean. (only (done clean), holds (done clean));
  refused = λ clean. tt;
}
marks_alone ghosts (Err error) call kept done only holds = record {
  survives = survives ghosts call;
  done = λ clean. tt;
  refused = kept;
}

-- a choice that is marked after others
pub marks_more : {T : Type 0} {old mid new : State} (all : List OldChoice) (i : ℕ)
    (other : OldChoice) (result : Result T StoreError) → i < length all
    → Marks {T = Unit {0}} (Ok tt) old mid (mark_each (take i all)) → IsOk result
    → Marks result mid new
    (λ choices. insert choices (get_or all i other).number (marked (get_or all i other)))
    → Marks {T = Unit {0}} (Ok tt) old new (mark_each (take (i + 1) all))
marks_more {old = old} {new = new} all i other (Ok value) inside so_far good next = record {
  survives = survives_both so_far.survives next.survives;
  done = λ clean.
      let before = so_far.done (was_clean next.survives clean) in
      let made = next.done clean in (
        only_both old.view before.0 made.0,
        λ tables choices part. subst (HoldsPart new.view.trees tables) (sym (one_more choices))
            (made.1 tables (mark_each (take i all) choices) (before.1 tables choices part)),
      );
  refused = λ clean. tt;
}
  where
    one_more : (choices : ChoiceTable) → mark_each (take (i + 1) all) choices
        ≡ insert (mark_each (take i all) choices) (get_or all i other).number
        (marked (get_or all i other))
    one_more choices =
        ap (λ some. mark_each some choices) (take_more all i other inside)
        ∙ fold-append _ choices (take i all) (get_or all i other ∷ [])
marks_more all i other (Err error) inside so_far good next = absurd (true≢false (sym good))

-- all of them, where the last was marked
pub marks_whole : {old new : State} (all : List OldChoice) (i : ℕ) → length all ≤ i
    → Marks {T = Unit {0}} (Ok tt) old new (mark_each (take i all))
    → Marks {T = Unit {0}} (Ok tt) old new (mark_each all)
marks_whole {old} {new} all i last =
    subst (λ some. Marks {T = Unit {0}} (Ok tt) old new (mark_each some)) (take_all i all last)

-- one that fails
pub marks_err : {T : Type 0} {change : ChoiceTable → ChoiceTable} {old new : State}
    (result : Result T StoreError) → IsErr result → Survives old new (λ trees. ⊥)
    → (HasCleanDisk new → KeepsCommitted old.view new.view) → Marks result old new change
marks_err (Ok value) failed survives kept = absurd (true≢false (sym failed))
marks_err (Err error) failed survives kept =
    record { survives = survives; done = λ clean. tt; refused = kept }

-- ---- all of them

-- a choice that was read, as an entry of its table
abbrev entry_of : OldChoice → ℕ × ChoiceRow
entry_of one = (one.number, marked one)

-- entries that join a table, one after the other
abbrev join_each : List (ℕ × ChoiceRow) → ChoiceTable → ChoiceTable
join_each es choices =
    fold (λ (so_far : ChoiceTable) (e : ℕ × ChoiceRow). insert so_far e.0 e.1) choices es

marks_join : (all : List OldChoice) (choices : ChoiceTable)
    → mark_each all choices ≡ join_each (map entry_of all) choices
marks_join [] choices = refl
marks_join (one ∷ all) choices = marks_join all (insert choices one.number (marked one))

-- whether an entry has the number
abbrev has_number : ℕ → List (ℕ × ChoiceRow) → Bool
has_number q = list_any (λ (e : ℕ × ChoiceRow). is_eq (nat_cmp q e.0))

-- Entries of a table that join another one, which has all else of the first, make it the first.
joined : (whole : ChoiceTable) (es : List (ℕ × ChoiceRow)) (m : ChoiceTable)
    → AllByRecursion (λ (e : ℕ × ChoiceRow). get whole e.0 ≡ Some e.1) es
    → ((q : ℕ) → has_number q es ≡ false → get m q ≡ get whole q)
    → (q : ℕ) → get (join_each es m) q ≡ get whole q
joined whole [] m there rest = λ q. rest q refl
joined whole (e ∷ es) m there rest =
    joined whole es (insert m e.0 e.1) there.1 (λ q none.
    get-insert nat_cmp_total m e.0 e.1 q ∙ by q none (is_eq (nat_cmp q e.0)) refl)
  where
    by : (q : ℕ) → has_number q es ≡ false → (own : Bool) → is_eq (nat_cmp q e.0) ≡ own
        → cond own (Some e.1) (get m q) ≡ get whole q
    by q none true is =
        sym there.0 ∙ ap (get whole) (sym (tells_apart nat_cmp-IsAntisymmetric q e.0 is))
    by q none false is = rest q (ap (λ b. b || has_number q es) is ∙ none)

-- a number that no entry has is not found
none_found : (q : ℕ) (es : List (ℕ × ChoiceRow)) → has_number q es ≡ false
    → find nat_cmp q es ≡ None
none_found q [] none = refl
none_found q (e ∷ es) none = by (is_eq (nat_cmp q e.0)) refl none (none_found q es)
  where
    by : (own : Bool) → is_eq (nat_cmp q e.0) ≡ own → (own || has_number q es) ≡ false
        → (has_number q es ≡ false → find nat_cmp q es ≡ None)
        → cond own (Some e.1) (find nat_cmp q es) ≡ None
    by true is none later = absurd (true≢false none)
    by false is none later = later none

-- so the choices of a table that get their mark again are those of the table
all_joined : (choices : ChoiceTable)
    → join_each (entries choices) (updated unmarked choices) ≡ choices
all_joined choices =
    same_map nat_cmp_total nat_cmp-IsAntisymmetric
    (join_each (entries choices) (updated unmarked choices)) choices
    (joined choices (entries choices) (updated unmarked choices)
    (all_entries nat_cmp_total nat_cmp-IsAntisymmetric
    (λ (e : ℕ × ChoiceRow). get choices e.0 ≡ Some e.1) choices (λ k v there. there))
    (λ q none.
    let missing : get choices q ≡ None = get-entries choices q ∙ none_found q (entries choices) none in
    get-updated nat_cmp_total nat_cmp-IsAntisymmetric unmarked choices q
    ∙ ap (option_map unmarked) missing ∙ sym missing))

-- what is read of the row of a choice that counts is the choice
old_said : (one : OldChoice) (e : ℕ × ChoiceRow) (row : Row) → e.1.counts ≡ true
    → row ≡ part_columns (e.0, unmarked e.1) → SaysOldChoice row one → entry_of one ≡ e
old_said one e row counts is says =
    let number = same_count one.number e.0 (sym says.number ∙ ap (λ r. column r 0) is) in
    let name = same_blob one.name e.1.name (sym says.name ∙ ap (λ r. column r 1) is) in
    let period = same_count one.period e.1.period (sym says.period ∙ ap (λ r. column r 2) is) in
    λ i. (number i, record { name = name i; counts = sym counts i; period = period i })

-- rows of choices that count have their mark
all_marked : (es : List (ℕ × ChoiceRow))
    → AllByRecursion (λ (e : ℕ × ChoiceRow). e.1.counts ≡ true) es
    → map part_columns es ≡ map choice_columns es
all_marked [] count = refl
all_marked (e ∷ es) count =
    let first : part_columns e ≡ choice_columns e =
    ap (λ b. Int (pos e.0) ∷ Blob e.1.name ∷ Int (pos e.1.period) ∷ mark_of_choice b) count.0
    ∙ sym (ap (λ b. Int (pos e.0) ∷ Blob e.1.name ∷ Int (pos e.1.period) ∷ Int (pos (flag b)) ∷ [])
    count.0) in
    let rest = all_marked es count.1 in
    λ i. first i ∷ rest i

-- Where all choices that were read got their mark, the trees hold the tables.
pub choices_marked : {old new : Trees} {tables : Tables} (all : List OldChoice)
    → HoldsOld old tables → AllZip SaysOldChoice (old 8) all
    → HoldsPart new tables (mark_each all (updated unmarked tables.choices)) → Holds new tables
choices_marked {old} {new} {tables} all held read part =
    let es = entries tables.choices in
    let rows : old 8 ≡ map (λ (e : ℕ × ChoiceRow). part_columns (e.0, unmarked e.1)) es =
    held.part.rows
    ∙ ap (map part_columns) (entries-updated nat_cmp_total nat_cmp-IsAntisymmetric unmarked
    tables.choices)
    ∙ map-map part_columns (λ (e : ℕ × ChoiceRow). (e.0, unmarked e.1)) es in
    let told : map entry_of all ≡ es =
    told_of_all (λ (e : ℕ × ChoiceRow). part_columns (e.0, unmarked e.1)) SaysOldChoice entry_of
    (λ (e : ℕ × ChoiceRow). e) (λ (e : ℕ × ChoiceRow). e.1.counts ≡ true) old_said (old 8) all es
    held.count read rows ∙ map-id es in
    let whole : mark_each all (updated unmarked tables.choices) ≡ tables.choices =
    marks_join all (updated unmarked tables.choices)
    ∙ ap (λ es. join_each es (updated unmarked tables.choices)) told
    ∙ all_joined tables.choices in
    let now : new 8 ≡ map choice_columns es =
    part.rows ∙ ap (λ (choices : ChoiceTable). map part_columns (entries choices)) whole
    ∙ all_marked es held.count in
    holds_rows part.rest.placed (have_but {old = with_choices_of tables new} 8 (λ other apart.
    sym (ap (λ b. if b then map choice_columns es else new other)
    (let is_other : (other == 8) ≡ false = grind (arith, nat_tests, apart) in is_other)))
    now (has_rows part.rest) refl)

-- so after a look at all rows of the choices, where the choices that were read get their mark
pub marks_all : {T : Type 0} {old mid new : State} (result : Result T StoreError)
    (all : List OldChoice) → Survives old mid (λ trees. ⊥)
    → (HasCleanDisk mid → IsUnchanged old.view mid.view) → Marks result mid new (mark_each all)
    → (HasCleanDisk mid → AllZip SaysOldChoice (old.view.trees 8) all) → MarksAll result old new
marks_all {old = old} {mid = mid} (Ok value) all look same marks read = record {
  survives = survives_both look marks.survives;
  done = λ clean.
      let before = was_clean marks.survives clean in
      let made = marks.done clean in (
        only_both old.view (only_looks old.view (same before)) made.0,
        λ tables held. choices_marked all held (read before)
            (made.1 tables (updated unmarked tables.choices)
            (subst (λ (trees : Trees). HoldsPart trees tables (updated unmarked tables.choices))
            (sym (ap (λ (v : View). v.trees) (same before))) held.part)),
      );
  refused = λ clean. tt;
}
marks_all (Err error) all look same marks read = record {
  survives = survives_both look marks.survives;
  done = λ clean. tt;
  refused = λ clean.
      kept_after_look (same (was_clean marks.survives clean)) (marks.refused clean);
}
