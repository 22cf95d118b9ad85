-- Choices: how one is written into the two trees.
use Rattle.std.proofs.Common.{◌≡◌, ◌∙◌, ℕ, List, None, Bool, refl, ap₂}
use Rattle.std.specs.Cmp.{nat_cmp_total}
use Rattle.std.specs.FinMap.{get, nat_cmp-IsAntisymmetric}
use Rattle.std.specs.Ordering.{nat_cmp}
use Rattle.sqlite_trees.specs.Tree.{insert_entry}
use Rattle.sqlite_trees.specs.View.{View}
use Rattle.sqlite_value.specs.Keys.{plain}
use Rattle.sqlite_value.specs.Order.{Row}
use Rattle.table_model.specs.Steps.{put_named_row}
use Rattle.table_model.specs.Tables.{ChoiceRow, Tables}
use Rattle.tree_rows.specs.Indexes.{IsIndexKey}
use Rattle.tree_rows.specs.Rows.{Rewrites}
use Rattle.tree_rows.proofs.Maps.{inserted}
use Rattle.tree_tables.specs.Columns.{choice_columns, choice_name_columns}
use Rattle.tree_tables.specs.Holds.{Holds, by_chosen, choice_name_key}
use Rattle.tree_tables.proofs.Holding.{apart, has_rows, have_but, holds_rows}
use Rattle.tree_tables.proofs.Layouts.{by_chosen_exact, by_chosen_total}
use Rattle.tree_tables.proofs.Layouts.{choice_layout, choice_name_layout}
use Rattle.tree_tables.proofs.RecordIndexes.{index_row_added}

-- the index key of a choice by the name of its record
pub chosen_named :
    IsIndexKey {V = ChoiceRow} nat_cmp by_chosen choice_name_key (λ (q : List ℕ × ℕ). q.1)
chosen_named = record {
  named = λ e. refl;
  total = nat_cmp_total;
  exact = nat_cmp-IsAntisymmetric;
  index_total = by_chosen_total;
  index_exact = by_chosen_exact;
}

-- The row of a new choice joins the choices, and its key the tree that finds them.
pub choice_added : {old mid new : View} {tables : Tables} (number : ℕ) (name : List ℕ)
    (counts : Bool) (period : ℕ) {made found : Row}
    → Rewrites old mid 8 (insert_entry plain made (old.trees 8))
    → Rewrites mid new 9 (insert_entry plain found (mid.trees 9))
    → made ≡ choice_columns (number, record { name = name; counts = counts; period = period })
    → found ≡ choice_name_columns ((name, number), tt)
    → Holds old.trees tables → get tables.choices number ≡ None
    → Holds new.trees (put_named_row number name counts period tables)
choice_added {old} {mid} {new} {tables} number name counts period first second made_is found_is holds
    none =
    let choice : ChoiceRow = record { name = name; counts = counts; period = period } in
    holds_rows holds.placed (have_but 9 second.others
    (second.rows_now
    ∙ index_row_added chosen_named choice_name_layout tables.choices number choice found_is
    (first.others 9 (apart 9 8 refl) ∙ holds.choice_name_index) none)
    (have_but 8 first.others
    (first.rows_now ∙ ap₂ (insert_entry plain) made_is holds.choices
    ∙ inserted choice_layout tables.choices number choice none) (has_rows holds) refl) refl)
