-- A step of a pass over all records takes the first that is still to come.
use Rattle.std.proofs.Common.{◌≡◌, ◌∙◌, ℕ, List, [], ◌∷◌, map, Bool, true, false, Some}
use Rattle.std.proofs.Common.{ap, refl, sym}
use Rattle.std.proofs.lemmas.Option.{same_Some}
use Rattle.sqlite_trees.specs.View.{Advances, View}
use Rattle.sqlite_value.specs.Order.{Row}
use Rattle.table_model.specs.Tables.{CameTable, RecordRow}
use Rattle.tree_rows.specs.declared.pass.TheConstants.{PASS}
use Rattle.tree_rows.proofs.Maps.{head_is, none_there}
use Rattle.tree_tables.specs.Columns.{record_columns}
use Rattle.tree_tables.specs.Passes.{HasRecordsLeft, TakesFirst, TakesNext}

-- one list has one rest
rest_is : (x y : Row) (xs ys : List Row) → x ∷ xs ≡ y ∷ ys → xs ≡ ys
rest_is x y xs ys e = cc

module _ (old new : View) (row : Row) (came : CameTable) where
  -- by what the cursor has left
  takes_first : (there : Bool) (left : List (List ℕ × RecordRow)) → Advances old new PASS row there
      → HasRecordsLeft came old left → TakesFirst came left new row there
  takes_first true [] it has =
      absurd (none_there row it.0 (same_Some _ _ (sym it.1 ∙ has)))
  takes_first true (entry ∷ others) it has =
      let rows : row ∷ it.0 ≡ record_columns came entry ∷ map (record_columns came) others =
      same_Some _ _ (sym it.1 ∙ has) in (
        entry,
        others,
        refl,
        head_is row (record_columns came entry) it.0 (map (record_columns came) others) rows,
        ap (λ (v : View). v.cursors PASS) it.2
            ∙ ap Some (rest_is row (record_columns came entry) it.0 (map (record_columns came) others) rows),
      )
  takes_first false [] it has = (refl, ap (λ (v : View). v.cursors PASS) it.1 ∙ has)
  takes_first false (entry ∷ others) it has =
      absurd (none_there (record_columns came entry) (map (record_columns came) others)
      (same_Some _ _ (sym has ∙ it.0)))

-- so it does of any records
pub takes_next : (old new : View) (row : Row) (there : Bool) → Advances old new PASS row there
    → TakesNext old new row there
takes_next old new row there it came left has = takes_first old new row came there left it has
