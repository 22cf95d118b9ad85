-- What was read of a run so far, and what it says at the end.
use Rattle.std.proofs.Common.{◌≡◌, ℕ, ◌<◌, ◌≤◌, List, [], ◌∷◌, ◌++◌, length, take, Some}
use Rattle.std.proofs.Common.{true, false, cond, take_while, slice_index_or, ◌+◌}
use Rattle.std.proofs.Common.{refl, sym, ap, subst, ◌∙◌, arith, append_assoc}
use Rattle.std.specs.List.{AllZip}
use Rattle.std.proofs.Math.Seq.{take-append_seam}
use Rattle.std.proofs.lemmas.List.{append-nil, length-take, take_all, take_more}
use Rattle.std.proofs.lemmas.List.Sums.{take_while-cons}
use Rattle.std.proofs.lemmas.Option.{same_Some}
use Rattle.std.proofs.lemmas.Slice.Zip.{all_zipped_more, AllZip-long}
use Rattle.sqlite_trees.specs.Tree.{from_key}
use Rattle.sqlite_trees.specs.View.{View, Advances, with_cursor}
use Rattle.sqlite_value.specs.Keys.{plain}
use Rattle.sqlite_value.specs.Order.{Row}
use Rattle.tree_rows.specs.Runs.{has_part, run_of}
use Rattle.tree_rows.specs.declared.listing.TheConstants.{LIST}

-- one more value of a list is read
pub zipped_next : {A B : Type 0} (Says : A → B → Type 0) (rows : List A) (at : ℕ) (default : A)
    (values more : List B) (value : B) → at < length rows → more ≡ values ++ value ∷ []
    → AllZip Says (take at rows) values → Says (slice_index_or rows at default) value
    → AllZip Says (take (at + 1) rows) more
zipped_next Says rows at default values more value within more_is so_far says =
    let next = slice_index_or rows at default in
    subst (λ front. AllZip Says front more) (sym (take_more rows at default within))
    (subst (AllZip Says (take at rows ++ next ∷ [])) (sym more_is)
    (all_zipped_more Says (take at rows) values next value so_far says))

-- where the values are fewer than were asked for, they are those of all rows
pub all_read : {A : Type 0} (says : Row → A → Type 0) (rows : List Row) (all : List A) (most : ℕ)
    → AllZip says (take most rows) all → length all < most → AllZip says rows all
all_read says rows all most read few =
    let long : length rows ≤ most =
    omega (arith, AllZip-long says (take most rows) all read, length-take most rows, few) in
    subst (λ front. AllZip says front all) (take_all most rows long) read

module _ {A : Type 0} (says : Row → A → Type 0) (part : Row) (rows : List Row) where
  -- the values so far are those of the start of the run, and the cursor has the rest of the run
  pub record HasRead (now : View) (all : List A) : Type 0 where
    pub done : List Row
    pub left : List Row
    pub cursor : now.cursors LIST ≡ Some left
    pub run : run_of part rows ≡ done ++ take_while (has_part part) left
    pub read : AllZip says done all

  -- nothing is read yet, and the cursor is placed
  pub starts : (old now : View) → now ≡ with_cursor old LIST (from_key plain part rows)
      → HasRead now []
  starts old now placed = record {
    done = [];
    left = from_key plain part rows;
    cursor = ap (λ (v : View). v.cursors LIST) placed;
    run = refl;
    read = tt;
  }

  -- what is left of the run where the cursor's next row is known
  next_is : (old new : View) (row : Row) (all : List A) (so_far : HasRead old all)
      → (it : Advances old new LIST row true)
      → take_while (has_part part) so_far.left
      ≡ cond (has_part part row) (row ∷ take_while (has_part part) it.0) []
  next_is old new row all so_far it =
      let left : so_far.left ≡ row ∷ it.0 = same_Some _ _ (sym so_far.cursor ∙ it.1) in
      ap (take_while (has_part part)) left ∙ take_while-cons (has_part part) row it.0

  -- a row of the run is read
  pub reads_on : (old new : View) (row : Row) (all : List A) (one : A) → HasRead old all
      → Advances old new LIST row true → has_part part row ≡ true → says row one
      → HasRead new (all ++ one ∷ [])
  reads_on old new row all one so_far it begins is =
      let rest : List Row = take_while (has_part part) it.0 in
      record {
        done = so_far.done ++ row ∷ [];
        left = it.0;
        cursor = ap (λ (v : View). v.cursors LIST) it.2;
        run = so_far.run
            ∙ ap (λ more. so_far.done ++ more) (next_is old new row all so_far it
            ∙ ap (λ b. cond b (row ∷ rest) []) begins)
            ∙ sym (append_assoc so_far.done (row ∷ []) rest);
        read = all_zipped_more says so_far.done all row one so_far.read is;
      }

  -- as many values as are asked for are read
  pub ends_full : (now : View) (all : List A) (most : ℕ) → HasRead now all → most ≤ length all
      → length all ≤ most → AllZip says (take most (run_of part rows)) all
  ends_full now all most so_far full few =
      let rest : List Row = take_while (has_part part) so_far.left in
      let long : most ≡ length so_far.done =
      omega (arith, AllZip-long says so_far.done all so_far.read, full, few) in
      let front : take most (run_of part rows) ≡ so_far.done =
      ap (take most) so_far.run ∙ ap (λ n. take n (so_far.done ++ rest)) long
      ∙ take-append_seam so_far.done rest in
      subst (λ front. AllZip says front all) (sym front) so_far.read

  -- the run ends with what was read
  ends : (now : View) (all : List A) (most : ℕ) (so_far : HasRead now all)
      → take_while (has_part part) so_far.left ≡ [] → length all ≤ most
      → AllZip says (take most (run_of part rows)) all
  ends now all most so_far none few =
      let whole : run_of part rows ≡ so_far.done =
      so_far.run ∙ ap (λ more. so_far.done ++ more) none ∙ append-nil so_far.done in
      let long : length so_far.done ≤ most =
      omega (arith, AllZip-long says so_far.done all so_far.read, few) in
      let front : take most (run_of part rows) ≡ so_far.done =
      ap (take most) whole ∙ take_all most so_far.done long in
      subst (λ front. AllZip says front all) (sym front) so_far.read

  -- the tree has no more rows
  pub ends_with_rows : (old new : View) (row : Row) (all : List A) (most : ℕ) → HasRead old all
      → Advances old new LIST row false → length all ≤ most
      → AllZip says (take most (run_of part rows)) all
  ends_with_rows old new row all most so_far it =
      let left : so_far.left ≡ [] = same_Some _ _ (sym so_far.cursor ∙ it.0) in
      ends old all most so_far (ap (take_while (has_part part)) left)

  -- the next row begins with other columns
  pub ends_before : (old new : View) (row : Row) (all : List A) (most : ℕ) → HasRead old all
      → Advances old new LIST row true → has_part part row ≡ false → length all ≤ most
      → AllZip says (take most (run_of part rows)) all
  ends_before old new row all most so_far it other =
      ends old all most so_far (next_is old new row all so_far it
      ∙ ap (λ b. cond b (row ∷ take_while (has_part part) it.0) []) other)
