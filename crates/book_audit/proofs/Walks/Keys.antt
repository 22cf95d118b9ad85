-- A walk by key reads the rows one by one, where each is after the one before.
use Rattle.std.proofs.Common.{◌≡◌, ◌≢◌, ◌∙◌, ◌++◌, ◌∷◌, [], ℕ, ◌≤◌, ◌<◌, List, true, cond, ap}
use Rattle.std.proofs.Common.{arith, drop, length, refl, sym, subst, take, true≢false, append_assoc}
use Rattle.std.proofs.Common.{is_eq, is_gt, is_lt, Ordering, Less, Equal, Greater, length-take-le}
use Rattle.std.proofs.Common.{take-append-drop, ◌==◌, Bool, false}
use Rattle.sqlite_trees.specs.Tree.{from_key}
use Rattle.sqlite_trees.proofs.ListLemmas.{all-append, ascending-append}
use Rattle.sqlite_trees.proofs.TreeLemmas.{above}
use Rattle.sqlite_value.specs.Keys.{plain, prefix_cmp}
use Rattle.sqlite_value.specs.Order.{Row, row_cmp}
use Rattle.sqlite_value.proofs.OrderLemmas.{row_cmp_total}
use Rattle.book_model.proofs.Std.{AllByRecursion, tied_itself}
use Rattle.tree_rows.specs.Rows.{IsFirst, past_key}
use Rattle.tree_rows.proofs.Maps.{prefix_of}
use Rattle.tree_tables.specs.Walks.{rows_past}
use Rattle.book_audit.specs.declared.finding.Tree.{Tree}
use Rattle.book_audit.specs.declared.finding.Tree.TheVariants.{Book, ChoiceNames, Choices, Closes}
use Rattle.book_audit.specs.declared.finding.Tree.TheVariants.{Days, Details, Identities, Lines}
use Rattle.book_audit.specs.declared.finding.Tree.TheVariants.{Credits, Marks, Records, Replaced}
use Rattle.book_audit.specs.declared.finding.Tree.TheVariants.{Journal, Tariffs}
use Rattle.book_audit.specs.Walks.{AreRising, AreWide, HasWalked, IsWide, key_in, key_width}
use Rattle.book_audit.specs.Walks.{last_key, width}

-- two numbers of columns are at least one
either_wide : (b : Bool) (longer shorter : ℕ) → 1 ≤ longer → 1 ≤ shorter → 1 ≤ cond b longer shorter
either_wide true longer shorter one other = one
either_wide false longer shorter one other = other

-- a key is the first columns of a row, and at least one
within : (tree : Tree) (found : ℕ) → key_width tree ≤ width tree found
within Book found = omega arith
within Tariffs found = omega arith
within Closes found = omega arith
within Records found = either_wide (found == 12) 12 11 (omega arith) (omega arith)
within Days found = omega arith
within Lines found = omega arith
within Identities found = omega arith
within Marks found = omega arith
within Choices found = omega arith
within ChoiceNames found = omega arith
within Details found = omega arith
within Credits found = omega arith
within Replaced found = omega arith
within Journal found = either_wide (found == 20) 20 7 (omega arith) (omega arith)

some : (tree : Tree) → 0 < key_width tree
some Book = omega arith
some Tariffs = omega arith
some Closes = omega arith
some Records = omega arith
some Days = omega arith
some Lines = omega arith
some Identities = omega arith
some Marks = omega arith
some Choices = omega arith
some ChoiceNames = omega arith
some Details = omega arith
some Credits = omega arith
some Replaced = omega arith
some Journal = omega arith

-- over a key of so many columns, a row compares by its first columns
prefix_is : (n : ℕ) (row key : Row) → n ≤ length row → length key ≡ n
    → prefix_cmp plain row key ≡ row_cmp (take n row) key
prefix_is n row key long same =
    ap (λ r. prefix_cmp plain r key) (sym (take-append-drop n row))
    ∙ prefix_of (take n row) (drop n row) key (length-take-le n row long ∙ sym same)

-- rows below a key are passed
passes : (key : Row) (done rest : List Row)
    → AllByRecursion (λ row. prefix_cmp plain row key ≡ Less) done
    → from_key plain key (done ++ rest) ≡ from_key plain key rest
passes key [] rest all = refl
passes key (row ∷ done) rest all =
    ap (λ o. cond (is_lt o) (from_key plain key (done ++ rest)) (row ∷ done ++ rest)) all.0
    ∙ passes key done rest all.1

-- the row that has the key is passed with them
stops : (key row : Row) (rest : List Row) → prefix_cmp plain row key ≡ Equal
    → past_key key (from_key plain key (row ∷ rest)) ≡ rest
stops key row rest is =
    ap (λ o. past_key key (cond (is_lt o) (from_key plain key rest) (row ∷ rest))) is
    ∙ ap (λ o. cond (is_eq o) rest (row ∷ rest)) is

-- the rows past a key that has columns
past_is : (key : Row) (rows : List Row) → 0 < length key
    → rows_past key rows ≡ past_key key (from_key plain key rows)
past_is [] rows long = absurd (omega (arith, long))
past_is (value ∷ more) rows long = refl

greater : (o : Ordering) → is_gt o ≡ true → o ≡ Greater
greater Less is = absurd (true≢false (sym is))
greater Equal is = absurd (true≢false (sym is))
greater Greater is = refl

-- where each key is above the one before, the key of a later row is above all
behind : (tree : Tree) (done : List Row) (row : Row) → AreRising tree done
    → (done ≢ [] → row_cmp (last_key tree done) (key_in tree row) ≡ Less)
    → AllByRecursion (λ e. row_cmp (key_in tree e) (key_in tree row) ≡ Less) done
behind tree [] row rising last = tt
behind tree (e ∷ []) row rising last = (last (λ none. absurd (cc)), tt)
behind tree (e ∷ next ∷ done) row rising last =
    let later = behind tree (next ∷ done) row rising.1 (λ some. last (λ none. absurd (cc))) in
    (row_cmp_total.trans (key_in tree e) (key_in tree next) (key_in tree row) rising.0.0 later.0, later)

-- the last key has so many columns
last_long : (tree : Tree) (done : List Row) → AreWide tree done → done ≢ []
    → length (last_key tree done) ≡ key_width tree
last_long tree [] wide some = absurd (some refl)
last_long tree (row ∷ []) wide some =
    let few = within tree (length row) in
    let long : length row ≡ width tree (length row) = wide.0 in
    length-take-le (key_width tree) row (omega arith)
last_long tree (row ∷ next ∷ rows) wide some =
    last_long tree (next ∷ rows) wide.1 (λ none. absurd (cc))

last_pushed : (tree : Tree) (done : List Row) (row : Row)
    → last_key tree (done ++ row ∷ []) ≡ key_in tree row
last_pushed tree [] row = refl
last_pushed tree (e ∷ []) row = refl
last_pushed tree (e ∷ next ∷ done) row = last_pushed tree (next ∷ done) row

-- rows that have the tree's columns compare with a key as their keys do
compare_keys : (tree : Tree) (done : List Row) (row : Row) → AreWide tree done
    → length row ≡ width tree (length row)
    → AllByRecursion (λ e. row_cmp (key_in tree e) (key_in tree row) ≡ Less) done
    → AllByRecursion (λ e. prefix_cmp plain e (key_in tree row) ≡ Less) done
compare_keys tree [] row wide long below = tt
compare_keys tree (e ∷ done) row wide long below =
    let few = within tree (length e) in
    let others = within tree (length row) in
    let its : length e ≡ width tree (length e) = wide.0 in (
      prefix_is (key_width tree) e (key_in tree row) (omega arith)
          (length-take-le (key_width tree) row (omega arith)) ∙ below.0,
      compare_keys tree done row wide.1 long below.1,
    )

-- as one row after each
each_below : (tree : Tree) (done : List Row) (row : Row)
    → AllByRecursion (λ e. row_cmp (key_in tree e) (key_in tree row) ≡ Less) done
    → AllByRecursion (λ e. AllByRecursion (λ b. row_cmp (key_in tree e) (key_in tree b) ≡ Less)
    (row ∷ [])) done
each_below tree [] row below = tt
each_below tree (e ∷ done) row below = ((below.0, tt), each_below tree done row below.1)

module _ (tree : Tree) (key row : Row) (rows done : List Row) (so_far : HasWalked tree key rows done)
    (there : IsFirst (rows_past key rows) row true) (long : length row ≡ width tree (length row))
    (after : key ≢ [] → is_gt (prefix_cmp plain row key) ≡ true) where
  own : length (key_in tree row) ≡ key_width tree
  own = let few = within tree (length row) in length-take-le (key_width tree) row (omega arith)

  -- the key is above that of the last row
  last_below : done ≢ [] → row_cmp (last_key tree done) (key_in tree row) ≡ Less
  last_below some_done =
      let some_columns = some tree in
      let few = within tree (length row) in
      let same : length key ≡ key_width tree =
      ap length so_far.place ∙ last_long tree done so_far.wide some_done in
      let has : key ≢ [] = λ none. absurd (omega (arith, some_columns, sym same ∙ ap length none)) in
      let greater_than : row_cmp (key_in tree row) key ≡ Greater =
      sym (prefix_is (key_width tree) row key (omega arith) same) ∙ greater _ (after has) in
      subst (λ k. row_cmp k (key_in tree row) ≡ Less) so_far.place
      (above row_cmp_total (key_in tree row) key greater_than)

  below : AllByRecursion (λ e. row_cmp (key_in tree e) (key_in tree row) ≡ Less) done
  below = behind tree done row so_far.rising last_below

  all_rows : rows ≡ done ++ row ∷ there.0
  all_rows = so_far.left ∙ ap (λ rest. done ++ rest) there.1

  rest_is : rows_past (key_in tree row) rows ≡ there.0
  rest_is =
      let some_columns = some tree in
      let few = within tree (length row) in
      past_is (key_in tree row) rows (omega (arith, own, some_columns))
      ∙ ap (λ all. past_key (key_in tree row) (from_key plain (key_in tree row) all)) all_rows
      ∙ ap (past_key (key_in tree row)) (passes (key_in tree row) done (row ∷ there.0)
      (compare_keys tree done row so_far.wide long below))
      ∙ stops (key_in tree row) row there.0
      (prefix_is (key_width tree) row (key_in tree row) (omega arith) own
      ∙ tied_itself row_cmp_total (key_in tree row))

  -- the walk has read the row
  pub walk_step : HasWalked tree (key_in tree row) rows (done ++ row ∷ [])
  walk_step = record {
    place = sym (last_pushed tree done row);
    left = all_rows ∙ sym (append_assoc done (row ∷ []) (rows_past (key_in tree row) rows)
        ∙ ap (λ rest. done ++ row ∷ rest) rest_is);
    wide = all-append (IsWide tree) done (row ∷ []) so_far.wide (long, tt);
    rising = ascending-append (λ a b. row_cmp (key_in tree a) (key_in tree b) ≡ Less) done (row ∷ [])
        so_far.rising (tt, tt) (each_below tree done row below);
  }
