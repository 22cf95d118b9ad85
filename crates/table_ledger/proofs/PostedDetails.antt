-- The details of a period whose records are posted, some at once, and the lines that come before
-- them.
use Rattle.std.proofs.Common.{◌≡◌, ◌∙◌, ◌+◌, ◌<◌, ℕ, ℤ, List, [], ◌∷◌, ◌++◌, ◌&&◌, ◌||◌, Bool, true}
use Rattle.std.proofs.Common.{false, true≢false, cond, not, Option, Some, None, inl, inr, is_some}
use Rattle.std.proofs.Common.{map, refl, sym, ap, subst, take, length, get_or, arith, length-append}
use Rattle.std.proofs.Common.{int_lt, slice_index_or, IsPermutation, option_map}
use Rattle.std.proofs.Math.Bool.{or-true}
use Rattle.std.specs.FinMap.Entries.{is_some-find}
use Rattle.std.proofs.lemmas.List.Sums.{fold-append}
use Rattle.book_model.proofs.Std.{contains_key, get, same_map, list_any, and_parts}
use Rattle.book_model.proofs.Std.{nat_list_cmp_total, map-append, take_more, list_any-append}
use Rattle.book_model.proofs.Std.{list_any-IsPermutation, exact_bytes, map-map}
use Rattle.book_model.specs.Words.{is_after, by_bytes, comes_after, is_asked, is_between}
use Rattle.book_model.proofs.Lemmas.{is, is_itself}
use Rattle.table_model.specs.Words.{FindsLeast, IsDetail, detail_shown, PostsTouched, post_by}
use Rattle.table_model.specs.Words.{post_each, post_row, post_rows, RecordRow, Tables}
use Rattle.table_model.specs.PostedLaws.{is_touched}
use Rattle.table_model.proofs.PostedRows.{post_again, post_stays, posted_found, posted_those}
use Rattle.table_model.proofs.PostedRows.{rest_stays}
use Rattle.tree_tables.proofs.Posting.{posted_shown}
use Rattle.table_ledger.proofs.Words.{Trees, Detail, some_is, ListsLines, Holds, signed_name}
use Rattle.table_ledger.proofs.Words.{StoredLine, seeks, names_in}
use Rattle.table_ledger.specs.Posting.{Gathers, RestIsPosted, days_after}
use Rattle.table_ledger.proofs.CountTestLemmas.{line_listed}
use Rattle.table_ledger.proofs.DetailTries.{after_or_named}
use Rattle.table_ledger.proofs.Walks.{Shows}

-- ---- lines

-- the record of one line more is posted
pub line_posted : (day : ℤ) (lines : List StoredLine) (i : ℕ) (any : StoredLine) (tables : Tables)
    → i < length lines
    → post_row day (slice_index_or lines i any).name
    (post_each day (names_in (take i lines)) tables)
    ≡ post_each day (names_in (take (i + 1) lines)) tables
line_posted day lines i any tables within =
    sym (ap (λ (some : List StoredLine). post_each day (names_in some) tables)
    (take_more lines i any within)
    ∙ ap (λ names. post_each day names tables)
    (map-append (λ (line : StoredLine). line.name) (take i lines) (get_or lines i any ∷ []))
    ∙ fold-append (λ (so_far : Tables) (name : List ℕ). post_row day name so_far) tables
    (names_in (take i lines)) ((get_or lines i any).name ∷ []))

-- and that of one name more
pub name_posted : (day : ℤ) (names : List (List ℕ)) (i : ℕ) (any : List ℕ) (tables : Tables)
    → i < length names
    → post_row day (slice_index_or names i any) (post_each day (take i names) tables)
    ≡ post_each day (take (i + 1) names) tables
name_posted day names i any tables within =
    sym (ap (λ (some : List (List ℕ)). post_each day some tables) (take_more names i any within)
    ∙ fold-append (λ (so_far : Tables) (name : List ℕ). post_row day name so_far) tables
    (take i names) (get_or names i any ∷ []))

-- whatever their order
pub posted_order : (day : ℤ) (names others : List (List ℕ)) (tables : Tables)
    → IsPermutation names others → post_each day others tables ≡ post_each day names tables
posted_order day names others tables same =
    rest_stays day others tables ∙ (λ i. record tables { records = all i })
    ∙ sym (rest_stays day names tables)
  where
    all : (post_each day others tables).records ≡ (post_each day names tables).records
    all = same_map nat_list_cmp_total exact_bytes (post_each day others tables).records
        (post_each day names tables).records (λ q.
        posted_found day others tables q
        ∙ ap (λ among. cond among (option_map (post_by day) (get tables.records q))
        (get tables.records q)) (sym (list_any-IsPermutation (is q) names others same))
        ∙ sym (posted_found day names tables q))

-- a period has a line of a record where its name is among those that are listed
line_there : (period : ℕ) (tables : Tables) (lines : List StoredLine) (name : List ℕ)
    → ListsLines period tables lines
    → contains_key tables.lines (period, name) ≡ list_any (is name) (names_in lines)
line_there period tables lines name lists =
    ap (λ found. is_some found) (sym (line_listed period tables lines name lists))
    ∙ is_some-find by_bytes name (map signed_name lines)
    ∙ ap (list_any (is name))
    (map-map (λ (entry : List ℕ × Bool). entry.0) signed_name lines)

module _ (period : ℕ) (last : Option ℤ) (day : ℤ) (tables : Tables) (lines : List StoredLine)
    (touched : PostsTouched period last tables) (lists : ListsLines period tables lines)
  where
    abbrev line_names : List (List ℕ)
    line_names = names_in lines

    abbrev after_lines : Tables
    after_lines = post_each day line_names tables

    -- a record that was posted is
    was_posted : (row : RecordRow) (had : Option RecordRow)
        → option_map (post_by day) had ≡ Some row → post_by day row ≡ row
    was_posted row None was = cc
    was_posted row (Some one) was =
        let same = some_is (post_by day one) row was in
        ap (post_by day) (sym same) ∙ post_again day one ∙ same

    -- one that has no line, and is not counted, the period does not touch
    untouched : (name : List ℕ) (row : RecordRow) → list_any (is name) line_names ≡ false
        → (is_after last row.priced.day && contains_key after_lines.counted name) ≡ false
        → is_touched period last tables name row ≡ false
    untouched name row out none =
        elim (is_after last row.priced.day) as (λ late. is_after last row.priced.day ≡ late
        → cond late (contains_key tables.counted name) (contains_key tables.lines (period, name))
        ≡ false) [
          | true ↦ λ late.
              sym (ap (λ (all : Tables). contains_key all.counted name)
              (rest_stays day line_names tables))
              ∙ sym (ap (λ b. b && contains_key after_lines.counted name) late) ∙ none
          | false ↦ λ early. line_there period tables lines name lists ∙ out
        ] refl

    by_name : (name : List ℕ) (row : RecordRow) → get after_lines.records name ≡ Some row
        → (is_after last row.priced.day && contains_key after_lines.counted name) ≡ false
        → (among : Bool) → list_any (is name) line_names ≡ among
        → cond among (option_map (post_by day) (get tables.records name)) (get tables.records name)
        ≡ Some row
        → post_by day row ≡ row
    by_name name row found none true among was = was_posted row (get tables.records name) was
    by_name name row found none false out was =
        post_stays day row (touched name row was (untouched name row out none))

    -- So where the records of all lines of the period are posted, those that are counted are left.
    pub rest_posted : RestIsPosted last day after_lines
    rest_posted name row found none =
        by_name name row found none (list_any (is name) line_names) refl
        (sym (posted_found day line_names tables name) ∙ found)

-- ---- details

module _ (day : ℤ) (names : List (List ℕ)) (tables : Tables) (detail : Detail)
    (there : IsDetail tables detail)
  where
    abbrev with_posted : Tables
    with_posted = post_each day names tables

    still_counted : contains_key with_posted.counted detail.name ≡ true
    still_counted =
        ap (λ (all : Tables). contains_key all.counted detail.name) (rest_stays day names tables)
        ∙ there.counted

    by_row : (b : Bool)
        → get with_posted.records detail.name
        ≡ cond b (option_map (post_by day) (get tables.records detail.name))
        (get tables.records detail.name)
        → IsDetail with_posted detail
    by_row true found = record {
      row = post_by day there.row;
      held = found ∙ ap (option_map (post_by day)) there.held;
      counted = still_counted;
      shown = posted_shown day detail.name there.row ∙ there.shown;
    }
    by_row false found = record {
      row = there.row;
      held = found ∙ there.held;
      counted = still_counted;
      shown = there.shown;
    }

    -- a record that is posted has the same detail
    posted_detail : IsDetail with_posted detail
    posted_detail =
        by_row (list_any (is detail.name) names) (posted_found day names tables detail.name)

module _ (last : Option ℤ) (day : ℤ) (passed : Option Detail) where
  -- Of the details of the period those that do not come after one are posted: the trees hold the
  -- tables with the records of some names posted, and theirs are among them.
  pub record PostedSo (tables : Tables) (trees : Trees) : Type 0 where
    pub names : List (List ℕ)
    pub holds : Holds trees (post_each day names tables)
    pub done : (detail : Detail) → IsDetail tables detail
        → is_between last (Some day) detail.priced.day ≡ true
        → comes_after passed detail ≡ false → list_any (is detail.name) names ≡ true

  -- a detail of the period is sought where it comes after the last one
  sought_where : (detail : Detail) → is_between last (Some day) detail.priced.day ≡ true
      → seeks (days_after last day passed) detail ≡ comes_after passed detail
  sought_where detail between =
      ap (λ b. b && (is_asked None detail && comes_after passed detail)) between

  -- where none is left, each record is posted that the period counts, and the others were
  pub posted_all : (tables : Tables) (trees : Trees) → RestIsPosted last day tables
      → PostedSo tables trees
      → Shows trees (λ now. FindsLeast (seeks (days_after last day passed)) now None)
      → Holds trees (post_rows day tables)
  posted_all tables trees rest so_far finds =
      subst (Holds trees) (posted_those day so_far.names tables (λ name row found out.
      left name row found out (is_after last row.priced.day && contains_key tables.counted name)
      refl))
      so_far.holds
    where
      -- none that is dated by the day is left
      none_left : (name : List ℕ) (row : RecordRow) → get tables.records name ≡ Some row
          → list_any (is name) so_far.names ≡ false → is_after last row.priced.day ≡ true
          → contains_key tables.counted name ≡ true → int_lt day row.priced.day ≡ false → ⊥
      none_left name row found out late counted early =
          let detail : Detail = detail_shown (name, row) in
          let there : IsDetail tables detail =
          record { row = row; held = found; counted = counted; shown = refl } in
          let between : is_between last (Some day) row.priced.day ≡ true =
          (λ i. late i && not (early i)) in
          true≢false (sym (so_far.done detail there between
          (sym (sought_where detail between)
          ∙ finds (post_each day so_far.names tables) so_far.holds detail
          (posted_detail day so_far.names tables detail there)))
          ∙ out)

      left : (name : List ℕ) (row : RecordRow) → get tables.records name ≡ Some row
          → list_any (is name) so_far.names ≡ false → (counts : Bool)
          → (is_after last row.priced.day && contains_key tables.counted name) ≡ counts
          → post_by day row ≡ row
      left name row found out false none = rest name row found none
      left name row found out true both =
          let parts = and_parts (is_after last row.priced.day) (contains_key tables.counted name)
          both in
          elim (int_lt day row.priced.day) as (λ late. int_lt day row.priced.day ≡ late
          → cond late row (record row { posted = row.charged }) ≡ row) [
            | true ↦ λ late. refl
            | false ↦ λ early. absurd (none_left name row found out parts.0 parts.1 early)
          ] refl

-- ---- some at once

-- Names are gathered of the details after one, up to another: each of these has its name among
-- them, and there are some where another was passed.
pub record GatheredSo (last : Option ℤ) (day : ℤ) (passed now : Option Detail)
    (names : List (List ℕ)) (tables : Tables) : Type 0 where
  pub among : (detail : Detail) → IsDetail tables detail
      → seeks (days_after last day passed) detail ≡ true → comes_after now detail ≡ false
      → list_any (is detail.name) names ≡ true
  pub none : length names ≡ 0 → now ≡ passed

module _ (last : Option ℤ) (day : ℤ) (passed now : Option Detail) (names : List (List ℕ))
    (tables : Tables) (so_far : GatheredSo last day passed now names tables)
  where
    -- the next one is found
    pub gathered_on : (found : Detail)
        → FindsLeast (seeks (days_after last day now)) tables (Some found)
        → GatheredSo last day passed (Some found) (names ++ found.name ∷ []) tables
    gathered_on found finds = record {
      among = λ detail there wanted behind.
          list_any-append (is detail.name) names (found.name ∷ [])
          ∙ with_it detail there wanted behind (comes_after now detail) refl;
      none = λ none.
          let some = length-append names (found.name ∷ []) in
          absurd (omega (arith, some, none));
    }
      where
        -- one that does not come after it is it, or one of those before
        with_it : (detail : Detail) → IsDetail tables detail
            → seeks (days_after last day passed) detail ≡ true
            → comes_after (Some found) detail ≡ false → (after : Bool)
            → comes_after now detail ≡ after
            → (list_any (is detail.name) names || (is detail.name found.name || false)) ≡ true
        with_it detail there wanted behind false early =
            ap (λ b. b || (is detail.name found.name || false))
            (so_far.among detail there wanted early)
        with_it detail there wanted behind true after =
            elim (after_or_named detail found (finds.least detail there
            (sought_where last day now detail
            (and_parts (is_between last (Some day) detail.priced.day)
            (comes_after passed detail) wanted).0 ∙ after))) [
              | inl later ↦ absurd (true≢false (sym later ∙ behind))
              | inr same ↦
                  ap (λ b. list_any (is detail.name) names || (b || false))
                  (ap (is detail.name) (sym same) ∙ is_itself detail.name)
                  ∙ or-true (list_any (is detail.name) names)
            ]

-- They are posted.
module _ (last : Option ℤ) (day : ℤ) (passed now : Option Detail) (names : List (List ℕ))
    (tables : Tables) (trees : Trees) (so_far : PostedSo last day passed tables trees)
    (gathers : Shows trees (Gathers last day passed now names))
  where
    abbrev before : List (List ℕ)
    before = so_far.names

    abbrev at_found : Tables
    at_found = post_each day before tables

    -- one that does not come after the last of them is one of them, or of those before
    one_among : (detail : Detail) → IsDetail tables detail
        → is_between last (Some day) detail.priced.day ≡ true
        → comes_after now detail ≡ false → (after : Bool) → comes_after passed detail ≡ after
        → (list_any (is detail.name) before || list_any (is detail.name) names) ≡ true
    one_among detail there between behind false early =
        ap (λ b. b || list_any (is detail.name) names) (so_far.done detail there between early)
    one_among detail there between behind true after =
        ap (λ b. list_any (is detail.name) before || b)
        ((gathers at_found so_far.holds).among detail
        (posted_detail day before tables detail there)
        (sought_where last day passed detail between ∙ after) behind)
        ∙ or-true (list_any (is detail.name) before)

    pub posted_on : (later : Trees)
        → Shows trees (λ held. Unit {0} → Holds later (post_each day names held))
        → PostedSo last day now tables later
    posted_on later makes = record {
      names = before ++ names;
      holds = subst (Holds later)
          (sym (fold-append (λ (one : Tables) (name : List ℕ). post_row day name one) tables before
          names))
          (makes at_found so_far.holds tt);
      done = λ detail there between behind.
          list_any-append (is detail.name) before names
          ∙ one_among detail there between behind (comes_after passed detail) refl;
    }
