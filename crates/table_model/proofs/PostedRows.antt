-- Records that are posted by a day one after another, by their names: which rows differ then. Where
-- each row that a close changes is among them, all rows are as the close posts them.
use Rattle.std.proofs.Common.{◌≡◌, ◌∙◌, ℕ, List, [], ◌∷◌, ◌||◌, Bool, true, false, cond, Option}
use Rattle.std.proofs.Common.{Some, None, refl, sym, ap, ℤ, int_lt, option_map}
use Rattle.book_model.proofs.Std.{get, get-insert, same_map, list_any, nat_list_cmp_total}
use Rattle.book_model.proofs.Std.{exact_bytes}
use Rattle.book_model.proofs.Lemmas.{by_tie, is}
use Rattle.table_model.specs.Words.{updated, post_at, post_by, post_each, post_row, post_rows}
use Rattle.table_model.specs.Words.{RecordRow, RecordTable, Tables}
use Rattle.table_model.proofs.MovedLemmas.{get-updated, updated-insert}

module _ (day : ℤ) where
  -- what is posted by a day is posted by it already
  pub post_again : (row : RecordRow) → post_by day (post_by day row) ≡ post_by day row
  post_again row =
      let posted : RecordRow = record row { posted = row.charged } in
      elim (int_lt day row.priced.day) as (λ b. int_lt day row.priced.day ≡ b
      → post_by day (cond b row posted) ≡ cond b row posted) [
        | true ↦ λ is. ap (λ b. cond b row posted) is
        | false ↦ λ is. ap (λ b. cond b posted posted) is
      ] refl

  -- a record that is charged as the last close posted it stays
  pub post_stays : (row : RecordRow) → row.posted ≡ row.charged → post_by day row ≡ row
  post_stays row same =
      elim (int_lt day row.priced.day) as (λ b. cond b row (record row { posted = row.charged }) ≡ row) [
        | true ↦ refl
        | false ↦ λ i. record row { posted = sym same i }
      ]

  -- where one name was posted, its row is another
  post_found : (name : List ℕ) (records : RecordTable) (q : List ℕ)
      → get (post_at day name (get records name) records) q
      ≡ cond (is q name) (option_map (post_by day) (get records q)) (get records q)
  post_found name records q = by_row (get records name) refl
    where
      by_row : (found : Option RecordRow) → get records name ≡ found
          → get (post_at day name found records) q
          ≡ cond (is q name) (option_map (post_by day) (get records q)) (get records q)
      by_row None none =
          by_tie nat_list_cmp_total exact_bytes q name (λ t. get records q)
          (λ t. cond t (option_map (post_by day) (get records q)) (get records q))
          (λ same. let missing = ap (get records) same ∙ none in
          missing ∙ ap (option_map (post_by day)) (sym missing))
          (λ apart. refl)
      by_row (Some row) some =
          get-insert nat_list_cmp_total records name (post_by day row) q
          ∙ by_tie nat_list_cmp_total exact_bytes q name
          (λ t. cond t (Some (post_by day row)) (get records q))
          (λ t. cond t (option_map (post_by day) (get records q)) (get records q))
          (λ same. ap (option_map (post_by day)) (sym (ap (get records) same ∙ some)))
          (λ apart. refl)

  -- and where some were, theirs are
  pub posted_found : (names : List (List ℕ)) (tables : Tables) (q : List ℕ)
      → get (post_each day names tables).records q
      ≡ cond (list_any (is q) names) (option_map (post_by day) (get tables.records q))
      (get tables.records q)
  posted_found [] tables q = refl
  posted_found (name ∷ names) tables q =
      posted_found names (post_row day name tables) q
      ∙ ap (λ found. cond (list_any (is q) names) (option_map (post_by day) found) found)
      (post_found name tables.records q)
      ∙ twice (list_any (is q) names) (is q name) (get tables.records q)
    where
      once_more : (found : Option RecordRow)
          → option_map (post_by day) (option_map (post_by day) found) ≡ option_map (post_by day) found
      once_more None = refl
      once_more (Some row) = ap (λ one. Some one) (post_again row)

      twice : (later now : Bool) (found : Option RecordRow)
          → cond later (option_map (post_by day) (cond now (option_map (post_by day) found) found))
          (cond now (option_map (post_by day) found) found)
          ≡ cond (now || later) (option_map (post_by day) found) found
      twice true true found = once_more found
      twice true false found = refl
      twice false true found = refl
      twice false false found = refl

  -- nothing else is changed
  pub rest_stays : (names : List (List ℕ)) (tables : Tables)
      → post_each day names tables
      ≡ record tables { records = (post_each day names tables).records }
  rest_stays [] tables = refl
  rest_stays (name ∷ names) tables = rest_stays names (post_row day name tables)

  -- so where each of the other rows is posted already, all are posted then
  pub posted_those : (names : List (List ℕ)) (tables : Tables)
      → ((name : List ℕ) (row : RecordRow) → get tables.records name ≡ Some row
      → list_any (is name) names ≡ false → post_by day row ≡ row)
      → post_each day names tables ≡ post_rows day tables
  posted_those names tables others =
      rest_stays names tables ∙ (λ i. record tables { records = all i })
    where
      left : (q : List ℕ) → list_any (is q) names ≡ false → (found : Option RecordRow)
          → get tables.records q ≡ found
          → get tables.records q ≡ option_map (post_by day) (get tables.records q)
      left q out None none = none ∙ ap (option_map (post_by day)) (sym none)
      left q out (Some row) some =
          some ∙ ap (λ one. Some one) (sym (others q row some out))
          ∙ ap (option_map (post_by day)) (sym some)

      either : (q : List ℕ) (among : Bool) → list_any (is q) names ≡ among
          → cond among (option_map (post_by day) (get tables.records q)) (get tables.records q)
          ≡ option_map (post_by day) (get tables.records q)
      either q true among = refl
      either q false out = left q out (get tables.records q) refl

      all : (post_each day names tables).records ≡ updated (post_by day) tables.records
      all = same_map nat_list_cmp_total exact_bytes (post_each day names tables).records
          (updated (post_by day) tables.records) (λ q.
          posted_found names tables q ∙ either q (list_any (is q) names) refl
          ∙ sym (get-updated nat_list_cmp_total exact_bytes (post_by day) tables.records q))

  -- and rows of which some were posted are posted all as the others are
  pub posted_alike : (names : List (List ℕ)) (tables : Tables)
      → post_rows day (post_each day names tables) ≡ post_rows day tables
  posted_alike [] tables = refl
  posted_alike (name ∷ names) tables =
      posted_alike names (post_row day name tables)
      ∙ (λ i. record tables { records = alike (get tables.records name) refl i })
    where
      alike : (found : Option RecordRow) → get tables.records name ≡ found
          → updated (post_by day) (post_at day name (get tables.records name) tables.records)
          ≡ updated (post_by day) tables.records
      alike None none =
          ap (λ found. updated (post_by day) (post_at day name found tables.records)) none
      alike (Some row) some =
          ap (λ found. updated (post_by day) (post_at day name found tables.records)) some
          ∙ updated-insert nat_list_cmp_total exact_bytes (post_by day) tables.records name row
          (post_by day row) some (sym (post_again row))
