-- Trees that hold the tables hold changed ones, where the rows of the changed table are rewritten.
use Rattle.std.proofs.Common.{◌≡◌, ◌≢◌, ◌∙◌, ℕ, zero, suc, List, [], ◌∷◌, false, map}
use Rattle.std.proofs.Common.{arith, subst}
use Rattle.std.specs.Prelude.{◌==◌}
use Rattle.std.proofs.lemmas.Bool.Decides.{nat_tests}
use Rattle.std.specs.FinMap.{FinMap, entries, insert}
use Rattle.std.specs.declared.cmp.Ordering.{Ordering}
use Rattle.sqlite_trees.specs.Tree.{Trees}
use Rattle.sqlite_trees.specs.View.{View}
use Rattle.sqlite_value.specs.Order.{Row}
use Rattle.table_model.specs.Tables.{Tables}
use Rattle.tree_rows.specs.Layouts.{Layout, row_of, rows_of}
use Rattle.tree_rows.specs.Rows.{Puts}
use Rattle.tree_rows.proofs.Keyed.{rows_put}
use Rattle.tree_tables.specs.Columns.{book_columns, tariff_columns, closed_columns}
use Rattle.tree_tables.specs.Columns.{record_columns, day_columns, line_columns}
use Rattle.tree_tables.specs.Columns.{identity_columns, mark_columns, choice_columns}
use Rattle.tree_tables.specs.Columns.{choice_name_columns, credit_columns, detail_columns}
use Rattle.tree_tables.specs.Columns.{replaced_columns}
use Rattle.tree_tables.specs.JournalColumns.{journal_columns}
use Rattle.tree_tables.specs.Holds.{AreUnderOwnKeys, Holds, choice_name_index, detail_index}
use Rattle.tree_tables.specs.Holds.{identity_index, marks}
use Rattle.tree_tables.specs.Steps.{Always, Changes}

-- the rows of the trees that hold the tables, from the first tree on
abbrev pub table_rows : Tables → List (List Row)
table_rows tables =
    (book_columns tables.book ∷ []) ∷ map tariff_columns (entries tables.tariffs)
    ∷ map closed_columns (entries tables.closes) ∷ map (record_columns tables.came) (entries tables.records)
    ∷ map day_columns (entries tables.days) ∷ map line_columns (entries tables.lines)
    ∷ map identity_columns (entries (identity_index tables.records))
    ∷ map mark_columns (entries (marks tables.records))
    ∷ map choice_columns (entries tables.choices)
    ∷ map choice_name_columns (entries (choice_name_index tables.choices))
    ∷ map detail_columns (entries (detail_index tables.counted tables.records))
    ∷ map credit_columns (entries tables.credits)
    ∷ map replaced_columns (entries tables.replaced)
    ∷ map journal_columns (entries tables.journal) ∷ []

-- each tree but one has the rows that it had
abbrev pub SameBut : Trees → Trees → ℕ → Type 0
SameBut old new tree = (other : ℕ) → other ≢ tree → new other ≡ old other

-- numbers that are written otherwise are others
pub apart : (m n : ℕ) → (m == n) ≡ false → m ≢ n
apart m n other same = grind (arith, nat_tests, other, same)

-- the first trees have these rows, one after the other
abbrev pub EachHas : Trees → List (List Row) → Type 0
EachHas trees [] = Unit {0}
EachHas trees (rows ∷ more) = (trees 0 ≡ rows) × EachHas (λ tree. trees (suc tree)) more

pub record Have (trees : Trees) (all : List (List Row)) : Type 0 where
  pub each : EachHas trees all

-- other rows in the place of those of one tree
abbrev pub with_rows : ℕ → List Row → List (List Row) → List (List Row)
with_rows tree now [] = []
with_rows zero now (rows ∷ more) = now ∷ more
with_rows (suc tree) now (rows ∷ more) = rows ∷ with_rows tree now more

-- trees that are as they were have the rows that they had,
each_still : {old new : Trees} (all : List (List Row)) → ((tree : ℕ) → new tree ≡ old tree)
    → EachHas old all → EachHas new all
each_still [] same have = tt
each_still (rows ∷ more) same have =
    (same 0 ∙ have.0, each_still more (λ tree. same (suc tree)) have.1)

-- and so have all but the one that is rewritten
each_but : {old new : Trees} (tree : ℕ) (all : List (List Row)) {now : List Row}
    → SameBut old new tree → new tree ≡ now → EachHas old all → EachHas new (with_rows tree now all)
each_but tree [] same now have = tt
each_but zero (rows ∷ more) same now have =
    (now, each_still more (λ tree. same (suc tree) (λ is. absurd (cc))) have.1)
each_but (suc tree) (rows ∷ more) same now have = (
  same 0 (λ is. absurd (cc)) ∙ have.0,
  each_but tree more (λ other apart. same (suc other) (λ is. apart (cc))) now have.1,
)

-- Where one tree is rewritten, the trees have other rows there, and elsewhere those that they had.
pub have_but : {old new : Trees} {all others : List (List Row)} {now : List Row} (tree : ℕ)
    → SameBut old new tree → new tree ≡ now → Have old all → with_rows tree now all ≡ others
    → Have new others
have_but {new = new} {all = all} tree same now have is =
    subst (Have new) is (record { each = each_but tree all same now have.each })

-- trees that hold tables have their rows,
pub has_rows : {trees : Trees} {tables : Tables} → Holds trees tables → Have trees (table_rows tables)
has_rows holds = assumption

-- and hold them where they do
pub holds_rows : {trees : Trees} {tables : Tables} → AreUnderOwnKeys tables.days
    → Have trees (table_rows tables) → Holds trees tables
holds_rows placed have = assumption

-- a row that is put under its key into the tree of a table is put into the table
pub table_put : {K V : Type 0} {R : K → K → Ordering} (layout : Layout K V R)
    (table : Tables → FinMap R V) (k : K) (v : V) (change : Tables → Tables) {old new : View}
    {tree : ℕ} {key row : Row} → Puts old new tree key row → key ≡ layout.key k
    → row ≡ row_of layout (k, v)
    → ((tables : Tables) → Holds old.trees tables → old.trees tree ≡ rows_of layout (table tables))
    → ((tables : Tables)
    → with_rows tree (rows_of layout (insert (table tables) k v)) (table_rows tables)
    ≡ table_rows (change tables))
    → ((tables : Tables) → AreUnderOwnKeys tables.days → AreUnderOwnKeys (change tables).days)
    → Changes old new Always change
table_put layout table k v change {tree = tree} puts key_is row_is reads changes stays = record {
  only = puts.rewrites.only;
  made = λ tables holds when. holds_rows (stays tables holds.placed) (have_but tree puts.rewrites.others
      (rows_put layout (table tables) k v puts (reads tables holds) key_is row_is) (has_rows holds)
      (changes tables));
}
