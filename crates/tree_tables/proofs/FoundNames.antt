-- Records that are found by the names that an index gives.
use Rattle.std.proofs.Common.{◌≡◌, ◌∙◌, ℕ, ◌+◌, ◌-◌, ◌<◌, List, [], ◌∷◌, ◌++◌, Option, Some}
use Rattle.std.proofs.Common.{Bool, map, take, get_or, length, refl, sym, ap}
use Rattle.std.specs.Prelude.{filter}
use Rattle.std.specs.Cmp.Lexicographic.{nat_list_cmp_total}
use Rattle.std.specs.FinMap.{entries, get}
use Rattle.std.specs.List.{All, AllByRecursion, AllZip, flat_map}
use Rattle.std.specs.Option.{option_map, option_to_list}
use Rattle.std.proofs.lemmas.List.Elements.{All-filter, All-from_recursion, recursion_from_All}
use Rattle.sqlite_value.specs.Order.{Row, column}
use Rattle.sqlite_value.specs.declared.value.Value.TheVariants.{Blob}
use Rattle.table_model.specs.Tables.{RecordRow, RecordTable, Tables}
use Rattle.tree_rows.specs.Indexes.{IsKeyOf}
use Rattle.tree_rows.proofs.IndexOrders.{by_bytes_exact}
use Rattle.tree_rows.proofs.RunsRead.{zipped_next}
use Rattle.tree_tables.specs.Answers.{FindsNamed, FindsRecord}
use Rattle.tree_tables.specs.Stored.{stored_entry}
use Rattle.tree_tables.specs.declared.found_names.FoundName.{FoundName}
use Rattle.tree_tables.specs.declared.stored_record.StoredRecord.{StoredRecord}
use Rattle.tree_tables.proofs.RowsRead.{all_entries, same_blob}

-- a record under its name
abbrev pub Entry : Type 0
Entry = List ℕ × RecordRow

-- the names that were found
abbrev pub names_of : List FoundName → List (List ℕ)
names_of names = map (λ (one : FoundName). one.name) names

-- the record of a name, as a list that is empty where there is none
abbrev pub at_name : RecordTable → List ℕ → List Entry
at_name records name =
    option_to_list (option_map (λ (row : RecordRow). (name, row)) (get records name))

-- where one more record is found, the records are those of one more name
pub named_more : (names : List FoundName) (i : ℕ) (default : FoundName) (tables : Tables)
    (all more : List StoredRecord) (one : StoredRecord) → i < length names
    → more ≡ all ++ one ∷ [] → FindsNamed (take i names) tables all
    → FindsRecord (get_or names i default).name tables (Some one)
    → FindsNamed (take (i + 1) names) tables more
named_more names i default tables all more one within more_is so_far found =
    zipped_next (λ (named : FoundName) stored. FindsRecord named.name tables (Some stored)) names i
    default all more one within more_is so_far found

-- the records that were found are those of the names
pub named_found : (names : List FoundName) (tables : Tables) (found : List StoredRecord)
    → FindsNamed names tables found
    → map stored_entry found ≡ flat_map (at_name tables.records) (names_of names)
named_found [] tables [] all = refl
named_found [] tables (one ∷ found) all = absurd all
named_found (named ∷ names) tables [] all = absurd all
named_found (named ∷ names) tables (one ∷ found) all =
    ap (λ rest. stored_entry one ∷ rest) (named_found names tables found all.1)
    ∙ ap (λ (here : Option Entry). option_to_list here
    ++ flat_map (at_name tables.records) (names_of names)) all.0

-- of rows that end in names these names are read
pub names_read : {Q : Type 0} (row : Q → Row) (name : Q → List ℕ)
    → ((q : Q) → column (row q) (length (row q) - 1) ≡ Blob (name q))
    → (qs : List Q) (names : List FoundName)
    → AllZip (λ (one : Row) (found : FoundName). column one (length one - 1) ≡ Blob found.name)
    (map row qs) names
    → names_of names ≡ map name qs
names_read row name is [] [] says = refl
names_read row name is [] (one ∷ names) says = absurd says
names_read row name is (q ∷ qs) [] says = absurd says
names_read row name is (q ∷ qs) (one ∷ names) says =
    let here : one.name ≡ name q = same_blob one.name (name q) (sym says.0 ∙ is q) in
    λ i. here i ∷ names_read row name is qs names says.1 i

-- entries of the table are found by their names
pub entries_named : (records : RecordTable) (es : List Entry)
    → AllByRecursion (λ e. get records e.0 ≡ Some e.1) es
    → flat_map (at_name records) (map (λ e. e.0) es) ≡ es
entries_named records [] each = refl
entries_named records (e ∷ es) each =
    ap (λ found. option_to_list (option_map (λ (row : RecordRow). (e.0, row)) found)
    ++ flat_map (at_name records) (map (λ e. e.0) es)) each.0
    ∙ ap (λ rest. e ∷ rest) (entries_named records es each.1)

-- and where an index gives the names, the keys of the entries that are found are the index's
pub keys_named : {Q : Type 0} (key : Entry → Q) (name : Q → List ℕ) (records : RecordTable)
    (qs : List Q) → AllByRecursion (IsKeyOf key name records) qs
    → map key (flat_map (at_name records) (map name qs)) ≡ qs
keys_named key name records [] each = refl
keys_named key name records (q ∷ qs) each =
    let here = each.0 in
    ap (λ found. map key (option_to_list (option_map (λ (row : RecordRow). (name q, row)) found)
    ++ flat_map (at_name records) (map name qs))) here.1
    ∙ (λ i. here.2 i ∷ keys_named key name records qs each.1 i)

-- the table has each of its entries,
pub entries_had : (records : RecordTable)
    → All (λ (e : Entry). get records e.0 ≡ Some e.1) (entries records)
entries_had records =
    let Had : Entry → Type 0 = λ e. get records e.0 ≡ Some e.1 in
    All-from_recursion Had (entries records)
    (all_entries nat_list_cmp_total by_bytes_exact Had records (λ k v there. there))

-- and so each of those that pass a test
pub some_had : (records : RecordTable) (test : Entry → Bool)
    → AllByRecursion (λ (e : Entry). get records e.0 ≡ Some e.1) (filter test (entries records))
some_had records test =
    let Had : Entry → Type 0 = λ e. get records e.0 ≡ Some e.1 in
    recursion_from_All Had (filter test (entries records))
    (All-filter test Had (entries records) (entries_had records))
