-- By which entry a record comes that is kept, and that an entry is joined as long as its import goes on.
use Rattle.std.proofs.Common.{◌≡◌, ◌∙◌, ◌+◌, ℕ, Bool, List, [], ◌∷◌, None, Option, Some, ap, arith}
use Rattle.std.proofs.Common.{cond, false, if◌then◌else◌, length, nat_cmp, refl, sym, true}
use Rattle.book_model.proofs.Std.{get, insert, option_map_or}
use Rattle.book_model.specs.Words.{Act, Entry, Imported, Importing, Naming, RecordKept, Ruled}
use Rattle.book_model.specs.Words.{change_newest, goes_on, keep_in, name_of}
use Rattle.table_model.specs.JournalRows.{came_changed, newest_number, row_goes_on}
use Rattle.table_model.specs.Steps.{put_came}
use Rattle.table_model.specs.Tables.{CameTable, JournalRow, JournalTable}
use Rattle.table_model.specs.Words.{Tables}
use Rattle.table_model.proofs.JournalChanges.{newest-found, newest-is, row-goes, rows_table}
use Rattle.table_ledger.specs.Groups.{joined_by}
use Rattle.std.specs.FinMap as fin

-- under a test
put_where : (name : List ℕ) (number : ℕ) (some : Tables) (on : Bool)
    → (put_came name (if on then Some number else None) some).came
    ≡ cond on (insert some.came name number) some.came
put_where name number some true = refl
put_where name number some false = refl

-- The record comes by the newest entry, where its import goes on.
pub came_joined : (naming : Naming) (entries : List Entry) (some : Tables) (bytes : List ℕ)
    → (put_came (name_of naming bytes) (joined_by entries) some).came
    ≡ came_changed naming (RecordKept bytes) (rows_table entries) some.came
came_joined naming [] some bytes =
    sym (ap (λ found. cond (option_map_or (λ (row : JournalRow). row_goes_on row.act) found false)
    (insert some.came (name_of naming bytes) (newest_number (rows_table []))) some.came)
    (fin.get-empty nat_cmp (newest_number (rows_table []))))
came_joined naming (entry ∷ older) some bytes =
    let rows : JournalTable = rows_table (entry ∷ older) in
    let came : CameTable = some.came in
    let name : List ℕ = name_of naming bytes in
    let count = newest-is (entry ∷ older) in
    let is : length older + 1 ≡ newest_number rows = omega (arith, count) in
    put_where name (length older + 1) some (goes_on entry.act)
    ∙ (λ i. cond (sym (row-goes entry.act) i) (insert came name (is i)) came)
    ∙ sym (ap (λ found. cond (option_map_or (λ (row : JournalRow). row_goes_on row.act) found false)
    (insert came name (newest_number rows)) came) (newest-found entry older))

-- it goes on as long as records are kept
still_on : (bytes : List ℕ) (act : Act) → goes_on (keep_in bytes act) ≡ goes_on act
still_on bytes (Ruled place) = refl
still_on bytes (Importing reading kept) = refl
still_on bytes (Imported reading ending kept) = refl

pub still_joined : (bytes : List ℕ) (entries : List Entry)
    → joined_by (change_newest (keep_in bytes) entries) ≡ joined_by entries
still_joined bytes [] = refl
still_joined bytes (entry ∷ older) =
    ap (λ on. if on then Some (length older + 1) else None) (still_on bytes entry.act)
