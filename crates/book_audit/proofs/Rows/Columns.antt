-- A row is known by its columns, as many as it has; and records, entries of the journal, and choices
-- under their numbers, are known by their rows.
use Rattle.std.proofs.Common.{◌≡◌, ◌∙◌, ◌+◌, ◌++◌, ℕ, suc, [], ◌∷◌, length, refl, ap₂, arith, List}
use Rattle.std.proofs.Common.{ap, map, None, Option, Some, append-nil, length-append, pos, subst, sym}
use Rattle.sqlite_value.specs.Order.{Row, column}
use Rattle.sqlite_value.specs.declared.value.Value.{Value}
use Rattle.sqlite_value.specs.declared.value.Value.TheVariants.{Int}
use Rattle.book_model.specs.Words.{note_shown}
use Rattle.book_model.specs.declared.note.Note.{Note as StoredNote}
use Rattle.table_model.specs.Words.{ChoiceRow, RecordRow, under_numbers}
use Rattle.tree_tables.specs.Columns.{came_columns, choice_columns, record_front}
use Rattle.tree_tables.specs.EntriesRead.{SaysAct, SaysEntry, SaysNote}
use Rattle.tree_tables.specs.JournalColumns.{entry_given, entry_stored, journal_columns}
use Rattle.tree_tables.specs.Stored.{stored_entry}
use Rattle.tree_tables.specs.declared.entry_rows.StoredAct.{StoredAct}
use Rattle.tree_tables.specs.declared.entry_rows.StoredAct.TheVariants as stored
use Rattle.tree_tables.specs.declared.entry_rows.StoredEntry.{StoredEntry}
use Rattle.tree_tables.specs.declared.stored_record.StoredRecord.{StoredRecord}
use Rattle.tree_tables.proofs.LineRows.{same_flag}
use Rattle.tree_tables.proofs.RowsRead.{same_blob, same_count, same_int, same_text}
use Rattle.book_audit.specs.Journal.{IsWhole}
use Rattle.book_audit.specs.Records.{SaysCame, SaysRecord, row_with}

-- the columns from one on are these values
abbrev pub HasColumns : Row → ℕ → Row → Type 0
HasColumns row at [] = Unit {0}
HasColumns row at (value ∷ values) = (column row at ≡ value) × HasColumns row (suc at) values

-- the columns behind the first
behind_first : (first : _) (row : Row) (at : ℕ) (values : Row) → HasColumns (first ∷ row) (suc at) values
    → HasColumns row at values
behind_first first row at [] has = tt
behind_first first row at (value ∷ values) has = (has.0, behind_first first row (suc at) values has.1)

pub row_is : (row values : Row) → length row ≡ length values → HasColumns row 0 values → row ≡ values
row_is [] [] long has = refl
row_is [] (value ∷ values) long has = absurd (omega (arith, long))
row_is (first ∷ row) [] long has = absurd (omega (arith, long))
row_is (first ∷ row) (value ∷ values) long has =
    ap₂ (λ one more. one ∷ more) has.0
    (row_is row values (omega (arith, long)) (behind_first first row 0 values has.1))

-- one column more
column_more : (row values : Row) (value : Value) (at last : ℕ) → last ≡ length values + at
    → HasColumns row at values → column row last ≡ value → HasColumns row at (values ++ value ∷ [])
column_more row [] value at last place has is =
    let same : last ≡ at = omega (arith, place) in
    (subst (λ n. column row n ≡ value) same is, tt)
column_more row (one ∷ values) value at last place has is =
    (has.0, column_more row values value (suc at) last (omega (arith, place)) has.1 is)

-- the columns of a record, and behind them the number of an entry, or nothing
with_came : (row front : Row) (came : Option ℕ) → length front ≡ 11 → SaysCame row came
    → HasColumns row 0 front → row ≡ front ++ came_columns came
with_came row front None long says has =
    row_is row front (says ∙ sym long) has ∙ sym (append-nil front)
with_came row front (Some number) long says has =
    let wide = says.0 in
    let more = length-append front (Int (pos number) ∷ []) in
    row_is row (front ++ Int (pos number) ∷ []) (omega (arith, wide, long, more))
    (column_more row front (Int (pos number)) 0 11 (omega (arith, long)) has says.1)

-- a row that says a record, and by which entry it came, is the record's
pub arrived_is : (row : Row) (stored : StoredRecord) (came : Option ℕ) → SaysRecord row stored
    → SaysCame row came → row ≡ row_with (stored_entry stored) came
arrived_is row stored came says how =
    let price = says.price in
    with_came row (record_front (stored_entry stored)) came refl how (
      says.name,
      (
        says.identity,
        (
          says.data_bytes,
          (
            price.day,
            (
              price.shift,
              (
                price.centre,
                (price.cpu, (price.excp, (price.amount, (says.charged, (says.posted, tt))))),
              ),
            ),
          ),
        ),
      ),
    )

-- a row that says an entry, and has no other columns, is the entry's
entry_with : (row : Row) (number : ℕ) (note : StoredNote) (act : StoredAct)
    → column row 0 ≡ Int (pos number) → SaysNote row note → SaysAct row act → IsWhole row act
    → row ≡ journal_columns (number, entry_given (note_shown note) act)
entry_with row number note (stored.Ruling place) at said says whole =
    row_is row (journal_columns (number, entry_given (note_shown note) (stored.Ruling place))) whole
    (at, (said.time, (said.person, (said.remark, (said.file, (says.0, (says.1, tt)))))))
entry_with row number note (stored.Import reading ending kept) at said says whole =
    let read = says.read in
    row_is row (journal_columns (number, entry_given (note_shown note) (stored.Import reading ending kept)))
    whole.0 (
      at,
      (
        said.time,
        (
          said.person,
          (
            said.remark,
            (
              said.file,
              (
                says.word,
                (
                  whole.1,
                  (
                    read.digest,
                    (
                      read.length,
                      (
                        says.count,
                        (
                          read.known,
                          (
                            read.unpriced,
                            (
                              read.other,
                              (
                                read.headers,
                                (
                                  read.trailers,
                                  (
                                    read.lost,
                                    (
                                      read.continued,
                                      (
                                        read.damaged,
                                        (
                                          says.stop,
                                          (
                                            says.fault,
                                            tt,
                                          ),
                                        ),
                                      ),
                                    ),
                                  ),
                                ),
                              ),
                            ),
                          ),
                        ),
                      ),
                    ),
                  ),
                ),
              ),
            ),
          ),
        ),
      ),
    )

pub entry_is : (row : Row) (number : ℕ) (entry : StoredEntry) → column row 0 ≡ Int (pos number)
    → SaysEntry row entry → IsWhole row entry.act → row ≡ journal_columns (number, entry_stored entry)
entry_is row number entry at says whole =
    entry_with row number entry.note entry.act at says.note says.act whole

-- a record is known by its row, whether it came by an entry or not
pub one_record : (e f : List ℕ × RecordRow) (came other : Option ℕ)
    → row_with e came ≡ row_with f other → e ≡ f
one_record e f came other same =
    let at : (n : ℕ) → column (row_with e came) n ≡ column (row_with f other) n =
    λ n. ap (λ (r : Row). column r n) same in
    λ i. (
      same_blob e.0 f.0 (at 0) i,
      record {
        identity = same_blob e.1.identity f.1.identity (at 1) i;
        data_bytes = same_blob e.1.data_bytes f.1.data_bytes (at 2) i;
        priced = record {
          day = same_int e.1.priced.day f.1.priced.day (at 3) i;
          shift = same_text e.1.priced.shift f.1.priced.shift (at 4) i;
          centre = same_text e.1.priced.centre f.1.priced.centre (at 5) i;
          cpu = same_count e.1.priced.cpu f.1.priced.cpu (at 6) i;
          excp = same_count e.1.priced.excp f.1.priced.excp (at 7) i;
          amount = same_count e.1.priced.amount f.1.priced.amount (at 8) i;
        };
        charged = same_flag e.1.charged f.1.charged (at 9) i;
        posted = same_flag e.1.posted f.1.posted (at 10) i;
      },
    )

-- a choice's row says its number, its record's name, whether it counts, and its period
pub same_choice : (number other : ℕ) (one two : ChoiceRow)
    → choice_columns (number, one) ≡ choice_columns (other, two) → (number ≡ other) × (one ≡ two)
same_choice number other one two same =
    let name : one.name ≡ two.name = same_blob one.name two.name (ap (λ (r : Row). column r 1) same) in
    let counts : one.counts ≡ two.counts =
    same_flag one.counts two.counts (ap (λ (r : Row). column r 3) same) in
    let period : one.period ≡ two.period =
    same_count one.period two.period (ap (λ (r : Row). column r 2) same) in (
      same_count number other (ap (λ (r : Row). column r 0) same),
      λ i. record { name = name i; counts = counts i; period = period i },
    )

-- values under numbers are as many,
pub long_numbers : {V : Type 0} (n : ℕ) (vs : List V) → length (under_numbers n vs) ≡ length vs
long_numbers n [] = refl
long_numbers n (v ∷ vs) = ap suc (long_numbers (suc n) vs)

-- and known by their rows, where each is by its own
pub same_values : {V : Type 0} (columns : ℕ × V → Row)
    → ((n : ℕ) (a b : V) → columns (n, a) ≡ columns (n, b) → a ≡ b) → (n : ℕ) (one other : List V)
    → map columns (under_numbers n one) ≡ map columns (under_numbers n other) → one ≡ other
same_values columns value n [] [] same = refl
same_values columns value n [] (b ∷ other) same = absurd (let e = same in cc)
same_values columns value n (a ∷ one) [] same = absurd (let e = same in cc)
same_values columns value n (a ∷ one) (b ∷ other) same =
    let row : columns (n, a) ≡ columns (n, b) = (let e = same in cc) in
    let rest : map columns (under_numbers (suc n) one) ≡ map columns (under_numbers (suc n) other) =
    (let e = same in cc) in
    λ i. value n a b row i ∷ same_values columns value (suc n) one other rest i
