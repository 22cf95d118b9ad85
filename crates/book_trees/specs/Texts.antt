-- The text that a file of books has for each table and index.
use Rattle.std.specs.Prelude.{List, ◌++◌, ℕ, codes}

-- the whole books in one row
abbrev pub book_text : List ℕ
book_text =
    codes "CREATE TABLE book (id INT NOT NULL PRIMARY KEY, rule INT NOT NULL, "
    ++ codes "adopted INT NOT NULL, held INT NOT NULL, amount INT NOT NULL) STRICT, "
    ++ codes "WITHOUT ROWID"

-- the tariffs, by their first days
abbrev pub tariff_text : List ℕ
tariff_text =
    codes "CREATE TABLE tariff (day INT NOT NULL PRIMARY KEY, body TEXT NOT NULL) STRICT, "
    ++ codes "WITHOUT ROWID"

-- the last day of each closed period, by the periods' numbers
abbrev pub closed_text : List ℕ
closed_text =
    codes "CREATE TABLE closed (period INT NOT NULL PRIMARY KEY, through INT NOT NULL) STRICT, "
    ++ codes "WITHOUT ROWID"

-- the records, by their names
abbrev pub record_text : List ℕ
record_text =
    codes "CREATE TABLE record (name BLOB NOT NULL PRIMARY KEY, ident BLOB NOT NULL, "
    ++ codes "data BLOB NOT NULL, day INT NOT NULL, shift TEXT NOT NULL, centre TEXT NOT NULL, "
    ++ codes "cpu INT NOT NULL, blocks INT NOT NULL, amount INT NOT NULL, charged INT NOT NULL, "
    ++ codes "posted INT NOT NULL, came INT NOT NULL DEFAULT 0) STRICT, WITHOUT ROWID"

-- the same in older forms, where no record says by which entry it came
abbrev pub old_record_text : List ℕ
old_record_text =
    codes "CREATE TABLE record (name BLOB NOT NULL PRIMARY KEY, ident BLOB NOT NULL, "
    ++ codes "data BLOB NOT NULL, day INT NOT NULL, shift TEXT NOT NULL, centre TEXT NOT NULL, "
    ++ codes "cpu INT NOT NULL, blocks INT NOT NULL, amount INT NOT NULL, charged INT NOT NULL, "
    ++ codes "posted INT NOT NULL) STRICT, WITHOUT ROWID"

-- the sums for each day, cost centre and shift, in each period
abbrev pub day_sum_text : List ℕ
day_sum_text =
    codes "CREATE TABLE day_sum (period INT NOT NULL, day INT NOT NULL, "
    ++ codes "centre TEXT NOT NULL, shift TEXT NOT NULL, count INT NOT NULL, cpu INT NOT NULL, "
    ++ codes "blocks INT NOT NULL, amount INT NOT NULL, "
    ++ codes "PRIMARY KEY (period, day, centre, shift)) STRICT, WITHOUT ROWID"

-- the adjustments of each period, by the names of their records
abbrev pub line_text : List ℕ
line_text =
    codes "CREATE TABLE line (period INT NOT NULL, name BLOB NOT NULL, plus INT NOT NULL, "
    ++ codes "PRIMARY KEY (period, name)) STRICT, WITHOUT ROWID"

-- the records that were named, by the numbers of the choices
abbrev pub choice_text : List ℕ
choice_text =
    codes "CREATE TABLE choice (number INT NOT NULL PRIMARY KEY, name BLOB NOT NULL, "
    ++ codes "period INT NOT NULL, counts INT NOT NULL) STRICT, WITHOUT ROWID"

-- the same in older forms, where each record that was named counts
abbrev pub old_choice_text : List ℕ
old_choice_text =
    codes "CREATE TABLE choice (number INT NOT NULL PRIMARY KEY, name BLOB NOT NULL, "
    ++ codes "period INT NOT NULL) STRICT, WITHOUT ROWID"

-- the names of records, by their identities
abbrev pub record_ident_text : List ℕ
record_ident_text = codes "CREATE INDEX record_ident ON record (ident)"

-- the names of records, by whether they are charged, and then by their identities
abbrev pub record_charged_text : List ℕ
record_charged_text = codes "CREATE INDEX record_charged ON record (charged, ident)"

-- the choices, by the names of the records that were chosen
abbrev pub choice_name_text : List ℕ
choice_name_text = codes "CREATE INDEX choice_name ON choice (name)"

-- the details: a row for each record that the charge rows of some period count, in their order, then
-- by time and name
abbrev pub detail_text : List ℕ
detail_text =
    codes "CREATE TABLE detail (day INT NOT NULL, centre TEXT NOT NULL, shift TEXT NOT NULL, "
    ++ codes "time INT NOT NULL, name BLOB NOT NULL, job BLOB NOT NULL, program BLOB NOT NULL, "
    ++ codes "job_id BLOB NOT NULL, step INT, cpu INT NOT NULL, blocks INT NOT NULL, "
    ++ codes "amount INT NOT NULL, PRIMARY KEY (day, centre, shift, time, name)) STRICT, "
    ++ codes "WITHOUT ROWID"

-- the credits, by their numbers
abbrev pub credit_text : List ℕ
credit_text =
    codes "CREATE TABLE credit (number INT NOT NULL PRIMARY KEY, period INT NOT NULL, "
    ++ codes "centre TEXT NOT NULL, amount INT NOT NULL, reason TEXT NOT NULL) STRICT, "
    ++ codes "WITHOUT ROWID"

-- the tariffs that were replaced, by their numbers among these
abbrev pub replaced_text : List ℕ
replaced_text =
    codes "CREATE TABLE replaced (number INT NOT NULL PRIMARY KEY, day INT NOT NULL, "
    ++ codes "period INT NOT NULL, body TEXT NOT NULL) STRICT, WITHOUT ROWID"

-- the entries of the journal, by their numbers
abbrev pub journal_text : List ℕ
journal_text =
    codes "CREATE TABLE journal (number INT NOT NULL PRIMARY KEY, time INT NOT NULL, "
    ++ codes "person TEXT NOT NULL, remark TEXT NOT NULL, file TEXT NOT NULL, act TEXT NOT NULL, "
    ++ codes "place INT, digest BLOB, length INT, kept INT, known INT, unpriced INT, other INT, "
    ++ codes "headers INT, trailers INT, lost INT, continued INT, damaged INT, stop TEXT, "
    ++ codes "fault INT) STRICT, WITHOUT ROWID"
