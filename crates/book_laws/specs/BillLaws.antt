-- The laws of bills: a bill splits what the statement and the adjustments show, the bills of all
-- centres add up to the office's, a bill has the tariffs of its prices, each of them in force in the
-- period, and the periods of its lines, the two amounts that are held back bound what records cost
-- that are taken one of each dispute, and the bill of a closed period stays.
use Rattle.std.specs.Prelude.{◌≡◌, ℕ, ◌+◌, ◌≤◌, ℤ, pos, ◌+ℤ◌, ◌-ℤ◌, List, [], ◌∷◌, ◌++◌, map}
use Rattle.std.specs.Prelude.{sum_by, All, Contains, IsSome, Option, Some, None, true}
use Rattle.book_model.specs.declared.bill.BilledTariff.{BilledTariff}
use Rattle.book_model.specs.declared.bill.HeldBack.{HeldBack}
use Rattle.book_model.specs.declared.dispute.Variant.{Variant}
use Rattle.book_model.specs.declared.line.Line.{Line}
use Rattle.book_model.specs.declared.row.ChargeRow.{ChargeRow}
use Rattle.book_model.specs.Words.{BillSeen, Book, Disputed, Event, IsMadeByCalls, IsSound, Naming}
use Rattle.book_model.specs.Words.{Period, Rulings, Terms, after_all, amount_for, bill_of}
use Rattle.book_model.specs.Words.{bill_outcome, book_after, day_of, has, held_back_in, in_force}
use Rattle.book_model.specs.Words.{is_day_of, lines_of, period_of, rows_for, tariff_by}
use Rattle.report_texts.specs.Centres.{lines_of_centre, rows_of_centre}
use Rattle.report_texts.specs.Charges.{all_charges, centres_on, charged_in, charges_on, plain_lines}
use Rattle.report_texts.specs.Charges.{taken_in}
use Rattle.report_texts.specs.declared.charges.Charges.{Charges}
use Rattle.table_model.specs.Readable.{IsReadable}
use Rattle.book_laws.specs.ClosedPeriods.{IsClosed}
use Rattle.book_model.specs.MadeByCalls.{AreMadeOf}

-- of charge rows, those of the centre that is named, or all of them where none is
abbrev pub rows_asked : Option (List ℕ) → List ChargeRow → List ChargeRow
rows_asked None rows = rows
rows_asked (Some centre) rows = rows_of_centre centre rows

-- of adjustment lines, likewise
abbrev pub lines_asked : Option (List ℕ) → List Line → List Line
lines_asked None lines = lines
lines_asked (Some centre) lines = lines_of_centre centre lines

-- A bill splits rows: its steps and its jobs together are as many as these count, with their CPU
-- times, their blocks and their amounts. Its lines are these lines.
pub record Splits (bill : BillSeen) (rows : List ChargeRow) (lines : List Line) : Type 0 where
  pub count : sum_by (λ row. row.count) bill.steps + sum_by (λ row. row.count) bill.jobs
      ≡ sum_by (λ row. row.count) rows
  pub cpu : sum_by (λ row. row.cpu) bill.steps + sum_by (λ row. row.cpu) bill.jobs
      ≡ sum_by (λ row. row.cpu) rows
  pub blocks : sum_by (λ row. row.blocks) bill.steps + sum_by (λ row. row.blocks) bill.jobs
      ≡ sum_by (λ row. row.blocks) rows
  pub amount : sum_by (λ row. row.amount) bill.steps + sum_by (λ row. row.amount) bill.jobs
      ≡ sum_by (λ row. row.amount) rows
  pub adjustments : plain_lines bill.lines ≡ lines

-- In sound books the bill of a period, for a centre or for the office, splits the rows of the period's
-- statement, and has the lines of its adjustments.
abbrev pub BillsSplitStatements : Type 0
BillsSplitStatements =
    (naming : Naming) (book : Book) (number : ℕ) (period : Period) (centre : Option (List ℕ))
    → IsSound naming book
    → period_of book number ≡ Some period
    → Splits (bill_of naming book number centre period)
    (rows_asked centre (rows_for book.rulings period.counted))
    (lines_asked centre (lines_of naming book.rulings period))

-- what is owed for charges, and for several together
abbrev pub owed_for : Charges → ℤ
owed_for charges = pos (charged_in charges) -ℤ pos (taken_in charges)

abbrev pub owed_for_all : List Charges → ℤ
owed_for_all [] = pos 0
owed_for_all (charges ∷ others) = owed_for charges +ℤ owed_for_all others

-- several charges add up to one
pub record AddUpTo (shares : List Charges) (all : Charges) : Type 0 where
  pub steps : sum_by (λ share. share.steps) shares ≡ all.steps
  pub jobs : sum_by (λ share. share.jobs) shares ≡ all.jobs
  pub late : sum_by (λ share. share.late) shares ≡ all.late
  pub reversed : sum_by (λ share. share.reversed) shares ≡ all.reversed
  pub credited : sum_by (λ share. share.credited) shares ≡ all.credited
  pub debited : sum_by (λ share. share.debited) shares ≡ all.debited
  pub owed : owed_for_all shares ≡ owed_for all

-- The bill of each centre charges what the bill of the office, with its rows, lines and credits, says
-- that the centre is charged; and over the centres that the office's bill names, these add up to what
-- it charges.
pub record AreSharesOf (of_centre : List ℕ → BillSeen) (office : BillSeen) : Type 0 where
  pub each : (centre : List ℕ) → all_charges (of_centre centre) ≡ (charges_on office centre).charges
  pub all : AddUpTo (map (λ centre. all_charges (of_centre centre)) (centres_on office))
      (all_charges office)

-- So it is with the bills of each period.
abbrev pub BillsAddUp : Type 0
BillsAddUp =
    (naming : Naming) (book : Book) (number : ℕ) (period : Period)
    → AreSharesOf (λ centre. bill_of naming book number (Some centre) period)
    (bill_of naming book number None period)

-- In books that can be read back a bill has, with its rates, the tariff that is in force on the day of
-- each record that the period counts, by which the record has its price.
abbrev pub BilledTariffsPrice : Type 0
BilledTariffsPrice =
    (naming : Naming) (book : Book) (number : ℕ) (period : Period) (centre : Option (List ℕ))
    (bytes : List ℕ) (terms : Terms)
    → IsReadable naming book
    → period_of book number ≡ Some period
    → has period.counted bytes ≡ true
    → in_force (day_of bytes) book.rulings.tariffs ≡ Some terms
    → Contains (bill_of naming book number centre period).tariffs
    (tariff_by terms.effective terms)

-- a tariff is in force on a day of the period of that number, and these are its rates
pub record IsInForceIn (number : ℕ) (rulings : Rulings) (billed : BilledTariff) : Type 0 where
  pub day : ℤ
  pub terms : Terms
  pub its_day : is_day_of number rulings day ≡ true
  pub rules : in_force day rulings.tariffs ≡ Some terms
  pub rates : billed ≡ tariff_by terms.effective terms

-- And it has no other: each tariff of a bill is in force on some day of the period.
abbrev pub BilledTariffsRule : Type 0
BilledTariffsRule =
    (naming : Naming) (book : Book) (number : ℕ) (period : Period) (centre : Option (List ℕ))
    → IsReadable naming book
    → period_of book number ≡ Some period
    → All (IsInForceIn number book.rulings) (bill_of naming book number centre period).tariffs

-- And each line of a centre's bill has a period that it speaks of.
abbrev pub BilledLinesHavePeriods : Type 0
BilledLinesHavePeriods =
    (naming : Naming) (book : Book) (number : ℕ) (period : Period) (centre : List ℕ)
    → IsReadable naming book
    → period_of book number ≡ Some period
    → All (λ billed. IsSome billed.period)
    (bill_of naming book number (Some centre) period).lines

-- an amount is no less than the least that is held back, and no more than the greatest
pub record IsWithin (held : HeldBack) (amount : ℕ) : Type 0 where
  pub least : held.least ≤ amount
  pub greatest : amount ≤ held.greatest

-- Whichever record of each dispute is taken, what these cost the centre together lies between the two
-- amounts.
abbrev pub HeldBackBounds : Type 0
HeldBackBounds =
    (centre : Option (List ℕ)) (disputes : List Disputed) (chosen : Disputed → Variant)
    → All (λ dispute. Contains dispute.members (chosen dispute)) disputes
    → IsWithin (held_back_in centre disputes)
    (sum_by (λ dispute. amount_for centre (chosen dispute)) disputes)

-- What is closed never changes: whatever calls follow, the bill of a closed period is answered as it
-- was, also after choices, the second rule of identity and tariffs that come late.
abbrev pub ClosedBillsStay : Type 0
ClosedBillsStay =
    (naming : Naming) (later earlier : List Event) (number : ℕ) (centre : Option (List ℕ))
    → IsMadeByCalls naming (later ++ earlier)
    → IsClosed number (book_after earlier)
    → bill_outcome naming number centre (book_after (later ++ earlier))
    ≡ bill_outcome naming number centre (book_after earlier)

-- The same of any book that can be read back, whatever calls make of it.
abbrev pub BooksKeepBills : Type 0
BooksKeepBills =
    (naming : Naming) (book : Book) (later : List Event) (number : ℕ) (centre : Option (List ℕ))
    → IsReadable naming book → AreMadeOf naming book later → IsClosed number book
    → bill_outcome naming number centre (after_all later book)
    ≡ bill_outcome naming number centre book
