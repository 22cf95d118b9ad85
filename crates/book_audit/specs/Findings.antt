-- What is printed of the first thing that is wrong: where it is, and what is wrong there.
use Rattle.std.specs.Prelude.{◌-◌, ◌/◌, ◌%◌, ◌++◌, ℕ, ℤ, List, codes, if◌then◌else◌, length, replicate}
use Rattle.std.specs.Fmt.{decimal, signed_decimal}
use Rattle.std.specs.Str.{byte}
use Rattle.hex.specs.Hex.{encode_lower}
use Rattle.smf_text.specs.Day.{day_text_of, is_day}
use Rattle.book_model.specs.declared.row.RowKey.{RowKey}
use Rattle.book_audit.specs.declared.finding.Finding.{Finding}
use Rattle.book_audit.specs.declared.finding.Place.{Place}
use Rattle.book_audit.specs.declared.finding.Place.TheVariants as place
use Rattle.book_audit.specs.declared.finding.Tree.{Tree}
use Rattle.book_audit.specs.declared.finding.Tree.TheVariants as tree
use Rattle.book_audit.specs.declared.finding.Wrong.{Wrong}
use Rattle.book_audit.specs.declared.finding.Wrong.TheVariants as wrong

-- the name of a tree in the file
unfoldable pub tree_name : Tree → List ℕ
tree_name tree.Book = codes "book"
tree_name tree.Tariffs = codes "tariff"
tree_name tree.Closes = codes "closed"
tree_name tree.Records = codes "record"
tree_name tree.Days = codes "day_sum"
tree_name tree.Lines = codes "line"
tree_name tree.Identities = codes "record_ident"
tree_name tree.Marks = codes "record_charged"
tree_name tree.Choices = codes "choice"
tree_name tree.ChoiceNames = codes "choice_name"
tree_name tree.Details = codes "detail"
tree_name tree.Credits = codes "credit"
tree_name tree.Replaced = codes "replaced"
tree_name tree.Journal = codes "journal"

-- a day as its date, and what is no day that this product knows as its number
unfoldable pub day_shown : ℤ → List ℕ
day_shown day = if is_day day then day_text_of day else signed_decimal day

-- a number in a given count of digits, zeros before it
abbrev pub digits_in : ℕ → ℕ → List ℕ
digits_in width number = replicate (width - length (decimal number)) (byte "0") ++ decimal number

-- a number in two digits, or more where it has more
unfoldable pub in_two_digits : ℕ → List ℕ
in_two_digits number = digits_in 2 number

-- hundredths of a second since midnight, as hours, minutes, seconds and hundredths: `HH:MM:SS.hh`
unfoldable pub time_shown : ℕ → List ℕ
time_shown time =
    in_two_digits (time / 360_000) ++ codes ":" ++ in_two_digits ((time / 6_000) % 60)
    ++ codes ":" ++ in_two_digits ((time / 100) % 60) ++ codes "." ++ in_two_digits (time % 100)

-- where records are charged: their day, their centre and their shift
unfoldable pub key_shown : RowKey → List ℕ
key_shown key = day_shown key.day ++ codes " " ++ key.centre ++ codes " " ++ key.shift

-- Where something is wrong: in the whole file, in a tree, or in a row of a tree, which its key names.
unfoldable pub place_text : Place → List ℕ
place_text place.File = codes "file"
place_text (place.Tree in_tree) = tree_name in_tree
place_text (place.Tariff first) = codes "tariff " ++ day_shown first
place_text (place.Close period) = codes "closed " ++ decimal period
place_text (place.Choice number) = codes "choice " ++ decimal number
place_text (place.Record name) = codes "record " ++ encode_lower name
place_text (place.Day spot) =
    codes "day_sum " ++ decimal spot.period ++ codes " " ++ key_shown spot.place
place_text (place.Line period name) =
    codes "line " ++ decimal period ++ codes " " ++ encode_lower name
place_text (place.Detail spot) =
    codes "detail " ++ key_shown spot.place ++ codes " " ++ time_shown spot.time ++ codes " "
    ++ encode_lower spot.name
place_text (place.Credit number) = codes "credit " ++ decimal number
place_text (place.Replaced number) = codes "replaced " ++ decimal number
place_text (place.Entry number) = codes "journal " ++ decimal number

-- what is wrong there, in words
unfoldable pub wrong_text : Wrong → List ℕ
wrong_text wrong.Pages = codes "its pages are not those of sorted tables"
wrong_text wrong.Unreadable = codes "a page or a row of it can't be read"
wrong_text wrong.Columns = codes "a row of it has more columns than its table, or fewer"
wrong_text wrong.Order = codes "its rows do not stand in the order of their keys"
wrong_text wrong.MoreRows = codes "it has more than one row"
wrong_text wrong.Rule = codes "its row is not that of books of rule 1 or 2"
wrong_text wrong.Held = codes "held is not the number of records"
wrong_text wrong.Amount = codes "amount is not what the records cost together"
wrong_text wrong.TariffText = codes "its text is no tariff of that day"
wrong_text wrong.CloseOrder = codes "it does not follow the close before"
wrong_text wrong.Closes = codes "it has more closes than there are periods"
wrong_text wrong.ChoiceNumber = codes "its number is not the next one"
wrong_text wrong.ChoicePeriod =
    codes "its period is not one from that of the choice before to the open one"
wrong_text wrong.NotHeld = codes "the record that it names is not held"
wrong_text wrong.ChosenAlone = codes "the record that it names is alone in its identity"
wrong_text wrong.NoChoiceName = codes "choice_name does not find it"
wrong_text wrong.Choices = codes "it has more than 1,000,000 choices"
wrong_text wrong.Name = codes "its name is not the SHA-256 of its data"
wrong_text wrong.NoUsage = codes "its data are those of no usage record"
wrong_text wrong.Identity = codes "its identity is not that of its bytes"
wrong_text wrong.Unpriced = codes "no tariff is in force on its day"
wrong_text wrong.Price = codes "its price is not that of the tariff in force"
wrong_text wrong.NoIdentity = codes "record_ident does not find it"
wrong_text wrong.NoMark = codes "record_charged does not find it"
wrong_text wrong.Charged =
    codes "charged does not say whether it is alone in its identity or chosen last of it"
wrong_text wrong.Posted = codes "posted does not say whether the last close charged it"
wrong_text wrong.Lines = codes "its lines do not add and reverse it by turns"
wrong_text wrong.Limits = codes "it has more records than books can hold, or they cost more"
wrong_text wrong.Entries = codes "it has not as many entries as its table has rows"
wrong_text wrong.NoRecord = codes "no record of that name is held"
wrong_text wrong.LineDate = codes "its record is not dated by the close before"
wrong_text wrong.Period = codes "its day is in another period"
wrong_text wrong.NoCount = codes "it counts no record"
wrong_text wrong.Sums = codes "it is not the sum of its records"
wrong_text wrong.NoRow = codes "there is no row for its records"
wrong_text wrong.NoDetail = codes "there is no row of detail for it"
wrong_text wrong.OtherDetail = codes "it is not that of its record"
wrong_text wrong.NotCounted = codes "no period counts its record"
wrong_text wrong.Credit = codes "no such credit can be given"
wrong_text wrong.Begun = codes "its period has not begun"
wrong_text wrong.Rulings = codes "it has more than 10,000 rows"
wrong_text wrong.NoRuling = codes "its ruling is not there"
wrong_text wrong.Kept = codes "kept is not the number of records that came by it"
wrong_text wrong.Came = codes "came is no entry that kept it"

-- the line of a finding: its place, and what is wrong there
unfoldable pub unsound_text : Finding → List ℕ
unsound_text finding =
    codes "UNSOUND " ++ place_text finding.place ++ codes ": " ++ wrong_text finding.wrong
    ++ codes "\n"
