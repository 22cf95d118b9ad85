-- No line of a check list is longer than 128 bytes, and the last one is not empty.
use Rattle.std.proofs.Common.{ℕ, ◌+◌, ◌^◌, ◌<◌, ◌≤◌, Bool, true, false, List, ◌++◌, length, codes}
use Rattle.std.proofs.Common.{arith, lit≤, length-append, if◌then◌else◌, nat_lt, slice_index}
use Rattle.std.proofs.Common.{decimal}
use Rattle.std.proofs.lemmas.Fmt.{length-decimal-le}
use Rattle.byteorder.specs.Numbers.{big_from-lt}
use Rattle.smf_frames.specs.declared.fault.FrameFault.TheVariants.{SegmentLength}
use Rattle.book_model.specs.Words.{FrameFault, frame_number, type_of, class_of, damage_number}
use Rattle.book_model.specs.Words.{ledger_number, Class, data_of}
use Rattle.smf_type30.specs.declared.record_class.Class.TheVariants.{Damaged, Usage}
use Rattle.smf_type30.specs.declared.damage.Damage.{Damage}
use Rattle.smf_type30.specs.declared.damage.Damage.TheVariants.{Short}
use Rattle.book_model.specs.declared.fault.LedgerFault.{LedgerFault}
use Rattle.book_model.specs.declared.fault.LedgerFault.TheVariants.{Memory}
use Rattle.book_model.specs.declared.note.Stop.{Stop}
use Rattle.book_model.specs.declared.note.Stop.TheVariants.{Frame, Ledger}
use Rattle.book_reports.specs.ReceiptLines.{fault_text, stop_text}
use Rattle.hex.specs.Hex.{encode_lower, lower_digits}
use Rattle.hex.proofs.HexLemmas.{length-encode_with}
use Rattle.sha2.specs.Sha256.{sha256}
use Rattle.sha2.proofs.Facts256.{length-sha256}
use Rattle.book_reports.specs.CheckLists.{type_text, class_text, digest_text, last_line, name_text}
use Rattle.book_reports.specs.CheckLists.{record_line}

-- a word and the number of a fault
fault_short : (word : List ℕ) (number : ℕ) → number < 100
    → length (fault_text word number) ≤ length word + 3
fault_short word number small =
    omega (
      arith,
      length-append (word ++ codes " ") (decimal number),
      length-append word (codes " "),
      length-decimal-le 2 number (lit≤ tt) (omega arith) (omega arith),
    )

-- the number of a damage has two digits at most
damage_small : (damage : Damage) → damage_number damage < 100
damage_small Short = lit≤ tt
damage_small damage = lit≤ tt

-- so has that of a fault at a descriptor
frame_small : (fault : FrameFault) → frame_number fault < 100
frame_small SegmentLength = lit≤ tt
frame_small fault = lit≤ tt

-- and that of a refusal of the books
ledger_small : (fault : LedgerFault) → ledger_number fault < 100
ledger_small Memory = lit≤ tt
ledger_small fault = lit≤ tt

-- the text of a class
class_short : (class : Class) → length (class_text class) ≤ 12
class_short (Damaged damage) =
    omega (arith, fault_short (codes "DAMAGED") (damage_number damage) (damage_small damage))
class_short class = lit≤ tt

-- the text of a stop
stop_short : (stop : Stop) → length (stop_text stop) ≤ 12
stop_short (Frame fault) =
    omega (arith, fault_short (codes "FRAME") (frame_number fault) (frame_small fault))
stop_short (Ledger fault) =
    omega (arith, fault_short (codes "LEDGER") (ledger_number fault) (ledger_small fault))
stop_short stop = lit≤ tt

-- the type is a byte
type_short : (bytes : List ℕ) → ((k : ℕ) → slice_index bytes k < 256)
    → length (type_text bytes) ≤ 3
type_short bytes small =
    let kind : type_of bytes < 256 = big_from-lt _ 1 bytes small in
    let digits = length-decimal-le 3 (type_of bytes) (lit≤ tt) (omega arith) (omega arith) in
    elim (nat_lt (length bytes) 18) as (λ (short : Bool).
    length (if short then codes "-" else decimal (type_of bytes)) ≤ 3) [
      | true ↦ lit≤ tt
      | false ↦ digits
    ]

-- the name of a record has two digits for each of 32 bytes
digest_short : (bytes : List ℕ) → length (digest_text bytes) ≤ 65
digest_short bytes =
    let its = data_of bytes in
    omega (
      arith,
      length-append (codes " ") (encode_lower (sha256 its)),
      length-encode_with lower_digits (sha256 its),
      length-sha256 its,
    )

name_short : (class : Class) (names : Bool) (bytes : List ℕ)
    → length (name_text class names bytes) ≤ 65
name_short Usage true bytes = digest_short bytes
name_short Usage false bytes = lit≤ tt
name_short class names bytes = lit≤ tt

-- the line of a record
pub record_line_short : (names : Bool) (number : ℕ) (bytes : List ℕ) → number < 2 ^ 64
    → ((k : ℕ) → slice_index bytes k < 256) → length (record_line names number bytes) ≤ 128
unfolding record_line
record_line_short names number bytes fits small =
    let digits = length-decimal-le 20 number (lit≤ tt) (omega arith) fits in
    let type_is = type_short bytes small in
    let class_is = class_short (class_of bytes) in
    let name_is = name_short (class_of bytes) names bytes in
    simp length-append (omega arith)

-- the last line, which is not empty
pub last_line_some : (count : ℕ) (stop : Stop) → 0 < length (last_line count stop)
last_line_some count stop = simp length-append (omega arith)

pub last_line_short : (count : ℕ) (stop : Stop) → count < 2 ^ 64
    → length (last_line count stop) ≤ 64
last_line_short count stop fits =
    let digits = length-decimal-le 20 count (lit≤ tt) (omega arith) fits in
    let stop_is = stop_short stop in
    simp length-append (omega arith)
