-- A record is answered by the rows of its name and of the book.
use Rattle.std.proofs.Common.{◌≡◌, ℕ, List, [], ◌∷◌, refl, sym, ap, ◌∙◌, true, false, true≢false}
use Rattle.std.proofs.Common.{Bool, Option, Some, None, Result, Ok, Err, if◌then◌else◌, ℤ}
use Rattle.book_model.proofs.Std.{get, get-from_entries, nat_list_cmp_total, exact_bytes}
use Rattle.book_model.proofs.Std.{tells_apart}
use Rattle.book_model.specs.declared.answer.Accepted.{Accepted}
use Rattle.book_model.specs.declared.answer.Accepted.TheVariants.{Known}
use Rattle.book_model.specs.declared.fault.LedgerFault.{LedgerFault}
use Rattle.book_model.specs.declared.fault.LedgerFault.TheVariants.{DigestClash}
use Rattle.book_model.specs.Words.{data_of, record_with, IsFramed, accept_answer, accept_priced}
use Rattle.book_model.specs.Words.{clashes, Book, charged_of, Naming, name_of, same_bytes, price_in}
use Rattle.book_model.specs.Words.{identity_by, has, Priced}
use Rattle.book_model.proofs.Lemmas.{is, is_itself, is_back, IsUnnamed, fails_too}
use Rattle.table_model.specs.Words.{RecordRow, Tables, record_entries, tables_of, has_choice}
use Rattle.table_model.specs.Words.{lone_members, member_at, NamedRow, IsReadable}
use Rattle.table_model.proofs.LineReading.{held_row}
use Rattle.table_model.proofs.RecordChanges.{no_row}
use Rattle.table_model.specs.AcceptRead.{row_answer, new_answer, accept_read, view_if_named}
use Rattle.table_model.specs.AnswerLaws.{AcceptFollows, TwoAreEnough, ViewIsDetermined}
use Rattle.table_model.proofs.SetReading.{one_passes}
use Rattle.table_model.proofs.Texts.{same_is}

module _ (naming : Naming) (book : Book) (whole : IsReadable naming book) (bytes : List ℕ)
    (framed : IsFramed bytes) where
  -- the book's tables
  abbrev tables : Tables
  tables = tables_of naming book

  -- the row of a record's name
  abbrev row_named : List ℕ → Option RecordRow
  row_named name = get tables.records name

  -- what the record costs
  abbrev price : Option Priced
  price = price_in book.rulings bytes

  -- the answer by a row
  abbrev by_row : Option RecordRow → Result Accepted LedgerFault
  by_row found = row_answer tables.book found bytes price

  -- the record is held
  known : has book.held bytes ≡ true → Ok Known ≡ by_row (row_named (name_of naming bytes))
  known there =
      let row = held_row naming book whole.sound bytes there in
      let itself = same_is (data_of bytes) (data_of bytes) ∙ is_itself (data_of bytes) in
      let answer : Result Accepted LedgerFault = Ok Known in
      sym (ap by_row row.2 ∙ ap (λ b. if b then answer else Err DigestClash) itself)

  -- a record with the same data is the same record
  one_data : (other : List ℕ) → has book.held other ≡ true
      → is (data_of other) (data_of bytes) ≡ true → other ≡ bytes
  one_data other there same =
      (whole.usage other there).framed.is
      ∙ ap record_with (tells_apart exact_bytes (data_of other) (data_of bytes) same)
      ∙ sym framed.is

  -- so one that is held differs in its data from one that is not
  other_data : (other : List ℕ) → has book.held other ≡ true → has book.held bytes ≡ false
      → is (data_of other) (data_of bytes) ≡ false
  other_data other there new =
      elim (is (data_of other) (data_of bytes)) as
      (λ b. is (data_of other) (data_of bytes) ≡ b → b ≡ false) [
        | true ↦ λ same.
            absurd (true≢false (sym there ∙ ap (has book.held) (one_data other there same) ∙ new))
        | false ↦ λ differ. refl
      ] refl

  -- another record is held under its name
  clashing : has book.held bytes ≡ false → clashes naming book.held bytes ≡ true
      → Err DigestClash ≡ by_row (row_named (name_of naming bytes))
  clashing new clash =
      let other = one_passes (λ other. same_bytes (name_of naming other) (name_of naming bytes))
      book.held clash in
      let name = tells_apart exact_bytes (name_of naming other.0) (name_of naming bytes)
      (sym (same_is (name_of naming other.0) (name_of naming bytes)) ∙ other.2) in
      let row = held_row naming book whole.sound other.0 other.1 in
      let answer : Result Accepted LedgerFault = Err DigestClash in
      sym (ap (λ name. by_row (row_named name)) (sym name)
      ∙ ap by_row row.2
      ∙ ap (λ b. if b then Ok Known else answer)
      (same_is (data_of other.0) (data_of bytes) ∙ other_data other.0 other.1 new))

  -- the answer to a record whose name is new
  by_price : (price : Option Priced) → accept_priced book price ≡ new_answer tables.book price
  by_price None = refl
  by_price (Some priced) = refl

  -- no record is held under its name
  unnamed : clashes naming book.held bytes ≡ false
      → accept_priced book price ≡ by_row (row_named (name_of naming bytes))
  unnamed alone =
      let name : List ℕ = name_of naming bytes in
      let differs : IsUnnamed naming bytes book.held = λ other there.
      is_back name (name_of naming other) ∙ sym (same_is (name_of naming other) name)
      ∙ fails_too nat_list_cmp_total exact_bytes
      (λ other. same_bytes (name_of naming other) name) book.held other alone there in
      by_price price
      ∙ ap by_row (sym (get-from_entries nat_list_cmp_total
      (record_entries naming book.rulings book.held (charged_of book) book.posted) name
      ∙ no_row naming (price_in book.rulings) (identity_by book.rulings) book.posted bytes book.held
      (charged_of book) differs))

  -- the answer
  answered : accept_answer naming book bytes ≡ accept_read naming book.rulings tables bytes
  answered =
      let found : Option RecordRow = row_named (name_of naming bytes) in
      elim (has book.held bytes) as (λ b. has book.held bytes ≡ b
      → (if b then Ok Known
      else if clashes naming book.held bytes then Err DigestClash
      else accept_priced book price) ≡ by_row found) [
        | true ↦ λ there. known there
        | false ↦ λ new. elim (clashes naming book.held bytes) as
            (λ c. clashes naming book.held bytes ≡ c
            → (if c then Err DigestClash else accept_priced book price) ≡ by_row found) [
              | true ↦ λ clash. clashing new clash
              | false ↦ λ alone. unnamed alone
            ] refl
      ] refl

-- the law
pub accept_follows : AcceptFollows
accept_follows = record {
  answer = λ naming book bytes whole usage. answered naming book whole bytes usage.framed;
}

-- two rows are enough
pub two_are_enough : TwoAreEnough
two_are_enough through choices [] name priced = refl
two_are_enough through choices (one ∷ []) name priced = refl
two_are_enough through choices (one ∷ other ∷ rows) name priced = refl

-- the view of one row, by whether a choice names it
one_told : (through : Option ℤ) (one : NamedRow) (named : Bool)
    → view_if_named through named (one ∷ [])
    ≡ record {
      through = through;
      members = lone_members named;
      only = if named then None else Some (member_at one);
    }
one_told through one true = refl
one_told through one false = refl

-- only the view of one row depends on that
pub view_is_determined : ViewIsDetermined
view_is_determined through choices [] = refl
view_is_determined through choices (one ∷ []) = one_told through one (has_choice choices one.0)
view_is_determined through choices (one ∷ other ∷ rows) = refl
