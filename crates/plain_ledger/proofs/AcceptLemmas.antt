-- What a plain ledger answers to a record, and what it holds then.
use Rattle.std.proofs.Common.{◌≡◌, ◌∙◌, ℕ, ◌+◌, List, length, sym, ap, subst, ◌||◌, Bool, true}
use Rattle.std.proofs.Common.{false, Option, Some, None, Ok, Err, arith, leb-false, ltb-false}
use Rattle.std.proofs.Common.{if◌then◌else◌, nat_le, nat_lt}
use Rattle.std.proofs.lemmas.Bool.{or_parts}
use Rattle.std.specs.BTreeMap.{insert_entry}
use Rattle.std.specs.List.Sorted.{IsStrictlySortedBy}
use Rattle.std.specs.Map.{keys_of}
use Rattle.book_model.specs.declared.answer.Accepted.TheVariants.{Kept, Known}
use Rattle.book_model.specs.declared.fault.LedgerFault.TheVariants.{Full, DigestClash}
use Rattle.book_model.specs.Words.{Priced, Book, new_book, most_held, most_cost, Naming, name_of}
use Rattle.book_model.specs.Words.{by_bytes, same_bytes, Rulings, price_in, has, is_full, clashes}
use Rattle.book_model.specs.Words.{accept_priced, accept_answer}
use Rattle.plain_ledger.specs.declared.held.HeldRecord.{HeldRecord}
use Rattle.plain_ledger.specs.Plain.{Entry, AreBooked, held_in, record_of}
use Rattle.plain_ledger.specs.Treatments.{under_name}
use Rattle.plain_ledger.proofs.HeldLemmas.{has-found, has-missing, kept_more, clashes-found}
use Rattle.plain_ledger.proofs.HeldLemmas.{clashes-missing, length-held, total_of-held}

-- the book of some rulings that holds the records of entries, whatever else it has
abbrev pub book_holding : Rulings → List Entry → Book
book_holding rulings entries = record new_book { rulings = rulings; held = held_in entries }

module _ {naming : Naming} {rulings : Rulings} {entries : List Entry} {total : ℕ}
    (kept : AreBooked naming rulings entries total)
    (rising : IsStrictlySortedBy by_bytes (keys_of entries)) where
  -- the limits, by the entries and their total
  pub is_full-held : (amount : ℕ)
      → is_full (book_holding rulings entries) amount
      ≡ (nat_le most_held (length entries) || nat_lt most_cost (total + amount))
  is_full-held amount =
      let many = length-held kept rising in
      let much = total_of-held kept rising in
      λ i. nat_le most_held (many i) || nat_lt most_cost (much i + amount)

  -- the answer to a record that is held
  pub accept_answer-held : (bytes : List ℕ) → has (held_in entries) bytes ≡ true
      → accept_answer naming (book_holding rulings entries) bytes ≡ Ok Known
  accept_answer-held bytes held =
      let priced = accept_priced (book_holding rulings entries) (price_in rulings bytes) in
      ap (λ (b : Bool). if b then Ok Known
      else if clashes naming (held_in entries) bytes then Err DigestClash else priced) held

  -- the answer to a record with a name that one has
  pub accept_answer-found : (bytes name : List ℕ) (h : HeldRecord)
      → name ≡ name_of naming bytes
      → under_name name entries ≡ Some h
      → accept_answer naming (book_holding rulings entries) bytes
      ≡ (if same_bytes (record_of h) bytes then Ok Known else Err DigestClash)
  accept_answer-found bytes name h is found =
      let same = has-found kept rising bytes name h is found in
      let clash = clashes-found kept bytes name h is found in
      let price : Option Priced = price_in rulings bytes in
      λ i. if same i then Ok Known
      else if clash i then Err DigestClash
      else accept_priced (book_holding rulings entries) price

  -- the answer to a record with a name that none has
  pub accept_answer-missing : (bytes name : List ℕ)
      → name ≡ name_of naming bytes
      → under_name name entries ≡ None
      → accept_answer naming (book_holding rulings entries) bytes
      ≡ accept_priced (book_holding rulings entries) (price_in rulings bytes)
  accept_answer-missing bytes name is missing =
      let new = has-missing kept rising bytes name is missing in
      let unnamed = clashes-missing kept bytes name is missing in
      let price : Option Priced = price_in rulings bytes in
      λ i. if new i then Ok Known
      else if unnamed i then Err DigestClash
      else accept_priced (book_holding rulings entries) price

  -- to a record with a name that none has, where it has a price
  pub accept_answer-priced : (bytes name : List ℕ) (priced : Priced) (full : Bool)
      → name ≡ name_of naming bytes
      → under_name name entries ≡ None → price_in rulings bytes ≡ Some priced
      → (nat_le most_held (length entries) || nat_lt most_cost (total + priced.amount)) ≡ full
      → accept_answer naming (book_holding rulings entries) bytes
      ≡ (if full then Err Full else Ok Kept)
  accept_answer-priced bytes name priced full is missing price room =
      accept_answer-missing bytes name is missing
      ∙ ap (accept_priced (book_holding rulings entries)) price
      ∙ ap (λ (b : Bool). if b then Err Full else Ok Kept) (is_full-held priced.amount ∙ room)

  -- the entries with one more for a record that is new, has a price, and has room
  pub kept_with : (bytes name : List ℕ) (h : HeldRecord) (priced : Priced)
      → name ≡ name_of naming bytes
      → under_name name entries ≡ None → price_in rulings bytes ≡ Some priced
      → record_of h ≡ bytes → h.priced ≡ priced
      → (nat_le most_held (length entries) || nat_lt most_cost (total + priced.amount)) ≡ false
      → AreBooked naming rulings (insert_entry by_bytes entries name h) (total + priced.amount)
  kept_with bytes name h priced is missing price copied costs room =
      let amount : h.priced.amount ≡ priced.amount = ap (λ (p : Priced). p.amount) costs in
      let limits = or_parts (nat_le most_held (length entries))
      (nat_lt most_cost (total + priced.amount)) room in
      let few = leb-false most_held (length entries) limits.0 in
      let small = ltb-false most_cost (total + priced.amount) limits.1 in
      subst (λ n. AreBooked naming rulings (insert_entry by_bytes entries name h) (total + n))
      amount
      (kept_more kept name h (is ∙ ap (name_of naming) (sym copied)) missing
      (ap (price_in rulings) copied ∙ price ∙ ap Some (sym costs)) (omega arith) few)
