-- What a run of writes passes to a writer, and texts that are written one after another, up to a
-- fault.
use Rattle.std.proofs.Common.{◌≡◌, ◌≢◌, ℕ, ◌+◌, ◌-◌, ◌<◌, List, [], ◌∷◌, ◌++◌, length, take, drop}
use Rattle.std.proofs.Common.{Option, Result, Ok, Err, refl, sym, ap, subst, ◌∙◌, append_assoc}
use Rattle.std.proofs.Common.{append-nil, arith, length-drop, take-add, take_all, OnOk, OnErr}
use Rattle.std.proofs.Common.{IfErr}
use Rattle.std.specs.Result.{result_unwrap_or}
use Rattle.book_model.proofs.Std.{concat}
use Rattle.book_lists.specs.declared.fault.ReportFault.{ReportFault}
use Rattle.book_lists.specs.declared.fault.ReportFault.TheVariants.{Write, Memory}
use Rattle.book_lists.proofs.Words.{Appends, Appends-nil, Appends-trans, LedgerFault}
use Rattle.book_lists.proofs.Words.{report_fault_of}
use Rattle.book_lists.specs.Writing.{WritesTexts, WritesUpTo}
use Rattle.book_model.specs.declared.fault.LedgerFault.TheVariants as ledger

-- one more write appends the bytes that it took to those so far
pub taken_more : (first before after : Option (List ℕ)) (text : List ℕ) (written count : ℕ)
    → Appends first before (take written text)
    → Appends before after (take count (take (length text - written) (drop written text)))
    → Appends first after (take (written + count) text)
taken_more first before after text written count so_far one =
    let left = length text - written in
    let rest = drop written text in
    let handed : take left rest ≡ rest = take_all left rest (simp length-drop (omega arith)) in
    let more = rw handed at one in
    rw take-add (Appends-trans first before after (take written text) (take count rest) so_far more)

-- a lack of memory is no failed write,
pub memory_not_write : {fault : ReportFault} → fault ≡ Memory → fault ≢ Write
memory_not_write is write = cc

-- nor is a refusal of the books
pub refusal_not_write : (refusal : LedgerFault) {fault : ReportFault}
    → fault ≡ report_fault_of refusal → fault ≢ Write
refusal_not_write ledger.Memory is write = cc
refusal_not_write refusal is write = cc

-- equal answers have equal values
pub same_value : {A : Type 0} {x y : A} → ◌≡◌ {A = Result A LedgerFault} (Ok x) (Ok y) → x ≡ y
same_value {x = x} same = ap (λ answer. result_unwrap_or answer x) same

-- of a text that was not written whole the writer has a prefix
pub prefix_written : {fault : ReportFault} {held holds : Option (List ℕ)} (text : List ℕ)
    → fault ≡ Write → (n : ℕ) × (n < length text) × Appends held holds (take n text)
    → WritesUpTo fault (text ∷ []) held holds
prefix_written text failed prefix =
    record {
      whole = [];
      next = text;
      rest = [];
      count = prefix.0;
      parts = refl;
      grown = prefix.2;
      unless_write = λ other. absurd (other failed);
      after_write = λ write. prefix.1;
    }

-- what `write_text` leaves
pub text_written : (F : Type 0) (held holds : Option (List ℕ)) (text : List ℕ)
    (answer : Result (Unit {0}) ReportFault)
    → OnOk answer (Appends held holds text × F) → IfErr answer (λ fault. fault ≡ Write)
    → OnErr answer ((n : ℕ) × (n < length text) × Appends held holds (take n text))
    → WritesTexts (text ∷ []) held holds answer
text_written F held holds text (Ok done) whole failed prefix =
    subst (Appends held holds) (sym (append-nil text)) whole.0
text_written F held holds text (Err fault) whole failed prefix = prefix_written text failed prefix

-- before the first write there is nothing
pub nothing_written : (fault : ReportFault) (held : Option (List ℕ)) (text : List ℕ)
    (rest : List (List ℕ))
    → fault ≢ Write → WritesUpTo fault (text ∷ rest) held held
nothing_written fault held text rest other =
    record {
      whole = [];
      next = text;
      rest = rest;
      count = 0;
      parts = refl;
      grown = Appends-nil held;
      unless_write = λ other. refl;
      after_write = λ write. absurd (other write);
    }

-- if a text failed, no other was begun
pub others_unwritten : (fault : ReportFault) {first : List ℕ} {held holds : Option (List ℕ)}
    (others : List (List ℕ))
    → WritesUpTo fault (first ∷ []) held holds → WritesUpTo fault (first ∷ others) held holds
others_unwritten fault others writes =
    record {
      whole = writes.whole;
      next = writes.next;
      rest = writes.rest ++ others;
      count = writes.count;
      parts = ap (λ texts. texts ++ others) writes.parts
          ∙ append_assoc writes.whole (writes.next ∷ writes.rest) others;
      grown = writes.grown;
      unless_write = writes.unless_write;
      after_write = writes.after_write;
    }

-- a text whole, and then others
pub others_written : {A : Type 0} (first : List ℕ) (others : List (List ℕ))
    (held mid holds : Option (List ℕ))
    (answer : Result A ReportFault)
    → Appends held mid (first ++ []) → WritesTexts others mid holds answer
    → WritesTexts (first ∷ others) held holds answer
others_written first others held mid holds (Ok value) one then =
    let text = subst (Appends held mid) (append-nil first) one in
    Appends-trans held mid holds first (concat others) text then
others_written first others held mid holds (Err fault) one then =
    let text = subst (Appends held mid) (append-nil first) one in
    let before = concat then.whole ++ take then.count then.next in
    record {
      whole = first ∷ then.whole;
      next = then.next;
      rest = then.rest;
      count = then.count;
      parts = ap (λ texts. first ∷ texts) then.parts;
      grown = subst (Appends held holds)
          (sym (append_assoc first (concat then.whole) (take then.count then.next)))
          (Appends-trans held mid holds first before text then.grown);
      unless_write = then.unless_write;
      after_write = then.after_write;
    }
