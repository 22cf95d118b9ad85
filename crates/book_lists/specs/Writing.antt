-- What a writer gains from texts that are written to it.
use Rattle.std.specs.Prelude.{◌≡◌, ◌≢◌, ◌<◌, Bool, true, false, ℕ}
use Rattle.std.specs.Prelude.{List, length, ◌∷◌, ◌++◌, take, Option, Result, Ok, Err}
use Rattle.std.specs.List.{concat}
use Rattle.std.specs.Io.KnownBytes.{Appends}
use Rattle.book_lists.specs.declared.fault.ReportFault.{ReportFault}
use Rattle.book_lists.specs.declared.fault.ReportFault.TheVariants.{Write, Ledger}

-- Texts were written one after another, up to a fault: the first of them whole, and of the next a
-- prefix, which is empty unless a write failed, and not the whole text if one did.
pub record WritesUpTo (fault : ReportFault) (texts : List (List ℕ)) (held holds : Option (List ℕ))
    : Type 0 where
  pub whole : List (List ℕ)
  pub next : List ℕ
  pub rest : List (List ℕ)
  pub count : ℕ
  pub parts : texts ≡ whole ++ next ∷ rest
  pub grown : Appends held holds (concat whole ++ take count next)
  pub unless_write : fault ≢ Write → count ≡ 0
  pub after_write : fault ≡ Write → count < length next

-- Texts were written one after another, if the writer shows its bytes: all of them, or those before
-- a fault.
abbrev pub WritesTexts :
    {A : Type 0} → List (List ℕ) → Option (List ℕ) → Option (List ℕ) → Result A ReportFault → Type 0
WritesTexts texts held holds (Ok value) = Appends held holds (concat texts)
WritesTexts texts held holds (Err fault) = WritesUpTo fault texts held holds

-- A text was written, if the writer shows its bytes: the whole of it, or a prefix before a fault.
abbrev pub WritesPrefix :
    {A : Type 0} → List ℕ → Option (List ℕ) → Option (List ℕ) → Result A ReportFault → Type 0
WritesPrefix text held holds (Ok value) = Appends held holds text
WritesPrefix text held holds (Err fault) = (count : ℕ) × Appends held holds (take count text)

-- The same, where the prefix is not the whole.
abbrev pub WritesUntil :
    {A : Type 0} → List ℕ → Option (List ℕ) → Option (List ℕ) → Result A ReportFault → Type 0
WritesUntil text held holds (Ok value) = Appends held holds text
WritesUntil text held holds (Err fault) =
    (count : ℕ) × (count < length text) × Appends held holds (take count text)

-- the fault is that of the writer
abbrev pub is_write_fault : {A : Type 0} → Result A ReportFault → Bool
is_write_fault (Err Write) = true
is_write_fault answer = false

-- the fault is that of the writer, or a lack of memory: the books refused nothing
abbrev pub is_write_or_memory : ReportFault → Bool
is_write_or_memory (Ledger fault) = false
is_write_or_memory fault = true
