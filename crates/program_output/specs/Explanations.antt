-- What a number means: the texts of the fault that has it. What a word means that has none.
use Rattle.std.specs.Prelude.{◌≡◌, ◌≢◌, ℕ, ◌-◌, ◌==◌, List, length, slice_get, Option, Some, None}
use Rattle.std.specs.Prelude.{if◌then◌else◌}
use Rattle.book_model.specs.Words.{frame_number, damage_number, tariff_number, ledger_number}
use Rattle.program_output.specs.declared.explanations.FaultKind.{FaultKind}
use Rattle.program_output.specs.declared.explanations.FaultKind.TheVariants.{Frame, Ledger, Tariff}
use Rattle.program_output.specs.declared.explanations.FaultKind.TheVariants.{Damage, Word}
use Rattle.program_output.specs.declared.explanations.Explanation.{Explanation}
use Rattle.program_output.specs.Meanings.{Texts, frame_texts, ledger_texts, tariff_texts}
use Rattle.program_output.specs.Meanings.{damage_texts, word_texts}

-- the texts of a number, where a list has those of 1, 2, 3 and so on
abbrev pub texts_of : ℕ → List Texts → Option Texts
texts_of number texts = if number == 0 then None else slice_get texts (number - 1)

-- the fault that has a number; there is none where no fault has it
abbrev pub HasFaultNumber : {F : Type 0} → (F → ℕ) → ℕ → Option F → Type 0
HasFaultNumber number_of number (Some fault) = number_of fault ≡ number
HasFaultNumber number_of number None = (fault : _) → number_of fault ≢ number

-- some fault has the number, and its texts are told
pub record IsExplanation {F : Type 0} (number_of : F → ℕ) (texts : List Texts) (number : ℕ)
    (told : Explanation) : Type 0 where
  pub fault : F
  pub numbered : number_of fault ≡ number
  pub told_are : texts_of number texts ≡ Some (told.meaning.now, told.advice.now)

-- a number is explained exactly where some fault has it
abbrev pub ExplainsBy : {F : Type 0} → (F → ℕ) → List Texts → ℕ → Option Explanation → Type 0
ExplainsBy number_of texts number (Some told) = IsExplanation number_of texts number told
ExplainsBy number_of texts number None = (fault : _) → number_of fault ≢ number

-- a word that has no number is explained under 0, and under nothing else
abbrev pub ExplainsWord : Texts → ℕ → Option Explanation → Type 0
ExplainsWord texts number (Some told) =
    (number ≡ 0) × (texts ≡ (told.meaning.now, told.advice.now))
ExplainsWord texts number None = number ≢ 0

-- what is told of a number of each kind, and of each word
abbrev pub Explains : FaultKind → ℕ → Option Explanation → Type 0
Explains Frame = ExplainsBy frame_number frame_texts
Explains Ledger = ExplainsBy ledger_number ledger_texts
Explains Tariff = ExplainsBy tariff_number tariff_texts
Explains Damage = ExplainsBy damage_number damage_texts
Explains (Word kind) = ExplainsWord (word_texts kind)

-- two numbers with the same meaning are the same
abbrev pub MeaningsFixNumbers : List Texts → Type 0
MeaningsFixNumbers texts = (number other : ℕ) (meaning advice other_advice : List ℕ)
    → texts_of number texts ≡ Some (meaning, advice)
    → texts_of other texts ≡ Some (meaning, other_advice)
    → number ≡ other

-- Numbers and meanings are one to one, in each kind. There are as many as `no_number_line` says.
pub record NumbersAreOneToOne : Type 0 where
  pub frames : MeaningsFixNumbers frame_texts
  pub ledgers : MeaningsFixNumbers ledger_texts
  pub tariffs : MeaningsFixNumbers tariff_texts
  pub damages : MeaningsFixNumbers damage_texts
  pub counts : (length frame_texts ≡ 8) × (length ledger_texts ≡ 20) × (length tariff_texts ≡ 7)
      × (length damage_texts ≡ 9)
