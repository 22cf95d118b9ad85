-- Texts that are said: keys are short, what a failed write leaves, and texts one after another.
use Rattle.std.proofs.Common.{◌≡◌, ℕ, ◌≤◌, List, [], ◌∷◌, ◌++◌, Option, Result, length, refl}
use Rattle.std.proofs.Common.{subst, lit≤, codes}
use Rattle.std.specs.declared.io.Error.{Error}
use Rattle.std.specs.declared.io.ErrorKind.{ErrorKind}
use Rattle.std.specs.declared.io.ErrorKind.TheVariants.{OutOfMemory}
use Rattle.tariff_rules.specs.declared.key.Key.{Key}
use Rattle.tariff_rules.specs.declared.key.Key.TheVariants.{Effective}
use Rattle.tariff_rules.specs.Faults.{key_text}
use Rattle.program_output.specs.Messages.{AreSaid, arguments_line}

-- the text of a key
pub key_short : (key : Key) → length (key_text key) ≤ 11
key_short Effective = lit≤ tt
key_short key = lit≤ tt

-- what is said of words that are not UTF-8
pub other_arguments : (kind : ErrorKind) → (kind ≡ OutOfMemory → ⊥)
    → arguments_line kind ≡ codes "error: a word is not UTF-8\n"
other_arguments OutOfMemory other = absurd (other refl)
other_arguments kind other = refl

-- some texts were said, and then others
pub said_then : {E : Type 0} (contents : E → Option (List ℕ))
    (may_answer : E → List ℕ → Result ℕ Error → E → Type 0) (first others : List (List ℕ))
    (old between new : E) → AreSaid contents may_answer first old between
    → AreSaid contents may_answer others between new
    → AreSaid contents may_answer (first ++ others) old new
said_then contents may_answer [] others old between new one two =
    subst (λ start. AreSaid contents may_answer others start new) one two
said_then contents may_answer (text ∷ rest) others old between new one two =
    (one.0, one.1, said_then contents may_answer rest others one.0 between new one.2 two)
