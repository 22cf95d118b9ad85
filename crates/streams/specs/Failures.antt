-- That a reader or a writer failed: by a call of it that did, and left it so. Where no more is
-- known of what it may answer, a call alone shows that.
use Rattle.std.specs.Prelude.{◌≡◌, ℕ, true, List, length, Result}
use Rattle.std.specs.declared.io.Error.{Error}
use Rattle.streams.specs.AnswerFlags.{is_failed_read, is_failed_write}

-- a read failed, and left such a reader
pub record HasFailedToRead {R : Type 0}
    (may_answer : R → List ℕ → Result ℕ Error → R → List ℕ → Type 0) (new : R) : Type 0 where
  pub old : R
  pub room : List ℕ
  pub answer : Result ℕ Error
  pub given : List ℕ
  pub made : may_answer old room answer new given
  pub failed : is_failed_read answer ≡ true

-- a write of these bytes failed, or took none of them
pub record FailsToWrite {W : Type 0} (may_answer : W → List ℕ → Result ℕ Error → W → Type 0)
    (bytes : List ℕ) (old new : W) : Type 0 where
  pub answer : Result ℕ Error
  pub made : may_answer old bytes answer new
  pub failed : is_failed_write answer (length bytes) ≡ true

-- a write failed, or a flush, and left such a writer
pub record HasFailed {W : Type 0} (may_answer : W → List ℕ → Result ℕ Error → W → Type 0) (new : W)
    : Type 0 where
  pub old : W
  pub bytes : List ℕ
  pub fails : FailsToWrite may_answer bytes old new
