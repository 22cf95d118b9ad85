-- What is told of the output: that it failed, where a write or a flush of it has.
use Rattle.std.proofs.Common.{ℕ, List, [], Result, Err, refl}
use Rattle.std.specs.declared.io.Error.{Error}
use Rattle.streams.specs.Failures.{FailsToWrite, HasFailed}

module _ {O : Type 0} (may_answer : O → List ℕ → Result ℕ Error → O → Type 0) (old new : O) where
  -- by a write
  pub write_failed : (bytes : List ℕ) → FailsToWrite may_answer bytes old new
      → ∥ HasFailed may_answer new ∥₁
  write_failed bytes fails = ∣ record { old = old; bytes = bytes; fails = fails } ∣₁

  -- by a flush, which fails as a write of no bytes may
  pub flush_failed : (error : Error) → may_answer old [] (Err error) new
      → ∥ HasFailed may_answer new ∥₁
  flush_failed error made =
      write_failed [] (record { answer = Err error; made = made; failed = refl })
