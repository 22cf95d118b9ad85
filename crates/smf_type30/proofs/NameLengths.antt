-- The fields of a record that measures work have the lengths that they need.
use Rattle.std.proofs.Common.{◌≡◌, ◌<◌, ◌%◌, ◌^◌, ◌==◌, ℕ, List, length, true, false, None, Some}
use Rattle.std.proofs.Common.{arith}
use Rattle.std.specs.Prelude.{IfSome, if◌then◌else◌}
use Rattle.std.proofs.lemmas.Nat.{mod_below}
use Rattle.smf_frames.specs.Number.{number}
use Rattle.smf_type30.specs.Class.{IsUsage}
use Rattle.smf_type30.specs.Layout.{job_end}
use Rattle.smf_type30.specs.Usage.{ended_step_of, job_id_of, job_of, program_of, step_of, subtype_of}
use Rattle.smf_type30.proofs.IdentityLength.{eight_long}

-- the names of the job and of its program, and the identifier of the job
pub job_long : (bytes : List ℕ) → IsUsage bytes → length (job_of bytes) ≡ 8
unfolding job_of
job_long bytes usage = eight_long bytes 0 usage (omega arith)

pub program_long : (bytes : List ℕ) → IsUsage bytes → length (program_of bytes) ≡ 8
unfolding program_of
program_long bytes usage = eight_long bytes 8 usage (omega arith)

pub job_id_long : (bytes : List ℕ) → IsUsage bytes → length (job_id_of bytes) ≡ 8
unfolding job_id_of
job_id_long bytes usage = eight_long bytes 32 usage (omega arith)

-- the number of a step is one of two bytes
pub step_small : (bytes : List ℕ) → IfSome (ended_step_of bytes) (λ n. n < 2 ^ 16)
unfolding ended_step_of
step_small bytes =
    elim (subtype_of bytes == job_end) as (λ b. IfSome (if b then None
    else Some (number (step_of bytes) 0 2 % 2 ^ 16)) (λ n. n < 2 ^ 16)) [
      | true ↦ tt
      | false ↦ mod_below (number (step_of bytes) 0 2) (2 ^ 16) (omega arith)
    ]
