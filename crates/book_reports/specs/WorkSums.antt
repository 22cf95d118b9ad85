-- The charge rows of steps and of jobs, as details are summed up one at a time.
use Rattle.std.specs.Prelude.{◌≡◌, ◌<◌, ◌^◌, All, List, map}
use Rattle.book_model.specs.declared.detail.Detail.{Detail}
use Rattle.book_model.specs.Words.{Priced, IsDay, jobs_of, steps_of}
use Rattle.book_core.specs.Words.{keyed_rows}
use Rattle.book_reports.specs.declared.bill_work.WorkSums.{WorkSums}
use Rattle.book_reports.specs.declared.streamed_details.Sums.{Sums}
use Rattle.book_reports.specs.StreamedDetails.{sums_of}

abbrev pub Details : Type 0
Details = List Detail

abbrev pub Prices : Type 0
Prices = List Priced

-- what some details cost
abbrev pub prices_of : List Detail → List Priced
prices_of details = map (λ detail. detail.priced) details

-- 64 bits hold the sums, and 62 bits the amount
pub record SumsFit (sums : Sums) : Type 0 where
  pub count : sums.count < 2 ^ 64
  pub cpu : sums.cpu < 2 ^ 64
  pub blocks : sums.blocks < 2 ^ 64
  pub amount : sums.amount < 2 ^ 62

-- the sums are those of these details, of which each is dated on a day
pub record AreSumsOf (work : WorkSums) (details : List Detail) : Type 0 where
  pub steps : work.steps.entries ≡ keyed_rows (prices_of (steps_of details))
  pub jobs : work.jobs.entries ≡ keyed_rows (prices_of (jobs_of details))
  pub all : work.all ≡ sums_of details
  pub fit : SumsFit work.all
  pub days : All (λ detail. IsDay detail.priced.day) details
