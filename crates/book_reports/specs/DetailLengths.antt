-- How many bytes the lines of details have, as they are counted one at a time.
use Rattle.std.specs.Prelude.{◌≡◌, List, flat_map, length}
use Rattle.book_model.specs.declared.detail.Detail.{Detail}
use Rattle.book_reports.specs.declared.detail_lengths.Counted.{Counted}
use Rattle.book_reports.specs.declared.streamed_details.DetailReport.{DetailReport}
use Rattle.book_reports.specs.StreamedDetails.{details_part, sums_of}

-- these details were counted so
pub record AreCounted (report : DetailReport) (counted : Counted) (details : List Detail) : Type 0 where
  pub summed : counted.sums ≡ sums_of details
  pub sized : counted.size ≡ length (flat_map (details_part report) details)
