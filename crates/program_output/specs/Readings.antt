-- How a dump is read.
use Rattle.std.specs.Prelude.{ℕ, Option}
use Rattle.smf_frames.specs.declared.dump.Layout.{Layout}
use Rattle.streams.specs.InputOutput.{Input}
use Rattle.book_model.specs.declared.note.Stop.{Stop}

-- The layout of its segments; what cut the reading short, if anything did; how many reads are
-- allowed; and the reader.
pub record Reading : Type 0 where
  pub layout : Layout
  pub cut : Option Stop
  pub allowed : ℕ
  pub input : Input

abbrev pub reading : Layout → Option Stop → ℕ → Input → Reading
reading layout cut allowed input =
    record { layout = layout; cut = cut; allowed = allowed; input = input }
