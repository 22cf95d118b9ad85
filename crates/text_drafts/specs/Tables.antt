-- A table of comma-separated values, while it is written.
use Rattle.std.specs.Prelude.{◌≡◌, ℕ, false, List, Some, Vec}
use Rattle.std.specs.Global.{Global}
use Rattle.csv.specs.Writing.{default_writer, text_written, writer_setup, fields_written}
use Rattle.csv.specs.Writing.{has_written}
use Rattle.csv.specs.declared.writer.Writer.{Writer}

-- a writer of rows over a vector, with the crate's defaults, has written these bytes and no field
-- of a next row
pub record IsBetweenRows (table : Writer (Vec ℕ Global)) (bytes : List ℕ) : Type 0 where
  pub written : text_written (λ v. Some v.items) table ≡ Some bytes
  pub fields : fields_written table ≡ 0
  pub wrote : has_written table ≡ false
  pub setup : writer_setup table ≡ default_writer
