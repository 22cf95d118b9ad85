-- Records, and sets of them. A record is its bytes: the descriptor that its length gives, and its
-- data. So two records with the same data are one record.
use Rattle.std.specs.Prelude.{ℕ, Bool, ◌==◌, List}
use Rattle.std.specs.Cmp.Lexicographic.{pointwise}
use Rattle.book_model.specs.Std.{Ordering, nat_cmp, slice_cmp}
use Rattle.smf_frames.specs.Framed.{IsFramed, data_of}
use Rattle.smf_type30.specs.Class.{IsUsage}
use Rattle.book_model.specs.Sets.{Set}

-- texts by their bytes, as in a dictionary
abbrev pub by_bytes : List ℕ → List ℕ → Ordering
by_bytes = slice_cmp nat_cmp

-- they are the same, byte for byte
abbrev pub same_bytes : List ℕ → List ℕ → Bool
same_bytes = pointwise (λ a b. a == b)

-- sets of records
abbrev pub Records : Type 0
Records = Set by_bytes

-- a record that the books can keep: joined from a dump, and measuring work
pub record IsUsageRecord (bytes : List ℕ) : Type 0 where
  pub framed : IsFramed bytes
  pub usage : IsUsage bytes

-- how records are named, by their data
abbrev pub Naming : Type 0
Naming = List ℕ → List ℕ

-- the name of a record
abbrev pub name_of : Naming → List ℕ → List ℕ
name_of naming bytes = naming (data_of bytes)
