-- Details that are sought one after another.
use Rattle.std.specs.Prelude.{◌≡◌, Bool, true, ◌&&◌}
use Rattle.std.specs.Ordering.{is_lt}
use Rattle.book_model.specs.Words.{by_detail, comes_after, is_asked, is_between}
use Rattle.book_model.specs.declared.detail.Detail.{Detail}
use Rattle.tree_tables.specs.Details.{is_reached}
use Rattle.tree_tables.specs.declared.detail_rows.DetailStart.{DetailStart}
use Rattle.table_ledger.specs.declared.details.Sought.{Sought}

-- a detail is one of these
abbrev pub seeks : Sought → Detail → Bool
seeks sought detail =
    is_between sought.close sought.through detail.priced.day
    && (is_asked sought.centre detail && comes_after sought.last detail)

-- none of them comes before the start
abbrev pub ComesFrom : Sought → DetailStart → Type 0
ComesFrom sought start = (detail : Detail) → seeks sought detail ≡ true → is_reached start detail ≡ true

-- nor does one that comes after a detail
abbrev pub GoesOn : Sought → Detail → DetailStart → Type 0
GoesOn sought passed start =
    (detail : Detail) → seeks sought detail ≡ true → is_lt (by_detail passed detail) ≡ true
    → is_reached start detail ≡ true
