use Rattle.std.proofs.Common.{◌≡◌, drop}
use Rattle.std.specs.List.{list_any}
use Rattle.without_books.specs.ShownPaths.{is_control}
use Rattle.without_books.proofs.shown_paths.has_control.Given as goal

-- what is asked of all bytes is asked of those that are left
abbrev pub invariant-loop-byte : goal.invariant-loop-byte
invariant-loop-byte l =
    list_any is_control (drop l.byte-index l.bytes) ≡ list_any is_control l.bytes
