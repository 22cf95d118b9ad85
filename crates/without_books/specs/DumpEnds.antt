-- How a command ends that read a dump, and what it notices of that: it looked misread, or is torn.
use Rattle.std.specs.Prelude.{◌&&◌, not, if◌then◌else◌, Bool, true, false, Option, Some, None}
use Rattle.book_model.specs.declared.note.Stop.{Stop}
use Rattle.book_model.specs.declared.note.Stop.TheVariants.{End, Read, ReadLimit}
use Rattle.without_books.specs.declared.ended.Ended.{Ended}
use Rattle.without_books.specs.declared.notice.Notice.{Notice}
use Rattle.without_books.specs.declared.notice.Notice.TheVariants as notice
use Rattle.without_books.specs.Faults.{end_of}

-- a read of a dump failed, or all reads that are allowed did not reach its end
abbrev pub is_unread : Stop → Bool
is_unread Read = true
is_unread ReadLimit = true
is_unread stop = false

-- it was read to its end
abbrev pub is_end : Stop → Bool
is_end End = true
is_end stop = false

-- What a command notices of a dump that it read up to this stop: that it is not whole, as it had to be; or
-- else that it looked misread; or else that it is torn. Whether it is torn is seen at its end alone.
abbrev pub dump_notice : Bool → Bool → Bool → Stop → Option Notice
dump_notice has_to_be_whole looked torn stop =
    if has_to_be_whole && (torn && is_end stop) then Some notice.NotWhole
    else if looked && not (is_unread stop) then Some notice.Layout
    else if torn && is_end stop then Some notice.Torn
    else None

-- how a command ends that read such a dump, and opened no books
abbrev pub dump_end : Bool → Bool → Bool → Stop → Ended
dump_end has_to_be_whole looked torn stop = record {
  came = end_of stop;
  has_log = false;
  is_change = false;
  notice = dump_notice has_to_be_whole looked torn stop;
}

-- a command noticed that a dump is not whole that had to be
abbrev pub is_not_whole : Option Notice → Bool
is_not_whole (Some notice.NotWhole) = true
is_not_whole noticed = false

abbrev pub notices_torn : Ended → Bool
notices_torn ended = is_not_whole ended.notice
