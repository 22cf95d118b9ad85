-- How a record is charged and posted.
use Rattle.std.specs.Prelude.{◌&&◌, ◌||◌, not, Bool, true, false, Option, Some, None}

-- Whether a record is charged, by whether its work is withheld, by whether another one has its
-- identity too, and by whether it was named last of that identity.
abbrev pub should_be_charged : Bool → Bool → Bool → Bool
should_be_charged withheld shared chosen = not withheld && (not shared || chosen)

-- Whether a record is posted as the last close charged it, by its two marks, by whether it is dated
-- on or before that close, and by what the line of the open period says, if there is one: as it is
-- charged now, except for what the line changed since.
abbrev pub is_posted_so : Bool → Bool → Bool → Option Bool → Bool
is_posted_so true posted true None = posted
is_posted_so false posted true None = not posted
is_posted_so charged posted true (Some true) = charged && not posted
is_posted_so charged posted true (Some false) = not charged && posted
is_posted_so charged posted false None = not posted
is_posted_so charged posted false (Some plus) = false
