-- The text of a record: which it is, by which entry of the journal it came, how its price came about,
-- its rivals, the choices among them, and its life.
use Rattle.std.specs.Prelude.{ℕ, not, if◌then◌else◌, List, [], ◌++◌, codes, filter, flat_map}
use Rattle.std.specs.Prelude.{length, decimal, Option}
use Rattle.hex.specs.Hex.{encode_lower}
use Rattle.book_model.specs.declared.dispute.Variant.{Variant}
use Rattle.book_model.specs.declared.trail.NamedChoice.{NamedChoice}
use Rattle.book_model.specs.Words.{EntrySeen, TrailSeen, same_bytes}
use Rattle.report_texts.specs.Columns.{newline}
use Rattle.report_texts.specs.DisputeLists.{member_line}
use Rattle.report_texts.specs.RulingLists.{period_column}
use Rattle.report_texts.specs.UsageLines.{usage_lines}
use Rattle.report_texts.specs.ReckoningLines.{reckoning_lines}
use Rattle.report_texts.specs.LifeLines.{life_lines}

-- the record's name
unfoldable pub record_line : List ℕ → List ℕ
record_line name = codes "RECORD " ++ encode_lower name ++ newline

-- of the records of an identity, the others than the one of a name
abbrev pub rivals_of : List ℕ → List Variant → List Variant
rivals_of name members = filter (λ member. not (same_bytes member.name name)) members

-- the number of a record's rivals, and a line for each, as in the list of disputes
unfoldable pub rival_lines : List Variant → List ℕ
rival_lines rivals =
    codes "RIVALS " ++ decimal (length rivals) ++ newline ++ flat_map member_line rivals

-- the line of a choice: the period that was open then, the record that was named, and whether none
-- of its work counts from then on
unfoldable pub choice_line : NamedChoice → List ℕ
choice_line choice =
    codes "  " ++ period_column choice.period ++ codes " " ++ encode_lower choice.name
    ++ (if choice.counts then [] else codes " NONE") ++ newline

-- the number of choices, and a line for each
unfoldable pub choice_lines : List NamedChoice → List ℕ
choice_lines choices =
    codes "CHOICES " ++ decimal (length choices) ++ newline ++ flat_map choice_line choices

-- the text of the record of a name, by its trail and the entry by which it came
abbrev pub record_text : List ℕ → Option EntrySeen → TrailSeen → List ℕ
record_text name entry trail =
    record_line name
    ++ usage_lines trail.bytes trail.period entry
    ++ reckoning_lines trail.reckoning
    ++ rival_lines (rivals_of name trail.members)
    ++ choice_lines trail.choices
    ++ life_lines trail.life
