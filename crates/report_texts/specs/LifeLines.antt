-- The life of a record, as a record's text shows it: what each period did with it, and its net.
use Rattle.std.specs.Prelude.{ℕ, List, ◌++◌, codes, flat_map, length}
use Rattle.std.specs.Fmt.{decimal, signed_decimal}
use Rattle.book_model.specs.declared.trail.Deed.{Deed}
use Rattle.book_model.specs.declared.trail.Deed.TheVariants.{Charged, Added, Reversed}
use Rattle.book_model.specs.declared.trail.Turn.{Turn}
use Rattle.book_model.specs.Words.{net_of}
use Rattle.report_texts.specs.Columns.{newline}
use Rattle.report_texts.specs.RulingLists.{period_column}

-- the word for what a period did
unfoldable pub deed_text : Deed → List ℕ
deed_text Charged = codes "CHARGED"
deed_text Added = codes "ADDED"
deed_text Reversed = codes "REVERSED"

-- the line of a period that did something with the record
unfoldable pub turn_line : Turn → List ℕ
turn_line turn =
    codes "  " ++ period_column turn.period ++ codes " " ++ deed_text turn.deed ++ newline

-- how often the record is charged, less how often that is reversed
unfoldable pub net_line : List Turn → List ℕ
net_line life = codes "NET " ++ signed_decimal (net_of life) ++ newline

-- all of it
unfoldable pub life_lines : List Turn → List ℕ
life_lines life =
    codes "LIFE " ++ decimal (length life) ++ newline ++ flat_map turn_line life ++ net_line life
