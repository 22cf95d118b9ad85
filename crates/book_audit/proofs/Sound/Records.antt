-- The records of sound trees are right by their tables.
use Rattle.std.proofs.Common.{◌≡◌, ◌∙◌, ◌+◌, ◌-◌, ◌||◌, ℕ, ℤ, List, Bool, true, false, Option, Some}
use Rattle.std.proofs.Common.{None, ap, ap₂, arith, length, map, not, refl, subst, sym}
use Rattle.std.proofs.Common.{if◌then◌else◌, nat_lt, ◌&&◌}
use Rattle.sqlite_trees.specs.Tree.{Trees}
use Rattle.sqlite_trees.proofs.ListLemmas.{all-map, all_weaker}
use Rattle.book_model.proofs.Std.{get, option_map_or}
use Rattle.book_model.specs.Words.{open_by, same_bytes}
use Rattle.table_model.specs.Words.{row_record, RecordRow, Tables, is_due_at, is_due_in}
use Rattle.table_model.proofs.Finding.{get_one}
use Rattle.consistent_tables.specs.Consistent.{AreInTurn, IsOwnRow, charged_back, is_counted_row}
use Rattle.consistent_tables.specs.Consistent.{periods_after, ruled}
use Rattle.consistent_tables.specs.DueRows.{period_from}
use Rattle.tree_tables.proofs.Layouts.{record_layout}
use Rattle.book_audit.specs.Days.{is_closed}
use Rattle.book_audit.specs.Marks.{is_posted_so}
use Rattle.book_audit.specs.OfBook.{sha_names}
use Rattle.book_audit.specs.Records.{HasPast, IsLine, IsRight, TellsRight, Told, later_periods}
use Rattle.book_audit.specs.SoundTrees.{AreSound}
use Rattle.book_audit.specs.declared.audited.Counts.{Counts as Numbers}
use Rattle.book_audit.proofs.Rows.Rulings.{closed_is}
use Rattle.book_audit.proofs.Held.Looks.{alone_looked, line_looked, past_told}
use Rattle.book_audit.proofs.Held.Rulings.{named_said, withheld_said}
use Rattle.book_audit.proofs.Sound.Rulings.{choices_numbered, closes_said, days, identity_is}
use Rattle.book_audit.proofs.Sound.Rulings.{open_is, price_is}
use Rattle.book_audit.proofs.Sound.Tables.{right_of, tables_held, told_all, trees_hold}

-- ---- posted

-- a mark that is posted so is what was charged before the open period, where that is another
posted_so : (charged posted closed : Bool) (line : Option Bool)
    → is_posted_so charged posted closed line ≡ true
    → posted ≡ (if closed then option_map_or not line charged else false)
posted_so true posted true None is = is
posted_so false true true None is = absurd (let e = is in cc)
posted_so false false true None is = refl
posted_so true true true (Some true) is = absurd (let e = is in cc)
posted_so true false true (Some true) is = refl
posted_so false posted true (Some true) is = absurd (let e = is in cc)
posted_so true posted true (Some false) is = absurd (let e = is in cc)
posted_so false posted true (Some false) is = is
posted_so charged true false None is = absurd (let e = is in cc)
posted_so charged false false None is = refl
posted_so charged posted false (Some plus) is = absurd (let e = is in cc)

module _ (trees : Trees) (numbers : Numbers) (sound : AreSound trees numbers) where
  abbrev tables : Tables
  tables = tables_held trees numbers sound

  abbrev closes : List ℤ
  closes = days trees numbers sound

  -- the periods after that of a day
  after_is : (row : RecordRow) → periods_after tables row ≡ later_periods closes row.priced.day
  after_is row =
      ap (λ (all : List ℤ). (length all + 1) - period_from 1 all row.priced.day)
      (closes_said trees numbers sound)

  -- what the lines of a record say of its past
  pub past_is : (name : List ℕ) (row : RecordRow) (counted : Bool)
      → HasPast (trees 5) closes (name, row) counted
      → (counted ≡ is_counted_row tables (name, row))
      × AreInTurn tables name (periods_after tables row) row.charged
  past_is name row counted past =
      past_told trees tables (trees_hold trees numbers sound) closes
      (sym (closes_said trees numbers sound)) (name, row) counted past

  abbrev IsPast : List ℕ × RecordRow → Type 0
  IsPast entry = (counted : Bool) × HasPast (trees 5) closes entry counted

  its_past : (name : List ℕ) (row : RecordRow) → get tables.records name ≡ Some row
      → IsPast (name, row)
  its_past name row there =
      get_one (record_layout tables.came).total (record_layout tables.came).exact
      (λ (name : List ℕ) (row : RecordRow). IsPast (name, row))
      (map (λ (told : Told). told.0) (told_all trees numbers sound))
      (all-map IsPast (λ (told : Told). told.0) (told_all trees numbers sound)
      (all_weaker (TellsRight trees closes) (λ (told : Told). IsPast told.0)
      (λ told is. (told.1, is.past)) (told_all trees numbers sound)
      sound.records.are.past)) name row there

  module _ (name : List ℕ) (row : RecordRow) (there : get tables.records name ≡ Some row) where
    right : IsRight trees sound.rulings (name, row)
    right = right_of trees numbers sound name row there

    turns : AreInTurn tables name (periods_after tables row) row.charged
    turns =
        let past = its_past name row there in (past_is name row past.0 past.1).1

    -- before the open period it was charged but for what the line of that says
    before_open : (line : Option Bool) → IsLine (trees 5) (length closes + 1) name line
        → option_map_or not line row.charged ≡ charged_back tables name 1 row.charged
    before_open line is =
        let same : length closes + 1 ≡ open_by (ruled tables) - 0 =
        sym (open_is trees numbers sound) ∙ none_off (open_by (ruled tables)) in
        ap (λ (found : Option Bool). option_map_or not found row.charged)
        (line_looked trees tables (trees_hold trees numbers sound) (open_by (ruled tables) - 0) name
        line (subst (λ n. IsLine (trees 5) n name line) same is))
      where
        none_off : (n : ℕ) → n ≡ n - 0
        none_off n = omega arith

    posted : row.posted
        ≡ (if nat_lt 0 (periods_after tables row) then charged_back tables name 1 row.charged else false)
    posted =
        let its = right.marked.posted in
        posted_so row.charged row.posted (is_closed closes row.priced.day) its.line its.posted
        ∙ ap₂ (λ (closed before : Bool). if closed then before else false)
        (closed_is closes row.priced.day sound.ruled.closes.in_order
        ∙ ap (nat_lt 0) (sym (after_is row))) (before_open its.line its.is)

    charged : row.charged ≡ is_due_in tables name
    charged =
        let its = right.marked.charged in
        let holds = trees_hold trees numbers sound in
        let numbered = choices_numbered trees numbers sound in
        let alone = alone_looked trees tables holds name row its.next its.shared there its.looked in
        let withheld = withheld_said trees tables holds numbered sound.rulings.rule
        (length closes + 1) sound.rulings.chosen sound.ruled.choices row.identity in
        let named = named_said trees tables holds numbered sound.rulings.rule
        (length closes + 1) sound.rulings.chosen sound.ruled.choices row.identity name in
        its.is
        ∙ (λ i. not (withheld i) && (alone i || named i))
        ∙ sym (ap (is_due_at tables name) there)

    -- so it is right by the tables
    pub own_row : IsOwnRow sha_names tables name row
    own_row = record {
      named = right.name;
      usage = record { framed = record { is = refl; short = right.short }; usage = right.usage };
      identity = right.identity ∙ identity_is trees numbers sound (row_record row);
      price = price_is trees numbers sound (row_record row) ∙ right.price;
      priced = right.priced;
      charged = charged;
      turns = turns;
      posted = posted;
    }
