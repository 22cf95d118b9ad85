-- Each word of a command has its value after a parse without a fault.
use Rattle.std.proofs.Common.{◌≡◌, ◌∙◌, ◌&&◌, ◌||◌, inl, inr, ℕ, Bool, true, false, cond, List, []}
use Rattle.std.proofs.Common.{◌∷◌, ◌++◌, map, Some, None, refl, sym, ap, subst, find, bytes_eq}
use Rattle.std.proofs.Common.{IsSomeAnd, codes, is_some}
use Rattle.clap.specs.Simple.{built_leaf, filled, filled_from, help_rule, help_shape, index_after}
use Rattle.clap.specs.Simple.{inherited, label_of, with_index}
use Rattle.clap.specs.Values.{read_as, reading_of}
use Rattle.clap.specs.Walk.{answers_to, has_row}
use Rattle.clap.specs.declared.builder.value_parser.ValueParser.{ValueParser}
use Rattle.clap.proofs.ValueTestLemmas.{accepts-Accepts}
use Rattle.clap.proofs.WalkLemmas.{list_any-map}
use Rattle.command_line.specs.declared.known_commands.Argument.{Argument}
use Rattle.command_line.specs.declared.known_commands.KnownCommand.{KnownCommand}
use Rattle.command_line.specs.declared.known_commands.ValueKind.{ValueKind}
use Rattle.command_line.proofs.Shared.{list_all, list_any, same_Some, bytes_eq-Decides, level_fault}
use Rattle.command_line.proofs.Shared.{Shape, accepts, Row, Rule, Text, first_of, nothing_held}
use Rattle.command_line.proofs.Shared.{one_of, rows_after, HasWords, command_seen, distinct, leaf}
use Rattle.command_line.specs.Given.{HasValue, HasWord}
use Rattle.command_line.specs.Known.{value_seen, word_seen}
use Rattle.command_line.specs.Requests.{IsFlag}
use Rattle.command_line.specs.Shapes.{above, parser_of, rule_for, shape_for}
use Rattle.command_line.proofs.RowLemmas.{In, OwnIn, Takes, flagged_takes, none_some, own_in}
use Rattle.command_line.proofs.RowLemmas.{true_false, valued_takes}
use Rattle.command_line.proofs.LevelLemmas.{HasValueOf, NoFault, default_row, defaulted_has}
use Rattle.command_line.proofs.LevelLemmas.{no_fault, required_row, row_value, rows_fit}
use Rattle.clap.specs.declared.builder.value_parser.ValueParser.TheVariants as parser
use Rattle.command_line.specs.declared.known_commands.Argument.TheVariants as word
use Rattle.command_line.specs.declared.known_commands.ValueKind.TheVariants as kind

-- a value that passed a parser
abbrev Valued : Text → ValueParser → List Row → Type 0
Valued name p rows = (v : Text) × (first_of name rows ≡ Some v)
    × (one_of name rows ≡ Some (read_as (reading_of p) v)) × (accepts false p v ≡ true)

-- is a value of its kind
kind_given : (highest : ℕ) (kind : ValueKind) (name : Text) (rows : List Row)
    → Valued name (parser_of highest kind) rows → HasValue rows name (value_seen kind)
kind_given highest kind.Text name rows given = ap is_some given.1
kind_given highest (kind.OneOf texts) name rows given =
    subst (λ o. IsSomeAnd o (λ text. list_any (λ one. bytes_eq one text)
    (map (λ t. t.now) texts.now) ≡ true)) (sym given.1)
    (sym (list_any-map (λ one. bytes_eq one given.0) (λ t. t.now) texts.now) ∙ given.3)
kind_given highest (kind.AtMost most) name rows given =
    (given.0, 0, given.2, accepts-Accepts false (parser_of highest (kind.AtMost most)) given.0 given.3)
kind_given highest (kind.UpTo most) name rows given =
    (given.0, 1, given.2, accepts-Accepts false (parser_of highest (kind.UpTo most)) given.0 given.3)
kind_given highest kind.Rate name rows given =
    let passed = accepts-Accepts false (parser_of highest kind.Rate) given.0 given.3 in
    (given.0, given.2, passed.0, passed.1)

-- and a flag's is true or false
flag_given : (name : Text) (rows : List Row) → Valued name parser.Bool rows
    → (flag : Bool) × IsFlag rows name flag
flag_given name rows given = go (bytes_eq given.0 (codes "true")) refl given.3
  where
    go : (b : Bool) → bytes_eq given.0 (codes "true") ≡ b
        → (b || bytes_eq given.0 (codes "false")) ≡ true → (flag : Bool) × IsFlag rows name flag
    go true is passed = (true, given.2 ∙ ap Some ((bytes_eq-Decides given.0 (codes "true")).0 is))
    go false is passed =
        (false, given.2 ∙ ap Some ((bytes_eq-Decides given.0 (codes "false")).0 passed))

-- an argument's value, where it has a row
value_given : (s : Shape) (t : Rule) (words : List Text) → OwnIn t s.rules
    → Takes s.args_override_self t → NoFault s [] words false []
    → has_row t.id (rows_after s.rules [] words) ≡ true
    → HasValueOf t (rows_after s.rules [] words)
value_given s t words own takes none has =
    row_value t (rows_after s.rules [] words) (rows_fit s t words own takes none) has

-- what building makes of a word, at its place
abbrev built_rule : ℕ → ℕ → Argument → Rule
built_rule highest i w = with_index i (filled (rule_for highest w))

word_given : (s : Shape) (highest i : ℕ) (w : Argument) (words : List Text)
    → In (built_rule highest i w) s.rules → OwnIn (built_rule highest i w) s.rules
    → NoFault s [] words false [] → HasWord (rows_after s.rules [] words) (word_seen w)
word_given s highest i (word.Flag name help) words is own none =
    let t = built_rule highest i (word.Flag name help) in
    flag_given name.now (rows_after s.rules [] words)
    (value_given s t words own (flagged_takes s.args_override_self t) none
    (default_row s t words (defaulted_has (codes "false") [] t) is))
word_given s highest i (word.InPlace name help value) words is own none =
    let t = built_rule highest i (word.InPlace name help value) in
    kind_given highest value name.now (rows_after s.rules [] words)
    (value_given s t words own (valued_takes s.args_override_self t) none
    (required_row s t words none is))
word_given s highest i (word.InPlaceOr name help value text) words is own none =
    let t = built_rule highest i (word.InPlaceOr name help value text) in
    kind_given highest value name.now (rows_after s.rules [] words)
    (value_given s t words own (valued_takes s.args_override_self t) none
    (default_row s t words (defaulted_has text.now [] t) is))
word_given s highest i (word.Named name help value) words is own none =
    let t = built_rule highest i (word.Named name help value) in
    kind_given highest value name.now (rows_after s.rules [] words)
    (value_given s t words own (valued_takes s.args_override_self t) none
    (required_row s t words none is))
word_given s highest i (word.NamedOr name help value text) words is own none =
    let t = built_rule highest i (word.NamedOr name help value text) in
    kind_given highest value name.now (rows_after s.rules [] words)
    (value_given s t words own (valued_takes s.args_override_self t) none
    (default_row s t words (defaulted_has text.now [] t) is))
word_given s highest i (word.NamedIfGiven name help value) words is own none = tt
word_given s highest i (word.InPlaceIfGiven name help value) words is own none = tt

words_given : (s : Shape) (highest : ℕ) (ws : List Argument) (i : ℕ) (words : List Text)
    → ((t : Rule) → In t (filled_from i (map (rule_for highest) ws ++ help_rule ∷ []))
    → In t s.rules)
    → distinct s.rules ≡ true → NoFault s [] words false []
    → HasWords (rows_after s.rules [] words) (map word_seen ws)
words_given s highest [] i words among alone none = tt
words_given s highest (w ∷ ws) i words among alone none =
    let t = built_rule highest i w in
    let is : In t s.rules = among t (inl refl) in (
      word_given s highest i w words is (own_in t s.rules alone is) none,
      words_given s highest ws (index_after i (rule_for highest w)) words
          (λ other later. among other (inr later)) alone none,
    )

-- ---- the commands of a table, as building makes them

pub leaves : (program : Text) (highest : ℕ) (table : List KnownCommand)
    → map built_leaf (map (inherited (above program)) (map (shape_for highest) table)
    ++ help_shape ∷ [])
    ≡ map (leaf program highest) table ++ built_leaf help_shape ∷ []
leaves program highest [] = refl
leaves program highest (known ∷ more) =
    ap (λ rest. leaf program highest known ∷ rest) (leaves program highest more)

leaf_given : (program : Text) (highest : ℕ) (known : KnownCommand) (words : List Text)
    → distinct (leaf program highest known).rules ≡ true
    → level_fault (leaf program highest known) [] nothing_held words false [] ≡ []
    → HasWords (rows_after (leaf program highest known).rules [] words)
    (map word_seen known.words.now)
leaf_given program highest known words alone none =
    let s = leaf program highest known in
    words_given s highest known.words.now 1 words (λ t is. is) alone
    (no_fault s [] words false [] none)

both : (a b : Bool) → (a && b) ≡ true → (a ≡ true) × (b ≡ true)
both true b e = (refl, e)
both false b e = absurd (true_false (sym e))

-- the command that a word names, and its words
pub entered_given : (program : Text) (highest : ℕ) (table : List KnownCommand) (name : Text)
    (words : List Text) (s : Shape) → bytes_eq name (codes "help") ≡ false
    → list_all (λ (x : Shape). distinct x.rules) (map (leaf program highest) table) ≡ true
    → find (λ x. answers_to name (label_of x))
    (map (leaf program highest) table ++ built_leaf help_shape ∷ []) ≡ Some s
    → level_fault s [] nothing_held words false [] ≡ []
    → (s.name ≡ name) × IsSomeAnd (find (λ c. bytes_eq c.0 name) (map command_seen table))
    (λ c. HasWords (rows_after s.rules [] words) c.1)
entered_given program highest [] name words s other alone found none =
    absurd (go (bytes_eq (codes "help") name) refl found)
  where
    go : (b : Bool) → bytes_eq (codes "help") name ≡ b
        → cond (b || false) (Some (built_leaf help_shape)) None ≡ Some s → ⊥
    go true is met =
        let same : bytes_eq name (codes "help") ≡ true =
        (bytes_eq-Decides name (codes "help")).1
        (sym ((bytes_eq-Decides (codes "help") name).0 is)) in
        true_false (sym same ∙ other)
    go false is met = none_some s met
entered_given program highest (known ∷ more) name words s other alone found none =
    let parts = both (distinct (leaf program highest known).rules)
    (list_all (λ (x : Shape). distinct x.rules) (map (leaf program highest) more)) alone in
    go (bytes_eq known.name.now name) refl found parts.0
    (λ later. entered_given program highest more name words s other parts.1 later none)
  where
    go : (b : Bool) → bytes_eq known.name.now name ≡ b
        → cond (b || false) (Some (leaf program highest known))
        (find (λ x. answers_to name (label_of x))
        (map (leaf program highest) more ++ built_leaf help_shape ∷ [])) ≡ Some s
        → distinct (leaf program highest known).rules ≡ true
        → (find (λ x. answers_to name (label_of x))
        (map (leaf program highest) more ++ built_leaf help_shape ∷ []) ≡ Some s
        → (s.name ≡ name) × IsSomeAnd (find (λ c. bytes_eq c.0 name) (map command_seen more))
        (λ c. HasWords (rows_after s.rules [] words) c.1))
        → (s.name ≡ name)
        × IsSomeAnd (cond b (Some (command_seen known))
        (find (λ c. bytes_eq c.0 name) (map command_seen more)))
        (λ c. HasWords (rows_after s.rules [] words) c.1)
    go true is met own later =
        let same : leaf program highest known ≡ s = same_Some (leaf program highest known) s met in (
          ap (λ (x : Shape). x.name) (sym same) ∙ (bytes_eq-Decides known.name.now name).0 is,
          subst (λ (x : Shape). HasWords (rows_after x.rules [] words)
              (map word_seen known.words.now)) same
              (leaf_given program highest known words own
              (subst (λ (x : Shape). level_fault x [] nothing_held words false [] ≡ []) (sym same)
              none)),
        )
    go false is met own later = later met
