-- The commands that the program knows, as clap reads them: clap's own words of a command.
use Rattle.std.specs.Prelude.{◌≡◌, ◌&&◌, ℕ, pos, Bool, true, false, List, [], ◌∷◌, Some, bytes_eq, map, not}
use Rattle.std.specs.List.{All, list_any}
use Rattle.clap.specs.Walk.{Rule, Text, rule_of}
use Rattle.clap.specs.Simple.{App, Shape, built_leaf, inherited, marked_built, new_rule, new_shape}
use Rattle.clap.specs.Simple.{shape_of, with_leaf_noted}
use Rattle.clap.specs.declared.builder.action.ArgAction.TheVariants.{Set, SetTrue}
use Rattle.clap.specs.declared.builder.arg.Arg.{Arg}
use Rattle.clap.specs.declared.builder.command.Command.{Command}
use Rattle.clap.specs.declared.builder.command.Command.TheViews.{out-Command}
use Rattle.clap.specs.declared.builder.value_parser.ValueParser.{ValueParser}
use Rattle.clap.specs.declared.builder.value_parser.ValueParser.TheVariants as parser
use Rattle.command_line.specs.declared.known_commands.Argument.{Argument}
use Rattle.command_line.specs.declared.known_commands.Argument.TheVariants as word
use Rattle.command_line.specs.declared.known_commands.KnownCommand.{KnownCommand}
use Rattle.command_line.specs.declared.known_commands.ValueKind.{ValueKind}
use Rattle.command_line.specs.declared.known_commands.ValueKind.TheVariants as kind

-- what a value has to be
abbrev pub parser_of : ℕ → ValueKind → ValueParser
parser_of highest kind.Text = parser.String
parser_of highest (kind.OneOf texts) = parser.Names texts
parser_of highest (kind.AtMost most) = parser.Signed (pos 0) most
parser_of highest (kind.UpTo most) = parser.Signed (pos 1) most
parser_of highest kind.Rate = parser.Unsigned 0 highest

-- what has a value
abbrev pub value_rule : ℕ → Text → ValueKind → Rule
value_rule highest name value = record (new_rule name) {
  action = Some Set;
  value_names = 1;
  parser = Some (parser_of highest value);
}

-- a word or an option of a command
abbrev pub rule_for : ℕ → Argument → Rule
rule_for highest (word.Flag name help) =
    record (new_rule name.now) { long = Some name.now; action = Some SetTrue }
rule_for highest (word.InPlace name help value) =
    record (value_rule highest name.now value) { required = true }
rule_for highest (word.InPlaceOr name help value text) =
    record (value_rule highest name.now value) { defaults = text.now ∷ [] }
rule_for highest (word.Named name help value) =
    record (value_rule highest name.now value) { long = Some name.now; required = true }
rule_for highest (word.NamedOr name help value text) =
    record (value_rule highest name.now value) { long = Some name.now; defaults = text.now ∷ [] }
rule_for highest (word.NamedIfGiven name help value) =
    record (value_rule highest name.now value) { long = Some name.now }
rule_for highest (word.InPlaceIfGiven name help value) = value_rule highest name.now value

-- a command of the program
abbrev pub shape_for : ℕ → KnownCommand → Shape
shape_for highest known =
    record (new_shape known.name.now) { rules = map (rule_for highest) known.words.now }

-- what building makes of a command: the program has a version, and a command has to be named
abbrev pub above : Text → Shape
above program = with_leaf_noted (marked_built (record (new_shape program) {
  has_version = true;
  subcommand_required = true;
  is_leaf = false;
}))

-- and of a command below it
abbrev pub leaf : Text → ℕ → KnownCommand → Shape
leaf program highest known = built_leaf (inherited (above program) (shape_for highest known))

-- no two rules have one name
abbrev pub distinct : List Rule → Bool
distinct [] = true
distinct (rule ∷ rest) = not (list_any (λ other. bytes_eq other.id rule.id) rest) && distinct rest

-- the program, with a table of its commands
abbrev pub app_for : Text → ℕ → List KnownCommand → App
app_for program highest [] = record {
  top = record (new_shape program) { has_version = true; subcommand_required = true };
  subs = [];
}
app_for program highest (known ∷ more) = record {
  top = record (new_shape program) {
    has_version = true;
    subcommand_required = true;
    is_leaf = false;
  };
  subs = map (shape_for highest) (known ∷ more);
}

-- an argument that does not reach into other commands
abbrev pub IsOwn : Arg → Type 0
IsOwn arg = arg.global ≡ false

-- these are the arguments of the words
pub record AreFor (highest : ℕ) (words : List Argument) (args : List Arg) : Type 0 where
  pub rules : map rule_of args ≡ map (rule_for highest) words
  pub own : All IsOwn args

-- nor do those of a command
abbrev pub HasNoGlobals : Command → Type 0
HasNoGlobals command = (out-Command command).has_globals ≡ false

-- these are the commands of the table
pub record AreCommandsOf (highest : ℕ) (table : List KnownCommand) (commands : List Command) : Type 0
  where
    pub shapes : map shape_of commands ≡ map (shape_for highest) table
    pub own : All HasNoGlobals commands
