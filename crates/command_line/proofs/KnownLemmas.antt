-- What clap's builders make of the table of commands.
use Rattle.std.proofs.Common.{◌≡◌, ◌∙◌, false, List, [], ◌∷◌, ◌++◌, ℕ, suc, refl, sym, ap, subst}
use Rattle.std.proofs.Common.{map, take, append-nil, append_assoc, ◌<◌, length, ◌||◌}
use Rattle.std.specs.List.{All}
use Rattle.std.proofs.lemmas.List.Elements.{All-head, All-tail, All-push}
use Rattle.std.proofs.Math.Seq.{take-suc}
use Rattle.std.proofs.lemmas.List.{map-append}
use Rattle.std.proofs.Common.{slice_index_or, arith, ◌+◌}
use Rattle.clap.specs.Walk.{Rule, Text, rule_of}
use Rattle.clap.specs.Simple.{App, Shape, app_of, shape_of, with_rule, with_subcommand, new_shape}
use Rattle.clap.specs.Built.{AddsInTurn, AddsArg, AddsSubcommand}
use Rattle.clap.specs.declared.builder.arg.Arg.{Arg}
use Rattle.clap.specs.declared.builder.command.Command.{Command}
use Rattle.command_line.specs.declared.known_commands.Argument.{Argument}
use Rattle.command_line.specs.declared.known_commands.KnownCommand.{KnownCommand}
use Rattle.command_line.specs.Shapes.{IsOwn, AreFor, HasNoGlobals, AreCommandsOf, rule_for, shape_for, app_for}

-- arguments in turn
abbrev with_rules : App → List Rule → App
with_rules app [] = app
with_rules app (rule ∷ more) = with_rules (with_rule app rule) more

chain_rules : (c d : Command) (args : List Arg) → AddsInTurn AddsArg c args d → All IsOwn args
    → app_of d ≡ with_rules (app_of c) (map rule_of args)
chain_rules c d [] same own = ap app_of (sym same)
chain_rules c d (arg ∷ more) chain own =
    chain_rules chain.0 d more chain.2 (All-tail IsOwn arg more own)
    ∙ ap (λ app. with_rules app (map rule_of more)) (chain.1.shape (All-head IsOwn arg more own))

chain_globals : (c d : Command) (args : List Arg) → AddsInTurn AddsArg c args d → All IsOwn args
    → HasNoGlobals c → HasNoGlobals d
chain_globals c d [] same own none = subst (λ command. HasNoGlobals command) same none
chain_globals c d (arg ∷ more) chain own none =
    chain_globals chain.0 d more chain.2 (All-tail IsOwn arg more own)
    (chain.1.globals ∙ ap (λ global. global || arg.global) none ∙ All-head IsOwn arg more own)

-- rules that are added to some
rules_added : (app : App) (rules : List Rule)
    → with_rules app rules ≡ record app { top = record app.top { rules = app.top.rules ++ rules } }
rules_added app [] =
    ap (λ rules. record app { top = record app.top { rules = rules } }) (sym (append-nil app.top.rules))
rules_added app (rule ∷ more) =
    rules_added (with_rule app rule) more
    ∙ ap (λ rules. record app { top = record app.top { rules = rules } })
    (append_assoc app.top.rules (rule ∷ []) more)

-- one more argument
pub arg_pushed : (highest : ℕ) (words : List Argument) (i : ℕ) (d : Argument) (args more : List Arg)
    (arg : Arg) → i < length words → AreFor highest (take i words) args
    → rule_of arg ≡ rule_for highest (slice_index_or words i d) → IsOwn arg → more ≡ args ++ arg ∷ []
    → AreFor highest (take (i + 1) words) more
arg_pushed highest words i d args more arg small before rule own is =
    let next : i + 1 ≡ suc i = omega arith in
    subst (λ args. AreFor highest (take (i + 1) words) args) (sym is)
    (subst (λ j. AreFor highest (take j words) (args ++ arg ∷ [])) (sym next) (record {
      rules = map-append rule_of args (arg ∷ [])
          ∙ ap (λ rules. rules ++ rule_of arg ∷ []) before.rules
          ∙ ap (λ rule. map (rule_for highest) (take i words) ++ rule ∷ []) rule
          ∙ sym (ap (map (rule_for highest)) (take-suc words i d small)
          ∙ map-append (rule_for highest) (take i words) (slice_index_or words i d ∷ []));
      own = All-push IsOwn args arg before.own own;
    }))

-- one more command
pub command_pushed : (highest : ℕ) (table : List KnownCommand) (i : ℕ) (d : KnownCommand)
    (commands more : List Command) (command : Command) → i < length table
    → AreCommandsOf highest (take i table) commands
    → shape_of command ≡ shape_for highest (slice_index_or table i d) → HasNoGlobals command
    → more ≡ commands ++ command ∷ [] → AreCommandsOf highest (take (i + 1) table) more
command_pushed highest table i d commands more command small before shape own is =
    let next : i + 1 ≡ suc i = omega arith in
    subst (λ commands. AreCommandsOf highest (take (i + 1) table) commands) (sym is)
    (subst (λ j. AreCommandsOf highest (take j table) (commands ++ command ∷ [])) (sym next)
    (record {
      shapes = map-append shape_of commands (command ∷ [])
          ∙ ap (λ shapes. shapes ++ shape_of command ∷ []) before.shapes
          ∙ ap (λ shape. map (shape_for highest) (take i table) ++ shape ∷ []) shape
          ∙ sym (ap (map (shape_for highest)) (take-suc table i d small)
          ∙ map-append (shape_for highest) (take i table) (slice_index_or table i d ∷ []));
      own = All-push HasNoGlobals commands command before.own own;
    }))

-- a command of the table
pub known_shape : (highest : ℕ) (known : KnownCommand) (start line : Command) (args : List Arg)
    → AddsInTurn AddsArg start args line → AreFor highest known.words.now args
    → app_of start ≡ record { top = new_shape known.name.now; subs = [] }
    → shape_of line ≡ shape_for highest known
known_shape highest known start line args chain are new =
    ap (λ (app : App). app.top)
    (chain_rules start line args chain are.own
    ∙ ap (λ app. with_rules app (map rule_of args)) new
    ∙ rules_added (record { top = new_shape known.name.now; subs = [] }) (map rule_of args))
    ∙ ap (λ rules. record (new_shape known.name.now) { rules = rules }) are.rules

pub known_own : (highest : ℕ) (words : List Argument) (start line : Command) (args : List Arg)
    → AddsInTurn AddsArg start args line → AreFor highest words args → HasNoGlobals start
    → HasNoGlobals line
known_own highest words start line args chain are none =
    chain_globals start line args chain are.own none

-- commands in turn
abbrev with_subs : App → List Shape → App
with_subs app [] = app
with_subs app (shape ∷ more) = with_subs (with_subcommand app shape) more

chain_subs : (c d : Command) (commands : List Command) → AddsInTurn AddsSubcommand c commands d
    → All HasNoGlobals commands → app_of d ≡ with_subs (app_of c) (map shape_of commands)
chain_subs c d [] same own = ap app_of (sym same)
chain_subs c d (command ∷ more) chain own =
    chain_subs chain.0 d more chain.2 (All-tail HasNoGlobals command more own)
    ∙ ap (λ app. with_subs app (map shape_of more))
    (chain.1.shape (All-head HasNoGlobals command more own))

subs_added : (top : Shape) (had shapes : List Shape) → top.is_leaf ≡ false
    → with_subs (record { top = top; subs = had }) shapes ≡ record { top = top; subs = had ++ shapes }
subs_added top had [] leaf = ap (λ subs. record { top = top; subs = subs }) (sym (append-nil had))
subs_added top had (shape ∷ more) leaf =
    ap (λ (top : Shape). with_subs (record { top = top; subs = had ++ shape ∷ [] }) more)
    (ap (λ leaf. record top { is_leaf = leaf }) (sym leaf))
    ∙ subs_added top (had ++ shape ∷ []) more leaf
    ∙ ap (λ subs. record { top = top; subs = subs }) (append_assoc had (shape ∷ []) more)

table_app : (program : Text) (highest : ℕ) (table : List KnownCommand)
    → with_subs (app_for program highest []) (map (shape_for highest) table)
    ≡ app_for program highest table
table_app program highest [] = refl
table_app program highest (known ∷ more) =
    subs_added (app_for program highest (known ∷ more)).top (shape_for highest known ∷ [])
    (map (shape_for highest) more) refl

-- the whole program
pub known_app : (program : Text) (highest : ℕ) (table : List KnownCommand) (start line : Command)
    (commands : List Command) → AddsInTurn AddsSubcommand start commands line
    → AreCommandsOf highest table commands → app_of start ≡ app_for program highest []
    → app_of line ≡ app_for program highest table
known_app program highest table start line commands chain are new =
    chain_subs start line commands chain are.own
    ∙ ap (λ app. with_subs app (map shape_of commands)) new
    ∙ ap (with_subs (app_for program highest [])) are.shapes
    ∙ table_app program highest table
