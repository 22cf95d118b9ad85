-- Words in which clap finds no fault name a command of the table, and each of its words has its value.
use Rattle.std.proofs.Common.{◌≡◌, ◌&&◌, ℕ, Bool, true, false, cond, List, [], ◌∷◌, map, Option}
use Rattle.std.proofs.Common.{Some, None, ap, refl, sym, subst, find, fold, option_map, bytes_eq}
use Rattle.std.proofs.Common.{IsSomeAnd, codes, is_some, not}
use Rattle.clap.specs.Faults.{entered_fault, fault_of, other_fault, step_fault, turn_fault}
use Rattle.clap.specs.Faults.{walk_fault, word_fault}
use Rattle.clap.specs.Lexer.{long_of, short_of}
use Rattle.clap.specs.Simple.{argument_words, built, entered, label_of, names_of, rows_at}
use Rattle.clap.specs.Simple.{subcommand_of}
use Rattle.clap.specs.Walk.{Held, Outcome, Step, Waiting, Walk, after_flag, after_step, answers_to}
use Rattle.clap.specs.Walk.{arg_by_index, bundle, done, idle, long_met, arg_by_long, long_or_other}
use Rattle.clap.specs.Walk.{next, option, plain, plain_word, positional, refused, short_or_plain}
use Rattle.clap.specs.Walk.{stop_after, subcommand, subcommand_met, subcommand_or_other}
use Rattle.clap.specs.Walk.{to_positional, trailing, value, waits, walk_from, walked, walked_from}
use Rattle.clap.specs.Walk.{word_met}
use Rattle.clap.specs.declared.error.kind.ErrorKind.{ErrorKind}
use Rattle.command_line.specs.declared.known_commands.KnownCommand.{KnownCommand}
use Rattle.command_line.proofs.Shared.{list_all, option_map_or, level_fault, Kinds, or_else, App}
use Rattle.command_line.proofs.Shared.{Shape, Names, Row, Rule, Text, nothing_held, rows_after}
use Rattle.command_line.proofs.Shared.{HasWords, HasWordsOf, command_seen, app_for, distinct, leaf}
use Rattle.command_line.specs.Known.{WordSeen, known_table}
use Rattle.command_line.proofs.RowLemmas.{neither, no_kinds, true_false}
use Rattle.command_line.proofs.LevelLemmas.{checks_passed, no_fault}
use Rattle.command_line.proofs.GivenLemmas.{entered_given, leaves}
use Rattle.clap.specs.declared.error.kind.ErrorKind.TheVariants as kind

-- ---- no walk without a fault stops at `help`

abbrev NotHelp : Option (Text × List Text) → Type 0
NotHelp None = Unit {0}
NotHelp (Some p) = bytes_eq p.0 (codes "help") ≡ false

abbrev NoHelp : Step → Type 0
NoHelp (next waiting) = Unit {0}
NoHelp (trailing position) = Unit {0}
NoHelp (subcommand name) = bytes_eq name (codes "help") ≡ false
NoHelp value = Unit {0}

plain_step : (c : List Rule) (waiting : Waiting) (word : Text) (h : Held)
    → NoHelp (plain_word c waiting word h).1
plain_step c idle word h = tt
plain_step c (option id) word h = tt
plain_step c positional word h = tt

flag_step : (c : List Rule) (waiting : Waiting) (word : Text) (h : Held) (outcome : Outcome)
    → NoHelp (after_flag c waiting word h outcome).1
flag_step c waiting word h done = tt
flag_step c waiting word h (waits id) = tt
flag_step c waiting word h plain = plain_step c waiting word h
flag_step c waiting word h refused = plain_step c waiting word h

short_step : (c : List Rule) (waiting : Waiting) (word : Text) (f : Option Text) (h : Held)
    → NoHelp (short_or_plain c waiting word f h).1
short_step c waiting word (Some flags) h =
    flag_step c waiting word (bundle c flags h).0 (bundle c flags h).1
short_step c waiting word None h = plain_step c waiting word h

long_step : (c : List Rule) (waiting : Waiting) (word : Text) (o : Option (Text × Option Text))
    (h : Held) → NoHelp (long_or_other c waiting word o h).1
long_step c waiting word (Some q) h =
    let met = long_met c (arg_by_long c q.0) q.1 h in
    flag_step c waiting word met.0 met.1
long_step c waiting word None h = short_step c waiting word (short_of word) h

no_help : (b d : Bool) (k : ErrorKind) (ks : Kinds) → d ≡ false → cond (b && not d) (k ∷ ks) [] ≡ []
    → b ≡ false
no_help false d k ks off none = refl
no_help true true k ks off none = absurd (true_false off)
no_help true false k ks off none = absurd (no_kinds k ks none)

met_step : (s : Shape) (names : Names) (is_trailing : Bool) (waiting : Waiting) (position : ℕ)
    (word : Text) (h : Held) → s.disable_help_subcommand ≡ false
    → word_fault s names is_trailing waiting word h ≡ []
    → NoHelp (word_met s.rules names is_trailing waiting position word h).1
met_step s names true waiting position word h off none = tt
met_step s names false waiting position word h off none =
    go (subcommand_met names waiting word) none
  where
    dashes : (b : Bool) → NoHelp (cond b (h, trailing position)
        (long_or_other s.rules waiting word (long_of word) h)).1
    dashes true = tt
    dashes false = long_step s.rules waiting word (long_of word) h

    go : (o : Option Text) → other_fault s o word h ≡ []
        → NoHelp (subcommand_or_other s.rules o waiting position word h).1
    go (Some name) none = no_help (bytes_eq name (codes "help")) s.disable_help_subcommand
        kind.DisplayHelp (kind.InvalidSubcommand ∷ []) off none
    go None none = dashes (bytes_eq word (45 ∷ 45 ∷ []))

positional_stop : (c : List Rule) (o : Option Rule) (word : Text) (w : Walk) (h : Held)
    → NotHelp w.stopped → NotHelp (to_positional c o word w h).stopped
positional_stop c None word w h before = before
positional_stop c (Some a) word w h before = tt

step_stop : (c : List Rule) (word : Text) (w : Walk) (h : Held) (step : Step) → NotHelp w.stopped
    → NoHelp step → NotHelp (after_step c word w h step).stopped
step_stop c word w h (next waiting) before free = before
step_stop c word w h (trailing position) before free = before
step_stop c word w h (subcommand name) before free = free
step_stop c word w h value before free =
    positional_stop c (arg_by_index c w.position) word w h before

turned_stop : (s : Shape) (names : Names) (w : Walk) (word : Text) (o : Option (Text × List Text))
    → s.disable_help_subcommand ≡ false
    → (let met = word_met s.rules names w.is_trailing w.waiting w.position word w.held in
    cond (is_some o) [] (or_else (word_fault s names w.is_trailing w.waiting word w.held)
    (step_fault s w.position met.0 met.1)) ≡ []) → NotHelp w.stopped → NotHelp o
    → NotHelp (walked_from s.rules names o w word).stopped
turned_stop s names w word (Some p) off none before at = at
turned_stop s names w word None off none before at =
    let met = word_met s.rules names w.is_trailing w.waiting w.position word w.held in
    step_stop s.rules word w met.0 met.1 before
    (met_step s names w.is_trailing w.waiting w.position word w.held off
    (neither (word_fault s names w.is_trailing w.waiting word w.held)
    (step_fault s w.position met.0 met.1) none).0)

turn_stop : (s : Shape) (names : Names) (w : Walk) (word : Text)
    → s.disable_help_subcommand ≡ false → turn_fault s names w word ≡ [] → NotHelp w.stopped
    → NotHelp (walked s.rules names w word).stopped
unfolding walked
turn_stop s names w word off none before =
    turned_stop s names w word w.stopped off none before before

walk_stop : (s : Shape) (names : Names) (words : List Text) (w : Walk)
    → s.disable_help_subcommand ≡ false → walk_fault s names w words ≡ [] → NotHelp w.stopped
    → NotHelp (fold (walked s.rules names) w words).stopped
unfolding walk_fault
walk_stop s names [] w off none before = before
walk_stop s names (word ∷ rest) w off none before =
    let parts = neither (turn_fault s names w word)
    (walk_fault s names (walked s.rules names w word) rest) none in
    walk_stop s names rest (walked s.rules names w word) off parts.1
    (turn_stop s names w word off parts.0 before)

-- ---- the command that the words name

required_met : (has : Bool) → (not has && true) ≡ false → has ≡ true
required_met true e = refl
required_met false e = absurd (true_false e)

-- what holds of the command that is entered, where each that may be entered has it
entered_command : (a : App) (P : Text × List Row → Type 0)
    → ((name : Text) (words : List Text) (s : Shape) → bytes_eq name (codes "help") ≡ false
    → find (λ x. answers_to name (label_of x)) a.subs ≡ Some s
    → level_fault s [] nothing_held words false [] ≡ [] → P (rows_at s words))
    → (stop : Option (Text × List Text)) → NotHelp stop → entered_fault a stop ≡ []
    → is_some (entered a stop) ≡ true → IsSomeAnd (entered a stop) P
entered_command a P holds None other none is = absurd (true_false (sym is))
entered_command a P holds (Some p) other none is =
    go (find (λ x. answers_to p.0 (label_of x)) a.subs) refl none is
  where
    go : (o : Option Shape) → find (λ x. answers_to p.0 (label_of x)) a.subs ≡ o
        → option_map_or (λ s. level_fault s [] nothing_held p.1 false []) o [] ≡ []
        → is_some (option_map (λ s. rows_at s p.1) o) ≡ true
        → IsSomeAnd (option_map (λ s. rows_at s p.1) o) P
    go None found none is = absurd (true_false (sym is))
    go (Some s) found none is = holds p.0 p.1 s other found none

-- the same of words without a fault, at a command that wants a subcommand and has `help`
met_command : (a : App) (P : Text × List Row → Type 0) (words : List Text)
    → (built a).top.subcommand_required ≡ true
    → (built a).top.disable_help_subcommand ≡ false
    → ((name : Text) (rest : List Text) (s : Shape) → bytes_eq name (codes "help") ≡ false
    → find (λ x. answers_to name (label_of x)) (built a).subs ≡ Some s
    → level_fault s [] nothing_held rest false [] ≡ [] → P (rows_at s rest))
    → fault_of a words ≡ [] → IsSomeAnd (subcommand_of a words) P
met_command a P words wants off holds none =
    let b = built a in
    let args = argument_words a words in
    let stop = stop_after b.top.rules (names_of b) args in
    let has = is_some (entered b stop) in
    let fault = no_fault b.top (names_of b) args has (entered_fault b stop) none in
    let rows = rows_after b.top.rules (names_of b) args in
    let checked = (checks_passed _ (not has && b.top.subcommand_required) _ fault.checks).1 in
    let is : has ≡ true =
    required_met has (subst (λ (w : Bool). (not has && w) ≡ false) wants checked) in
    entered_command b P holds stop
    (walk_stop b.top (names_of b) args (walk_from nothing_held) off fault.walks tt)
    fault.beneath is

abbrev is_none : List (Text × List WordSeen) → Bool
is_none [] = true
is_none (command ∷ more) = false

no_commands : [] ≡ known_table → ⊥
unfolding known_table
no_commands e = true_false (ap is_none e)

-- words without a fault have the words of a command of the table
pub words_of_command : (program : Text) (highest : ℕ) (table : List KnownCommand) (words : List Text)
    → list_all (λ (x : Shape). distinct x.rules) (map (leaf program highest) table) ≡ true
    → map command_seen table ≡ known_table → fault_of (app_for program highest table) words ≡ []
    → IsSomeAnd (subcommand_of (app_for program highest table) words)
    (λ met. HasWordsOf met.0 met.1)
words_of_command program highest [] words alone is none =
    absurd (no_commands is)
words_of_command program highest (known ∷ more) words alone is none =
    met_command (app_for program highest (known ∷ more)) (λ met. HasWordsOf met.0 met.1) words refl
    refl holds none
  where
    holds : (name : Text) (rest : List Text) (s : Shape) → bytes_eq name (codes "help") ≡ false
        → find (λ x. answers_to name (label_of x))
        (built (app_for program highest (known ∷ more))).subs ≡ Some s
        → level_fault s [] nothing_held rest false [] ≡ []
        → HasWordsOf s.name (rows_after s.rules [] rest)
    holds name rest s other found none =
        let given = entered_given program highest (known ∷ more) name rest s other alone
        (subst (λ subs. find (λ x. answers_to name (label_of x)) subs ≡ Some s)
        (leaves program highest (known ∷ more)) found) none in
        subst (λ n. HasWordsOf n (rows_after s.rules [] rest)) (sym given.0)
        (subst (λ table. IsSomeAnd (find (λ command. bytes_eq command.0 name) table)
        (λ command. HasWords (rows_after s.rules [] rest) command.1)) is given.1)
