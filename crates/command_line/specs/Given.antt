-- That each word of a command has its value, so that its request can be read. What may be left out
-- and has no default need not have one.
use Rattle.std.specs.Prelude.{◌≡◌, ◌≢◌, ◌<◌, ◌^◌, ℕ, ℤ, pos, Bool, true, List, [], ◌∷◌, Some, IsSome, ⊤}
use Rattle.std.specs.Prelude.{IsSomeAnd, bytes_eq, codes, find}
use Rattle.std.specs.List.{list_any}
use Rattle.std.specs.Str.Parse.{IsNumeral, digits_value, without_leading_plus}
use Rattle.clap.specs.Lexer.{without_minus}
use Rattle.clap.specs.Values.{IsSignedIn}
use Rattle.clap.specs.Walk.{Row, Text, first_of, one_of}
use Rattle.command_line.specs.Known as known
use Rattle.command_line.specs.Known.{ValueSeen, WordSeen, known_table}
use Rattle.command_line.specs.Requests.{IsFlag}

-- a number that is not above the most, as clap reads it: without a minus before 0
abbrev pub HasNumber : List Row → Text → ℤ → Type 0
HasNumber rows name most = (text : Text) × (low : ℕ) × (one_of name rows ≡ Some (without_minus text))
    × IsSignedIn (pos low) most text

-- a number of 64 bits
abbrev pub HasRate : List Row → Text → Type 0
HasRate rows name =
    (text : Text) × (one_of name rows ≡ Some text) × IsNumeral 10 (without_leading_plus text)
    × (digits_value 10 (without_leading_plus text) < 2 ^ 64)

-- an argument has a value of its kind
abbrev pub HasValue : List Row → Text → ValueSeen → Type 0
HasValue rows name known.any = IsSome (first_of name rows)
HasValue rows name (known.among texts) =
    IsSomeAnd (first_of name rows) (λ text. list_any (λ one. bytes_eq one text) texts ≡ true)
HasValue rows name (known.at_most most) = HasNumber rows name most
HasValue rows name (known.up_to most) = HasNumber rows name most
HasValue rows name known.rate = HasRate rows name

-- so does a word or an option, unless it may be left out without a default
abbrev pub HasWord : List Row → WordSeen → Type 0
HasWord rows (known.flag name) = (flag : Bool) × IsFlag rows name flag
HasWord rows (known.place name value) = HasValue rows name value
HasWord rows (known.place_or name value text) = HasValue rows name value
HasWord rows (known.named name value) = HasValue rows name value
HasWord rows (known.named_or name value text) = HasValue rows name value
HasWord rows (known.named_if_given name value) = ⊤
HasWord rows (known.place_if_given name value) = ⊤

-- and each of these
abbrev pub HasWords : List Row → List WordSeen → Type 0
HasWords rows [] = ⊤
HasWords rows (word ∷ more) = HasWord rows word × HasWords rows more

-- each word of the command with this name has its value
abbrev pub HasWordsOf : Text → List Row → Type 0
HasWordsOf name rows = IsSomeAnd (find (λ command. bytes_eq command.0 name) known_table)
    (λ command. HasWords rows command.1)

-- the commands, in the order in which they are looked for: those that ask no books, those that change
-- books, the statement with what is done to a whole file, and then the other reports
abbrev pub bookless : List Text
bookless = codes "trial" ∷ codes "check" ∷ codes "explain" ∷ []

abbrev pub changes : List Text
changes = codes "init" ∷ codes "tariff" ∷ codes "import" ∷ codes "close" ∷ codes "choose"
    ∷ codes "adopt" ∷ codes "credit" ∷ []

abbrev pub services : List Text
services = codes "statement" ∷ codes "upgrade" ∷ codes "audit" ∷ codes "backup" ∷ codes "serve" ∷ []

-- the text is none of these
abbrev pub NoneIs : List Text → Text → Type 0
NoneIs [] text = ⊤
NoneIs (one ∷ more) text = (text ≢ one) × NoneIs more text
