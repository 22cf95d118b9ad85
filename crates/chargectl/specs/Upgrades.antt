-- Books of an older form, which are brought over to the present one.
use Rattle.std.specs.Prelude.{◌≡◌, true, ℕ, List, ◌++◌, codes, IfErr, IfOk, Option, None, Result}
use Rattle.std.specs.Prelude.{Ok, Err, decimal}
use Rattle.named_books.specs.declared.repository.RepositoryFault.{RepositoryFault}
use Rattle.named_books.specs.declared.repository.Upgraded.{Upgraded}
use Rattle.named_books.specs.declared.repository.Upgraded.TheVariants.{To, Already}
use Rattle.named_books.specs.Shelves.{Shelf, IsThere, IsUntouched}
use Rattle.without_books.specs.declared.command_fault.CommandFault.{CommandFault}
use Rattle.without_books.specs.declared.ended.Ended.{Ended}
use Rattle.without_books.specs.Faults.{IsPrinted, shelf_fault}
use Rattle.chargectl.specs.Commands.{IsRefusedBy}

-- what is written of them, by what came of it: the number of the form that they have now, or that they
-- had it before
abbrev pub upgrade_text : Upgraded → List ℕ
upgrade_text (To form) = codes "UPGRADED " ++ decimal form ++ codes "\n"
upgrade_text Already = codes "ALREADY\n"

-- It was written; or the output failed, and has a prefix of it. Of books that were not opened nothing is.
abbrev pub EndsUpgrade : Result Upgraded RepositoryFault → Option (List ℕ) → Option (List ℕ) → Type 0
    → Result (Unit {0}) CommandFault → Type 0
EndsUpgrade (Ok upgraded) held holds Failed came =
    IsPrinted (upgrade_text upgraded) held holds Failed came
EndsUpgrade (Err fault) held holds Failed came = (holds ≡ held) × (came ≡ Err (shelf_fault fault))

-- The books of a name were brought over, or had the present form, as their place told, or why not; and
-- whether their log is left. They hold the history that they held.
pub record Upgrades (book : List ℕ) (old new : Shelf) (held holds : Option (List ℕ)) (Failed : Type 0)
    (ended : Ended) : Type 0 where
  pub upgraded : Result Upgraded RepositoryFault
  pub done : IsUntouched book old new
  pub there : IsThere book old new upgraded
  pub may : IfOk upgraded (old.upgrades book)
  pub refused : IfErr upgraded (old.refuses book)
  pub ends : EndsUpgrade upgraded held holds Failed ended.came
  pub log : new.has_log book ended.has_log
  pub change : ended.is_change ≡ true
  pub notice : ended.notice ≡ None

-- or the place refused them before
abbrev pub UpgradesBy : List ℕ → Shelf → Shelf → Option (List ℕ) → Option (List ℕ) → Type 0
    → Result Ended CommandFault → Type 0
UpgradesBy book old new held holds Failed (Ok ended) = Upgrades book old new held holds Failed ended
UpgradesBy book old new held holds Failed (Err why) = IsRefusedBy book old new held holds why
