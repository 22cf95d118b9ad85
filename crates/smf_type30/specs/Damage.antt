-- The numbers that reports and messages show for damages.
use Rattle.std.specs.Prelude.{ℕ}
use Rattle.smf_type30.specs.declared.damage.Damage.{Damage}
use Rattle.smf_type30.specs.declared.damage.Damage.TheVariants.{Short, Date, Time, NoIdentification}
use Rattle.smf_type30.specs.declared.damage.Damage.TheVariants.{Identification, Processor}
use Rattle.smf_type30.specs.declared.damage.Damage.TheVariants.{InputOutput, Completion, Accounting}

abbrev pub damage_number : Damage → ℕ
damage_number Short = 1
damage_number Date = 2
damage_number Time = 3
damage_number NoIdentification = 4
damage_number Identification = 5
damage_number Processor = 6
damage_number InputOutput = 7
damage_number Completion = 8
damage_number Accounting = 9
