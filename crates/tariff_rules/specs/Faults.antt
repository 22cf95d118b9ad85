-- What messages show of a tariff's fault.
use Rattle.std.specs.Prelude.{ℕ, List, codes}
use Rattle.tariff_rules.specs.declared.fault.TariffFault.{TariffFault}
use Rattle.tariff_rules.specs.declared.fault.TariffFault.TheVariants as fault
use Rattle.tariff_rules.specs.declared.key.Key.{Key}
use Rattle.tariff_rules.specs.declared.key.Key.TheVariants as key

-- a fault's number
abbrev pub tariff_number : TariffFault → ℕ
tariff_number fault.Syntax = 1
tariff_number (fault.Missing k) = 2
tariff_number (fault.Range k) = 3
tariff_number fault.Name = 4
tariff_number fault.ShiftConflict = 5
tariff_number fault.TooMany = 6
tariff_number fault.Memory = 7

-- a key as a tariff file has it
abbrev pub key_text : Key → List ℕ
key_text key.Effective = codes "effective"
key_text key.Rates = codes "rates"
key_text key.StepCpu = codes "step_cpu"
key_text key.StepExcp = codes "step_excp"
key_text key.StepRecord = codes "step_record"
key_text key.JobCpu = codes "job_cpu"
key_text key.JobExcp = codes "job_excp"
key_text key.JobRecord = codes "job_record"
key_text key.Shift = codes "shift"
key_text key.Name = codes "name"
key_text key.Days = codes "days"
key_text key.From = codes "from"
key_text key.To = codes "to"
key_text key.Percent = codes "percent"
key_text key.Centre = codes "centre"
key_text key.Account = codes "account"
key_text key.Prefix = codes "prefix"
key_text key.Job = codes "job"
