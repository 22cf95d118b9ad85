-- Why a file, the port or the output failed, in words for people.
use Rattle.std.specs.Prelude.{ℕ, List, codes}
use Rattle.program_output.specs.declared.causes.Cause.{Cause}
use Rattle.program_output.specs.declared.causes.Cause.TheVariants.{Missing, Denied, Folder, Linked}
use Rattle.program_output.specs.declared.causes.Cause.TheVariants.{Taken, Failed}

-- each cause has its words
abbrev pub cause_text : Cause → List ℕ
cause_text Missing = codes "not there"
cause_text Denied = codes "no permission"
cause_text Folder = codes "a folder"
cause_text Linked = codes "another name leads to the same file"
cause_text Taken = codes "in use"
cause_text Failed = codes "failed"
