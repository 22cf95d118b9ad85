use Rattle.std.proofs.Common.{refl, subst}
use Rattle.std.specs.declared.io.ErrorKind.TheVariants.{OutOfMemory}
use Rattle.chargectl.specs.WithheldWorks.{IsNamedOf}
use Rattle.chargectl.proofs.withheld_works.read_dump.Goals as goal

-- what the reader had is what the file holds
pub returns-in-Ok-clause-named : goal.returns-in-Ok-clause-named
returns-in-Ok-clause-named g c =
    subst (λ had. IsNamedOf c.args.layout had c.in-Ok.named) c.in_ok-input.ensures c.in-Ok.ensures

-- there was no memory for the names
pub returns-in-Err-clause-refused : goal.returns-in-Err-clause-refused
returns-in-Err-clause-refused g c = (OutOfMemory, refl)
