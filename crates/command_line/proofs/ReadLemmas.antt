-- How words are read.
use Rattle.std.proofs.Common.{◌≡◌, List, [], Option, Some, None, Result, Err, sym, subst, inl, inr}
use Rattle.std.proofs.Common.{String, ok_or, IfSome, IsSome, IsSomeAnd, Global}
use Rattle.clap.specs.Kinds.{HasKind}
use Rattle.clap.specs.Values.{kind_of}
use Rattle.clap.specs.declared.error.Error.{Error}
use Rattle.clap.specs.declared.error.kind.ErrorKind.TheVariants.{OutOfMemory}
use Rattle.command_line.specs.declared.fault.ArgumentFault.{ArgumentFault}
use Rattle.command_line.specs.declared.request.Request.{Request}
use Rattle.command_line.specs.Known.{IsReadBy, IsFaultOf}
use Rattle.command_line.specs.Requests.{IsRequest}
use Rattle.command_line.proofs.RowLemmas.{true_false}
use Rattle.command_line.proofs.Shared.{Kinds, Row, Text}
use Rattle.command_line.specs.declared.fault.ArgumentFault.TheVariants as fault

-- clap found no fault, and the matches are a request
read_ok_or : (met : Option (Text × List Row)) (kinds : Kinds) (text : String Global)
    (request : Option Request) → kinds ≡ [] → IsSome request
    → IfSome request (λ asked. IsSomeAnd met (λ found. IsRequest found.0 found.1 asked))
    → IsReadBy met kinds (ok_or request (fault.Wrong text))
read_ok_or met kinds text (Some request) none some asked = (none, asked)
read_ok_or met kinds text None none some asked = absurd (true_false (sym some))

pub read_ok : (met : Option (Text × List Row)) (kinds : Kinds) (text : String Global)
    (request : Option Request) (result : Result Request ArgumentFault)
    → result ≡ ok_or request (fault.Wrong text) → kinds ≡ [] → IsSome request
    → IfSome request (λ asked. IsSomeAnd met (λ found. IsRequest found.0 found.1 asked))
    → IsReadBy met kinds result
read_ok met kinds text request result is none some asked =
    subst (λ result. IsReadBy met kinds result) (sym is)
    (read_ok_or met kinds text request none some asked)

-- clap found one
read_kind : (met : Option (Text × List Row)) (kinds : Kinds) (e : Error) (told : ArgumentFault)
    → IsFaultOf (kind_of e) told → HasKind kinds e
    → (kind_of e ≡ OutOfMemory → told ≡ fault.Memory) → IsReadBy met kinds (Err told)
read_kind met kinds e told said (inl is) memory =
    subst (λ told. IsReadBy met kinds (Err told)) (sym (memory is)) tt
read_kind met kinds e fault.Memory said (inr among) memory = tt
read_kind met kinds e (fault.Help text) said (inr among) memory = (kind_of e, among, said)
read_kind met kinds e (fault.Wrong text) said (inr among) memory = (kind_of e, among, said)

pub read_err : (met : Option (Text × List Row)) (kinds : Kinds) (e : Error) (told : ArgumentFault)
    → HasKind kinds e → IsFaultOf (kind_of e) told
    → (kind_of e ≡ OutOfMemory → told ≡ fault.Memory) → IsReadBy met kinds (Err told)
read_err met kinds e told has said memory = read_kind met kinds e told said has memory
