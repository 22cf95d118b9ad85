-- What is asked by the bytes that were taken, whatever follows them.
use Rattle.std.proofs.Common.{◌≡◌, ◌∙◌, ℕ, ◌<◌, ◌≤◌, Bool, true, List, [], ◌++◌, length, take, refl}
use Rattle.std.proofs.Common.{sym, ap, subst, arith, inl, inr, length-append, append-nil, IfOk}
use Rattle.std.proofs.Common.{Result, Ok, Err, if◌then◌else◌, le-ltb, lt-ltb}
use Rattle.book_model.proofs.Std.{take-append-le}
use Rattle.book_http.specs.declared.body.BodyFault.{BodyFault}
use Rattle.book_http.specs.declared.body.BodyFault.TheVariants.{Short, Read, Memory}
use Rattle.book_http.specs.declared.requested.ReadFailed.{ReadFailed}
use Rattle.book_http.specs.declared.status.Status.TheVariants.{BadRequest}
use Rattle.book_http.proofs.Words.{RequestHead, asked, BodyComes, HasHead, NoHeadComes, refusal}
use Rattle.book_http.proofs.Words.{IsAsking, RequestSeen, Settles, WholeRequest, headed, headless}
use Rattle.book_http.proofs.Words.{request_seen}
use Rattle.book_http.specs.Bodies.{body_status}
use Rattle.book_http.specs.Requested.{IsAskingAfter, IsUnlessMemory, wanted_with}
use Rattle.book_http.proofs.HeadLemmas.{head_before}

-- what comes with its whole body is asked, whatever follows
pub whole_wanted : (Wants : List ℕ → RequestSeen) (size : ℕ) (came body more : List ℕ)
    → size ≤ length came → body ≡ take size came
    → Wants body ≡ wanted_with Wants size (came ++ more)
whole_wanted Wants size came body more enough is =
    let few : size ≤ length (came ++ more) = rw length-append (omega arith) in
    let same : body ≡ take size (came ++ more) = is ∙ sym (take-append-le size came more enough) in
    subst
    (λ (short : Bool). Wants body
    ≡ (if short then Settles (refusal BadRequest) else Wants (take size (came ++ more))))
    (sym (le-ltb (length (came ++ more)) size few)) (ap Wants same)

-- with a body that the input's end cuts short nothing is
short_wanted : (Wants : List ℕ → RequestSeen) (size : ℕ) (came more : List ℕ) → more ≡ []
    → length came < size
    → Settles (refusal BadRequest) ≡ wanted_with Wants size (came ++ more)
short_wanted Wants size came more none short =
    let whole : came ++ more ≡ came = ap (λ bytes. came ++ bytes) none ∙ append-nil came in
    let few : length (came ++ more) < size = rw whole short in
    subst
    (λ (short : Bool). Settles (refusal BadRequest)
    ≡ (if short then Settles (refusal BadRequest) else Wants (take size (came ++ more))))
    (sym (lt-ltb (length (came ++ more)) size few)) refl

-- so what is answered without the body is what is asked
module _ (ended : Bool) (Wants : List ℕ → RequestSeen) (size : ℕ) (came : List ℕ) where
  fault_wanted : (fault : BodyFault) → (fault ≡ Short → ended ≡ true)
      → BodyComes {A = List ℕ} (λ body. body) size came (Err fault) → (more : List ℕ)
      → (ended ≡ true → more ≡ [])
      → IsUnlessMemory (wanted_with Wants size (came ++ more)) (Settles (refusal (body_status fault)))
  fault_wanted Short is_end short more none =
      inl (short_wanted Wants size came more (none (is_end refl)) short)
  fault_wanted Read is_end short more none = inr refl
  fault_wanted Memory is_end short more none = inr refl

  pub body_refused : (fault : BodyFault) (told : Result WholeRequest ReadFailed)
      → (fault ≡ Short → ended ≡ true)
      → BodyComes {A = List ℕ} (λ body. body) size came (Err fault)
      → IfOk told (λ request. request_seen request ≡ Settles (refusal (body_status fault)))
      → IfOk told (λ request. (more : List ℕ) → (ended ≡ true → more ≡ [])
      → IsUnlessMemory (wanted_with Wants size (came ++ more)) (request_seen request))
  body_refused fault (Err failed) is_end short is = tt
  body_refused fault (Ok request) is_end short is = λ more none.
      subst (λ seen. IsUnlessMemory (wanted_with Wants size (came ++ more)) seen) (sym is)
      (fault_wanted fault is_end short more none)

-- bytes after which no head can come ask nothing that is served
pub refused_asking : (ended : Bool) (taken : List ℕ) (request : WholeRequest) → 0 < length taken
    → NoHeadComes ended taken → request_seen request ≡ Settles (refusal BadRequest)
    → IsAsking ended taken request
refused_asking ended taken request some never is more none =
    let long : 0 < length (taken ++ more) = rw length-append (omega arith) in
    headless long (never more none) is

-- what is asked after a head is asked by the bytes that begin with it
pub head_asking : (ended : Bool) (front behind bytes : List ℕ) (head : RequestHead)
    (request : WholeRequest) → HasHead front head behind
    → IsAskingAfter ended (asked head) (behind ++ bytes) request
    → IsAsking ended (front ++ bytes) request
head_asking ended front behind bytes head request stands asking more none =
    let further = head_before (front ++ bytes) head (behind ++ bytes) more
    (head_before front head behind bytes stands) in
    headed head ((behind ++ bytes) ++ more) further (asking more none)
