-- What the bytes of a body's reads make of it, after those that came with the head.
use Rattle.std.proofs.Common.{◌≡◌, ◌∙◌, ℕ, ◌+◌, ◌<◌, ◌≤◌, ◌⊎◌, inl, inr, List, ◌++◌, length, take}
use Rattle.std.proofs.Common.{drop, sym, ap, subst, arith, Result, Ok, Err, length-append, take_all}
use Rattle.std.proofs.Common.{take-append-drop, length-take-le}
use Rattle.std.proofs.lemmas.List.{take-append-le}
use Rattle.std.proofs.Math.Nat.{eq-or-lt_of_le}
use Rattle.book_http.specs.declared.body.BodyFault.{BodyFault}
use Rattle.book_http.specs.declared.body.BodyFault.TheVariants.{Short, Read, Memory}
use Rattle.book_http.specs.Bodies.{BodyComes, Fills, IsWholeBody}
use Rattle.book_http.specs.Reads.{IsDueForBody}

-- a body whose first bytes came with the head is whole
comes_whole : (front bytes body : List ℕ) (had size : ℕ) → (had ≡ size) ⊎ (had < size)
    → had ≤ length front → (had < size → had ≡ length front) → length body ≡ size
    → take had body ≡ take had front → bytes ≡ drop had body
    → IsWholeBody size (front ++ bytes) body
comes_whole front bytes body had size (inl all) few rest long same is =
    let within : size ≤ length front = omega arith in record {
      enough = rw length-append (omega arith);
      bytes = sym (take_all had body (omega arith)) ∙ same ∙ ap (λ n. take n front) all
          ∙ sym (take-append-le size front bytes within);
    }
comes_whole front bytes body had size (inr less) few rest long same is =
    let all : take had front ≡ front = take_all had front (omega (arith, rest less)) in
    let joined : body ≡ front ++ bytes =
    sym (take-append-drop had body) ∙ ap (λ l. l ++ drop had body) (same ∙ all)
    ∙ ap (λ l. front ++ l) (sym is) in
    let size_is : length (front ++ bytes) ≡ size = ap length (sym joined) ∙ long in record {
      enough = omega arith;
      bytes = joined ∙ sym (take_all size (front ++ bytes) (omega arith));
    }

-- a body is whole, or too short, after what came with the head
pub fill_comes : (front bytes body : List ℕ) (had size : ℕ) (result : Result (Unit {0}) BodyFault)
    → had ≤ size → had ≤ length front → (had < size → had ≡ length front) → length body ≡ size
    → take had body ≡ take had front → Fills had body result bytes
    → BodyComes (λ _. body) size (front ++ bytes) result
fill_comes front bytes body had size (Ok done) within few rest long same is =
    comes_whole front bytes body had size (eq-or-lt_of_le within) few rest long same is
fill_comes front bytes body had size (Err Short) within few rest long same fewer =
    let less : had < size = omega arith in rw length-append (omega (arith, rest less))
fill_comes front bytes body had size (Err Read) within few rest long same failed = tt
fill_comes front bytes body had size (Err Memory) within few rest long same none = tt

-- what was copied is at the beginning
pub copied_front : (front copied rest : List ℕ) (had : ℕ) → had ≤ length front
    → copied ≡ take had front → take had (copied ++ rest) ≡ take had front
copied_front front copied rest had within is =
    let long : length copied ≡ had = rw is (length-take-le had front within) in
    take-append-le had copied rest (omega arith) ∙ take_all had copied (omega arith) ∙ is

-- a fault says the same of any body
pub same_fault : {A B : Type 0} (one : A → List ℕ) (other : B → List ℕ) (size : ℕ) (came : List ℕ)
    (fault : BodyFault) → BodyComes one size came (Err fault) → BodyComes other size came (Err fault)
same_fault one other size came Short few = few
same_fault one other size came Read failed = tt
same_fault one other size came Memory none = tt

-- whatever the body would have been
pub fault_comes : {A : Type 0} (bytes : A → List ℕ) (size : ℕ) (came : List ℕ) (fault : BodyFault)
    → BodyComes bytes size came (Err fault)
    → BodyComes {A = List ℕ} (λ body. body) size came (Err fault)
fault_comes bytes size came fault is = same_fault bytes (λ body. body) size came fault is

-- a vector, all of whose bytes were written
pub all_written : (body rest : List ℕ) (size : ℕ) → length body ≡ size
    → take size (body ++ rest) ≡ body
all_written body rest size long =
    take-append-le size body rest (omega arith) ∙ take_all size body (omega arith)

-- so a read for the rest of it is due after what came with the head
pub due_behind_front : (front : List ℕ) (had size : ℕ) → (had < size → had ≡ length front)
    → (came : List ℕ) (room : ℕ) → IsDueForBody size (had + length came) room
    → IsDueForBody size (length (front ++ came)) room
due_behind_front front had size rest came room due =
    let less : had < size = omega (arith, due.short) in
    let same : had + length came ≡ length (front ++ came) =
    rw length-append (omega (arith, rest less)) in
    subst (λ n. IsDueForBody size n room) same due
