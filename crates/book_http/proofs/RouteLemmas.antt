-- What a path is found to lead to is what has that path, and what has it is found.
use Rattle.std.proofs.Common.{◌≡◌, ◌∙◌, List, ◌++◌, refl, ap, ℕ, Option, Some, None, IfSome, subst}
use Rattle.std.proofs.Common.{option_and_then, option_map}
use Rattle.book_http.specs.declared.endpoint.Endpoint.{Endpoint}
use Rattle.book_http.proofs.Words.{About, Names, front_of, shape_of, route}
use Rattle.book_http.specs.Paths.{IsPathOf}
use Rattle.book_http.specs.Routes.{asked_behind, asked_in, endpoint_of, path_rest, route_at}
use Rattle.book_http.specs.Routes.{route_on, thing_in}
use Rattle.book_http.proofs.FrontLemmas.{place_found}
use Rattle.book_http.proofs.PeriodLemmas.{rest_found, rest_named}
use Rattle.book_http.proofs.ThingLemmas.{thing_found, thing_named}

-- ---- what is found is served

-- what holds of what follows from each that may be found holds of what follows from what is found
each_by : {A B : Type 0} (f : A → Option B) (found : Option A) (F : B → Type 0)
    → ((it : A) → found ≡ Some it → IfSome (f it) F) → IfSome (option_and_then f found) F
each_by f None F so = tt
each_by f (Some it) F so = so it refl

each_as : {A B : Type 0} (f : A → B) (found : Option A) (F : B → Type 0)
    → ((it : A) → found ≡ Some it → F (f it)) → IfSome (option_map f found) F
each_as f None F so = tt
each_as f (Some it) F so = so it refl

place_served : (place : Endpoint) (path : List ℕ) → IfSome (route_at place path) (IsPathOf path)
unfolding route_at
place_served place path =
    each_by (λ front. asked_behind place front path) (front_of place) (IsPathOf path)
    (λ front served. each_by (asked_in place) (path_rest front path) (IsPathOf path)
    (λ rest left. each_as (λ (thing : About). (place, thing)) (thing_in (shape_of place) rest)
    (IsPathOf path) (λ thing read. record {
      front = front;
      rest = rest;
      served = served;
      is = subst (λ found. IfSome found (λ rest. path ≡ front ++ rest)) left (rest_named front path);
      names = subst (λ found. IfSome found (Names (shape_of place) rest)) read
          (thing_named (shape_of place) rest);
    })))

pub route_found : (path : List ℕ) → IfSome (route path) (IsPathOf path)
route_found path = by (endpoint_of path)
  where
    by : (found : Option Endpoint) → IfSome (route_on found path) (IsPathOf path)
    by None = tt
    by (Some place) = place_served place path

-- ---- what is served is found

pub path_found : (path : List ℕ) (asked : Endpoint × About) → IsPathOf path asked
    → route path ≡ Some asked
unfolding route_at
path_found path (place, thing) it =
    let front = it.front in
    let rest = it.rest in
    ap route it.is
    ∙ ap (λ (found : Option Endpoint). route_on found (front ++ rest))
    (place_found place front rest thing it.served it.names)
    ∙ ap (option_and_then (λ (found : List ℕ). asked_behind place found (front ++ rest))) it.served
    ∙ ap (option_and_then (asked_in place)) (rest_found front rest)
    ∙ ap (option_map (λ (thing : About). (place, thing)))
    (thing_found (shape_of place) rest thing it.names)
