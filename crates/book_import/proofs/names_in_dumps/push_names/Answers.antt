use Rattle.std.proofs.Common.{◌∙◌, ◌++◌, ◌∷◌, [], List, ℕ, Vec, Global, ap, append-nil, append_assoc, map}
use Rattle.std.proofs.Common.{sym, take, take_all}
use Rattle.std.proofs.lemmas.List.{map-append, take_more}
use Rattle.book_model.specs.Records.{name_of}
use Rattle.book_import.proofs.names_in_dumps.push_names.Goals as goal

pub loop-one-init : goal.loop-one-init
loop-one-init g c = sym (append-nil c.args.names.now.items)

-- one more name
pub loop-one-preserved : goal.loop-one-preserved
loop-one-preserved g c =
    let name : Vec ℕ Global → List ℕ =
    λ one. name_of (g.N.Naming.name_of c.args.naming.now) one.items in
    let old = c.args.names.now.items in
    let usage = c.args.usage.now in
    let i = c.loop-one.one-index in
    let one = c.one-item.result in
    c.in_ok-push_name.ensures
    ∙ ap (λ (bytes : List ℕ). c.loop-one.names.items
    ++ name_of (g.N.Naming.name_of c.args.naming.now) bytes ∷ []) c.deref.ensures.value
    ∙ ap (λ (names : List (List ℕ)). names ++ name one ∷ []) c.loop-one.invariant
    ∙ append_assoc old (map name (take i usage)) (name one ∷ [])
    ∙ ap (λ (names : List (List ℕ)). old ++ names)
    (ap (λ (one : Vec ℕ Global). map name (take i usage) ++ name one ∷ []) c.one-item.is
    ∙ sym (map-append name (take i usage) (_ ∷ []))
    ∙ ap (map name) (sym (take_more usage i one c.loop-one-test.true)))

-- these are all
pub returns : goal.returns
returns g c =
    c.loop-one.invariant
    ∙ ap (λ (all : List (Vec ℕ Global)). c.args.names.now.items
    ++ map (λ (one : Vec ℕ Global). name_of (g.N.Naming.name_of c.args.naming.now) one.items) all)
    (take_all c.loop-one.one-index c.args.usage.now c.loop-one-test.false)
