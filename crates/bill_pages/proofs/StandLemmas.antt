-- What stands in a text: what is made of one of a list in what is made of all.
use Rattle.std.proofs.Common.{◌≡◌, ◌∙◌, Bool, true, Contains, List, ℕ, [], ◌∷◌, ◌++◌, ap, append-nil}
use Rattle.std.proofs.Common.{append_assoc, arith, flat_map, if◌then◌else◌, length, lt-ltb, nat_lt}
use Rattle.std.proofs.Common.{subst, sym}
use Rattle.book_model.proofs.PermutedSets.{first_or, has_none}
use Rattle.bill_pages.specs.ShownAlike.{StandsIn}

-- the same texts one after another
three : (a b c d : List ℕ) → a ++ (b ++ c ++ d) ≡ a ++ b ++ c ++ d
three a b c d = simp append_assoc

four : (a b c d e : List ℕ) → a ++ (b ++ c ++ d) ++ e ≡ a ++ b ++ c ++ (d ++ e)
four a b c d e = simp append_assoc

pub behind_two : (all a b : List ℕ) → all ++ a ++ b ≡ all ++ (a ++ b)
behind_two all a b = simp append_assoc

pub behind_three : (all a b c : List ℕ) → all ++ a ++ b ++ c ≡ all ++ (a ++ b ++ c)
behind_three all a b c = simp append_assoc

pub behind_five : (all a b c d e : List ℕ)
    → all ++ a ++ b ++ c ++ d ++ e ≡ all ++ (a ++ b ++ c ++ d ++ e)
behind_five all a b c d e = simp append_assoc

pub behind_six : (all a b c d e f : List ℕ)
    → all ++ a ++ b ++ c ++ d ++ e ++ f ≡ all ++ (a ++ b ++ c ++ d ++ e ++ f)
behind_six all a b c d e f = simp append_assoc

pub two_between : (a b c d : List ℕ) → a ++ b ++ c ++ d ≡ a ++ (b ++ (c ++ [])) ++ d
two_between a b c d = simp (append_assoc, append-nil)

pub in_order : (a b c d e f g : List ℕ) → a ++ b ++ c ++ d ++ e ++ f ++ g
    ≡ a ++ (b ++ (c ++ (d ++ (e ++ (f ++ (g ++ []))))))
in_order a b c d e f g = simp (append_assoc, append-nil)

-- what is made of an element stands in what is made of all
pub each_stands : {X : Type 0} (f : X → List ℕ) (xs : List X) (x : X) → Contains xs x
    → StandsIn (f x) (flat_map f xs)
each_stands f [] x among = has_none x among
each_stands f (y ∷ ys) x among =
    first_or y ys x among
    (λ same. record { front = []; behind = flat_map f ys; is = ap (λ z. f z ++ flat_map f ys) same })
    (λ later.
    let rest = each_stands f ys x later in
    record {
      front = f y ++ rest.front;
      behind = rest.behind;
      is = ap (λ z. f y ++ z) rest.is ∙ three (f y) rest.front (f x) rest.behind;
    })

-- and what stands in a text stands in a longer one
in_longer : (part all front behind : List ℕ) → StandsIn part all
    → StandsIn part (front ++ all ++ behind)
in_longer part all front behind stands = record {
  front = front ++ stands.front;
  behind = stands.behind ++ behind;
  is = ap (λ z. front ++ z ++ behind) stands.is ∙ four front stands.front part stands.behind behind;
}

pub stands_twice : (part middle all : List ℕ) → StandsIn part middle → StandsIn middle all
    → StandsIn part all
stands_twice part middle all inner outer =
    subst (StandsIn part) (sym outer.is) (in_longer part middle outer.front outer.behind inner)

-- where a list has an element, what is shown of such lists is shown
pub has_some : {X : Type 0} (xs : List X) (x : X) → Contains xs x → nat_lt 0 (length xs) ≡ true
has_some [] x among = has_none x among
has_some (y ∷ ys) x among = lt-ltb 0 (length (y ∷ ys)) (omega arith)

pub if_shown : (part all : List ℕ) (shown : Bool) → shown ≡ true → StandsIn part all
    → StandsIn part (if shown then all else [])
if_shown part all shown is stands =
    subst (λ b. StandsIn part (if b then all else [])) (sym is) stands
