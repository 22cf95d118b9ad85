-- Booked sums are near what is owed.
use Rattle.std.proofs.Common.{◌≡◌, ◌∙◌, ℕ, zero, suc, ◌+◌, ◌-◌, ◌*◌, ◌/◌, ◌≤◌, ◌<◌, ℤ, pos, negsuc}
use Rattle.std.proofs.Common.{◌+ℤ◌, ◌-ℤ◌, List, [], ◌∷◌, ◌++◌, refl, sym, ap, map, length, take}
use Rattle.std.proofs.Common.{get_or, arith, inl, inr, subst}
use Rattle.std.proofs.lemmas.Bool.{cases_lt}
use Rattle.std.proofs.lemmas.List.{take_more}
use Rattle.std.proofs.lemmas.Nat.{div-mul-add}
use Rattle.std.specs.Prelude.{neg_ℤ, ◌*ℤ◌, unsigned_abs}
use Rattle.book_model.proofs.Std.{ints}
use Rattle.report_texts.specs.declared.charges.CentreCharges.{CentreCharges}
use Rattle.bill_texts.specs.Booked.{BookedIsNearest, BookedTogether, IsNear, booked, booked_of_all}
use Rattle.bill_texts.specs.Booked.{nearest, owed_by, sum_of}

-- so many units are no more than half of one above the amount, and no more than half below
pub no_higher : (unit amount : ℕ) → 0 < unit → 2 * (nearest unit amount * unit) ≤ 2 * amount + unit
no_higher unit amount some = omega arith

pub no_lower : (unit amount : ℕ) → 0 < unit → 2 * amount ≤ 2 * (nearest unit amount * unit) + unit
no_lower unit amount some = omega arith

-- numbers that are so near, as differences
apart : (x y k : ℕ) → 2 * x ≤ 2 * y + k → 2 * y ≤ 2 * x + k → 2 * unsigned_abs (pos x -ℤ pos y) ≤ k
apart x y k high low = omega (arith, ints)

-- the same below zero
apart_below : (x y k : ℕ) → 2 * x ≤ 2 * y + k → 2 * y ≤ 2 * x + k
    → 2 * unsigned_abs (neg_ℤ (pos x) -ℤ neg_ℤ (pos y)) ≤ k
apart_below x y k high low = omega (arith, ints)

-- so many units below zero
scaled : (count unit : ℕ) → neg_ℤ (pos count) *ℤ pos unit ≡ neg_ℤ (pos (count * unit))
scaled zero unit = omega (arith, ints)
scaled (suc count) unit = refl

near : (unit : ℕ) (owed : ℤ) → 0 < unit → IsNear 1 unit owed (booked unit owed)
near unit (pos amount) some =
    let close = apart (nearest unit amount * unit) amount unit (no_higher unit amount some)
    (no_lower unit amount some) in
    omega arith
near unit (negsuc less) some =
    let close = apart_below (nearest unit (suc less) * unit) (suc less) unit
    (no_higher unit (suc less) some) (no_lower unit (suc less) some) in
    let same = scaled (nearest unit (suc less)) unit in
    subst (λ z. 2 * unsigned_abs (z -ℤ negsuc less) ≤ 1 * unit) (sym same) (omega arith)

half_away : (half count : ℕ) → 0 < half → nearest (2 * half) (count * (2 * half) + half) ≡ count + 1
half_away half count some =
    let halves : 2 * half / 2 ≡ half = omega arith in
    let sum : count * (2 * half) + half + half ≡ (count + 1) * (2 * half) + 0 = omega arith in
    ap (λ rest. (count * (2 * half) + half + rest) / (2 * half)) halves
    ∙ ap (λ sum. sum / (2 * half)) sum
    ∙ div-mul-add (count + 1) (2 * half) 0 (omega arith)

whole : (unit count : ℕ) → 0 < unit → booked unit (pos (count * unit)) ≡ pos count
whole unit count some =
    let small : unit / 2 < unit = omega arith in
    ap pos (div-mul-add count unit (unit / 2) small)

-- twice the other way round is the same
neg_twice : (count : ℕ) → neg_ℤ (neg_ℤ (pos count)) ≡ pos count
neg_twice zero = refl
neg_twice (suc count) = refl

mirrored : (unit : ℕ) (owed : ℤ) → 0 < unit → booked unit (neg_ℤ owed) ≡ neg_ℤ (booked unit owed)
mirrored unit (pos zero) some =
    let none : 0 ≡ 0 * unit = omega arith in
    let nothing : nearest unit 0 ≡ 0 =
    ap (λ n. (n + unit / 2) / unit) none ∙ div-mul-add 0 unit (unit / 2) (omega arith) in
    ap pos nothing ∙ sym (ap (λ n. neg_ℤ (pos n)) nothing)
mirrored unit (pos (suc amount)) some = refl
mirrored unit (negsuc less) some = sym (neg_twice (nearest unit (suc less)))

-- the law of one sum
pub booked_is_nearest : BookedIsNearest
booked_is_nearest =
    record { near = near; halves = half_away; whole = whole; mirrored = mirrored }

-- two sums together
both_near : (a b o s : ℤ) (j k : ℕ) → 2 * unsigned_abs (a -ℤ o) ≤ j → 2 * unsigned_abs (b -ℤ s) ≤ k
    → 2 * unsigned_abs ((a +ℤ b) -ℤ (o +ℤ s)) ≤ j + k
both_near a b o s j k one others = omega (arith, ints)

-- what is left where as much is taken as was there, or more
taken : (x y : ℕ) → pos (x + y) +ℤ neg_ℤ (pos y) ≡ pos x
taken x y = omega (arith, ints)

owing : (x y : ℕ) → pos x +ℤ neg_ℤ (pos (x + y)) ≡ neg_ℤ (pos y)
owing x y = omega (arith, ints)

both_owing : (x y : ℕ) → neg_ℤ (pos x) +ℤ neg_ℤ (pos y) ≡ neg_ℤ (pos (x + y))
both_owing x y = omega (arith, ints)

-- so many units of what is left are what is left of so many units
dist_more : (d b unit : ℕ) → (pos (d + suc b) +ℤ negsuc b) *ℤ pos unit
    ≡ pos ((d + suc b) * unit) +ℤ neg_ℤ (pos (suc b * unit))
dist_more d b unit =
    let sum : pos (d + suc b) +ℤ negsuc b ≡ pos d = omega (arith, ints) in
    let parts : (d + suc b) * unit ≡ d * unit + suc b * unit = omega arith in
    ap (λ z. z *ℤ pos unit) sum
    ∙ sym (ap (λ n. pos n +ℤ neg_ℤ (pos (suc b * unit))) parts ∙ taken (d * unit) (suc b * unit))

dist_less : (a d unit : ℕ) → (pos a +ℤ negsuc (a + d)) *ℤ pos unit
    ≡ pos (a * unit) +ℤ neg_ℤ (pos (suc (a + d) * unit))
dist_less a d unit =
    let sum : pos a +ℤ negsuc (a + d) ≡ negsuc d = omega (arith, ints) in
    let parts : suc (a + d) * unit ≡ a * unit + suc d * unit = omega arith in
    ap (λ z. z *ℤ pos unit) sum
    ∙ sym (ap (λ n. pos (a * unit) +ℤ neg_ℤ (pos n)) parts ∙ owing (a * unit) (suc d * unit))

dist_mixed : (a b unit : ℕ) → (pos a +ℤ negsuc b) *ℤ pos unit
    ≡ pos (a * unit) +ℤ neg_ℤ (pos (suc b * unit))
dist_mixed a b unit =
    elim (cases_lt b a) [
      | inl below ↦
          let same : a - suc b + suc b ≡ a = omega arith in
          subst (λ n. (pos n +ℤ negsuc b) *ℤ pos unit
          ≡ pos (n * unit) +ℤ neg_ℤ (pos (suc b * unit))) same (dist_more (a - suc b) b unit)
      | inr above ↦
          let same : a + (b - a) ≡ b = omega arith in
          subst (λ n. (pos a +ℤ negsuc n) *ℤ pos unit
          ≡ pos (a * unit) +ℤ neg_ℤ (pos (suc n * unit))) same (dist_less a (b - a) unit)
    ]

-- so many units of two numbers
dist : (a b : ℤ) (unit : ℕ) → (a +ℤ b) *ℤ pos unit ≡ (a *ℤ pos unit) +ℤ (b *ℤ pos unit)
dist (pos a) (pos b) unit = omega (arith, ints)
dist (pos a) (negsuc b) unit = dist_mixed a b unit
dist (negsuc a) (pos b) unit =
    let turned : negsuc a +ℤ pos b ≡ pos b +ℤ negsuc a = omega (arith, ints) in
    let back : pos (b * unit) +ℤ neg_ℤ (pos (suc a * unit)) ≡ neg_ℤ (pos (suc a * unit)) +ℤ pos (b * unit) =
    omega (arith, ints) in
    ap (λ z. z *ℤ pos unit) turned ∙ dist_mixed b a unit ∙ back
dist (negsuc a) (negsuc b) unit =
    let parts : suc (suc (a + b)) * unit ≡ suc a * unit + suc b * unit = omega arith in
    ap (λ n. neg_ℤ (pos n)) parts ∙ sym (both_owing (suc a * unit) (suc b * unit))

-- the law of several
pub booked_together : BookedTogether
booked_together unit [] some = omega (arith, ints)
booked_together unit (owed ∷ others) some =
    let first = near unit owed some in
    let rest = booked_together unit others some in
    let both = both_near (booked unit owed *ℤ pos unit) (booked_of_all unit others *ℤ pos unit) owed
    (sum_of others) (1 * unit) (length others * unit) first rest in
    subst (λ z. 2 * unsigned_abs (z -ℤ (owed +ℤ sum_of others)) ≤ suc (length others) * unit)
    (sym (dist (booked unit owed) (booked_of_all unit others) unit)) (omega arith)

-- what is booked for one more centre joins the others
booked_push : (unit : ℕ) (each : List CentreCharges) (last : CentreCharges)
    → booked_of_all unit (map owed_by (each ++ last ∷ []))
    ≡ booked_of_all unit (map owed_by each) +ℤ booked unit (owed_by last)
booked_push unit [] last = omega (arith, ints)
booked_push unit (first ∷ each) last =
    let rest = booked_push unit each last in
    omega (arith, ints)

-- so the next one's joins what is booked for those before
pub booked_more : (unit : ℕ) (each : List CentreCharges) (i : ℕ) (one : CentreCharges)
    → i < length each
    → booked_of_all unit (map owed_by (take (i + 1) each))
    ≡ booked_of_all unit (map owed_by (take i each)) +ℤ booked unit (owed_by (get_or each i one))
booked_more unit each i one inside =
    ap (λ some. booked_of_all unit (map owed_by some)) (take_more each i one inside)
    ∙ booked_push unit (take i each) (get_or each i one)
