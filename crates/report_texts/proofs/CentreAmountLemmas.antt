-- Amounts by centre, one more at a time; and what all centres are charged by them.
use Rattle.std.proofs.Common.{◌≡◌, ◌∙◌, ℕ, ◌+◌, ◌<◌, ◌≤◌, Bool, true, false, List, [], ◌∷◌, ◌++◌}
use Rattle.std.proofs.Common.{ap, append-nil, arith, cond, get_or, length, map, refl, subst, sym}
use Rattle.std.proofs.Common.{take, Some, unwrap_or, if◌then◌else◌, filter, sum_by, take_all}
use Rattle.std.specs.BTreeMap.{is_at}
use Rattle.std.specs.Map.{lookup}
use Rattle.std.proofs.lemmas.List.Elements.{filter_more}
use Rattle.std.proofs.lemmas.List.Sums.{sum_by_more_le}
use Rattle.book_model.proofs.Std.{bytes_decides, texts_ties, sum_by_push}
use Rattle.book_model.specs.Words.{by_bytes, same_bytes}
use Rattle.report_texts.proofs.Words.{Line, ChargeRow, AreAmounts, cost_among}
use Rattle.report_texts.specs.CentreAmounts.{AreCharges, charges_among, side_amount, with_amount}
use Rattle.report_texts.specs.Charges.{centre_charges}
use Rattle.report_texts.specs.declared.centre_amounts.CentreAmounts.{CentreAmounts}
use Rattle.report_texts.specs.declared.charges.CentreCharges.{CentreCharges}
use Rattle.report_texts.specs.declared.charges.CreditAmount.{CreditAmount}
use Rattle.report_texts.proofs.AmountLemmas.{charged_within, reversed_within}
use Rattle.report_texts.proofs.CentreLemmas.{filter_most}

-- what a centre has, once the amount that was found for another, or for it, has grown
pub amount_joined : (amounts : List (List ℕ × ℕ)) (joined centre : List ℕ) (had amount : ℕ)
    → had ≡ cost_among amounts joined
    → unwrap_or (cond (is_at (by_bytes joined) centre) (Some (had + amount))
    (lookup (is_at (by_bytes centre)) amounts)) 0
    ≡ with_amount amounts joined amount centre
amount_joined amounts joined centre had amount found =
    ap (λ b. unwrap_or (cond b (Some (had + amount)) (lookup (is_at (by_bytes centre)) amounts)) 0)
    (sym (texts_ties joined centre))
    ∙ by (same_bytes joined centre) refl
  where
    by : (b : Bool) → same_bytes joined centre ≡ b
        → unwrap_or (cond b (Some (had + amount)) (lookup (is_at (by_bytes centre)) amounts)) 0
        ≡ cost_among amounts centre + (if b then amount else 0)
    by true e =
        let same = (bytes_decides joined centre).0 e in
        ap (λ n. n + amount) (found ∙ ap (cost_among amounts) same)
    by false e = omega arith

module _ {X : Type 0} (centre_of : X → List ℕ) (amount : X → ℕ) where
  -- what the elements of a centre come to
  abbrev pub own : List X → List ℕ → ℕ
  own xs centre = sum_by amount (filter (λ x. same_bytes (centre_of x) centre) xs)

  -- with the next element that is no more than all come to
  pub own_fits : (xs : List X) (i : ℕ) (x : X) (amounts : List (List ℕ × ℕ)) → i < length xs
      → x ≡ get_or xs i x → AreAmounts amounts (own (take i xs))
      → cost_among amounts (centre_of x) + amount x ≤ sum_by amount xs
  own_fits xs i x amounts inside is kept =
      let had = kept (centre_of x) in
      let most = filter_most (λ one. same_bytes (centre_of one) (centre_of x)) amount (take i xs) in
      let more = sum_by_more_le amount xs i x inside in
      let next = ap amount is in
      omega arith

  -- an element joins those of its centre
  own_push : (here : List X) (x : X) (b : Bool)
      → sum_by amount (here ++ cond b (x ∷ []) []) ≡ sum_by amount here + (if b then amount x else 0)
  own_push here x true = sum_by_push amount here x
  own_push here x false =
      let none = ap (sum_by amount) (append-nil here) in
      omega arith

  -- so does the next one, and its amount
  pub own_more : (xs : List X) (i : ℕ) (x : X) (amounts more : List (List ℕ × ℕ)) → i < length xs
      → x ≡ get_or xs i x → AreAmounts amounts (own (take i xs))
      → AreAmounts more (with_amount amounts (centre_of x) (amount x))
      → AreAmounts more (own (take (i + 1) xs))
  own_more xs i x amounts more inside is kept joined = λ centre.
      let passes : X → Bool = λ one. same_bytes (centre_of one) centre in
      let here = filter passes (take i xs) in
      joined centre
      ∙ ap (λ had. had + (if passes x then amount x else 0)) (kept centre)
      ∙ sym (own_push here x (passes x))
      ∙ ap (λ next. sum_by amount (here ++ cond (passes next) (next ∷ []) [])) is
      ∙ ap (sum_by amount) (sym (filter_more passes xs i x inside))

  -- and after the last one each centre has what all come to
  pub own_all : (xs : List X) (i : ℕ) (amounts : List (List ℕ × ℕ)) → length xs ≤ i
      → AreAmounts amounts (own (take i xs)) → AreAmounts amounts (own xs)
  own_all xs i amounts over kept = subst (λ all. AreAmounts amounts (own all)) (take_all i xs over) kept

-- what lines reverse, or what they charge, is within the sum of all their amounts
pub side_within : (is_reversed : Bool) (lines : List Line)
    → sum_by (side_amount is_reversed) lines ≤ sum_by (λ line. line.priced.amount) lines
side_within true lines = reversed_within lines
side_within false lines = charged_within lines

-- what a centre is charged by amounts
abbrev pub charged_by : CentreAmounts → List ℕ → CentreCharges
charged_by amounts centre = record { centre = centre; charges = charges_among amounts centre }

-- that is what it is charged, where these are its amounts
pub all_charged : (amounts : CentreAmounts) (steps jobs : List ChargeRow) (lines : List Line)
    (credits : List CreditAmount) (centres : List (List ℕ))
    → AreCharges amounts steps jobs lines credits
    → map (charged_by amounts) centres ≡ map (centre_charges steps jobs lines credits) centres
all_charged amounts steps jobs lines credits centres are = λ i. map (λ centre. one centre i) centres
  where
    one : (centre : List ℕ)
        → charged_by amounts centre ≡ centre_charges steps jobs lines credits centre
    one centre = λ i. record {
      centre = centre;
      charges = record {
        steps = are.steps centre i;
        jobs = are.jobs centre i;
        late = are.late centre i;
        reversed = are.reversed centre i;
        credited = are.credited centre i;
        debited = are.debited centre i;
      };
    }
